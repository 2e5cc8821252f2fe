-- What becomes of values when one is raised to what an arc asks, and when that is done again and again.
use Prim.Native.Nat.{ℕ, ◌+◌, ◌*◌, ◌<◌, ◌≤◌}
use mathlib.Core.Bool.{Bool}
use mathlib.Core.List.{List, ◌∷◌}
use mathlib.Core.Path.{◌≡◌, refl, sym, ap, ◌∙◌}
use native.Mathlib.Omega.{arith}
use lib.Dec.{eqb}
use lib.ListN.{length, set, replicate, length-set}
use lib.Seq.{get_or-set_same, get_or-set_other}
use Rattle.lists.specs.Places.{weight}
use Rattle.lists.proofs.Cases.{test, tests, eqb_no}
use Rattle.lists.proofs.Sums.{weight-cons}
use Rattle.lists.proofs.Mapped.{zeros_at}
use Rattle.graph.specs.Graphs.{Graph, size, arcs, before, after, cost, Path}
use Rattle.graph.specs.Faults.{Sound}
use Rattle.graph.specs.Parts.{at, ask, Attained, AtMost, most, Values, Grown, Raised}
use Rattle.graph.proofs.Paths.{cost_most}

-- What stands at a place after one was set: the new value at its own place, the old one elsewhere.
pub set_cases :
    (d : List ℕ) (b v i : ℕ) (X : ℕ → Type 0)
    → b < length d
    → (i ≡ b → X v)
    → X (at d i)
    → X (at (set d b v) i)
set_cases d b v i X h new old =
    test (eqb i b)
    (λ e. let q : i ≡ b = omega tests in rw (q, get_or-set_same d b v 0 h) (new q))
    (λ e. rw (get_or-set_other d b i v 0 (eqb_no i b e)) old)

-- No number is above b after one was set that is not.
pub at_most_set : {b : ℕ} (d : List ℕ) (k v : ℕ) → k < length d → v ≤ b → AtMost b d → AtMost b (set d k v)
at_most_set {b} d k v h le m i = set_cases d k v i (λ (w : ℕ). w ≤ b) h (λ e. le) (m i)

pub at_most_zeros : (n b : ℕ) → AtMost b (replicate n 0)
at_most_zeros n b i = omega (arith, zeros_at n i)

-- What becomes of values when nothing is done, when one thing is done after another, and what values they are then.
module _ (g : Graph) where
  pub grown_none : (b : ℕ) (d : List ℕ) → Grown g b d d
  grown_none b d = record { room = refl; attained = λ A. A; grown = λ i. omega arith; bounded = λ c m i. omega (arith, m i) }

  pub grown_on : {x y : ℕ} (z : ℕ) {d d' d'' : List ℕ} → x + y ≤ z → Grown g x d d' → Grown g y d' d'' → Grown g z d d''
  grown_on {x} z h G H =
      record {
        room = H.room ∙ G.room;
        attained = λ A. H.attained (G.attained A);
        grown = λ i. omega (arith, G.grown i, H.grown i);
        bounded = λ c m i. omega (arith, H.bounded (c + x) (G.bounded c m) i);
      }

  pub grown_values : {x k : ℕ} (j : ℕ) {d d' : List ℕ} → x ≤ most → k + 1 ≤ j → Values g k d → Grown g x d d' → Values g j d'
  grown_values {k = k} j h l V G =
      record {
        room = omega (arith, V.room, G.room);
        attained = G.attained V.attained;
        bounded = λ i. omega (arith, G.bounded (k * most) V.bounded i);
      }

  module _ {n : ℕ} (s : Sound g n) {a : ℕ} (h : a < arcs g) where
    pub attained_set : (d : List ℕ) → size g ≤ length d → Attained g d → Attained g (set d (before g a) (ask g d a))
    attained_set d room A i b =
        let m = s.named a h in
        set_cases d (before g a) (ask g d a) i (λ (v : ℕ). (p : List ℕ) × Path g i p × (weight (cost g) p ≡ v)) (omega (arith, m.0))
        (λ e. let w = A (after g a) m.1 in (a ∷ w.0, (h, sym e, w.1), omega (arith, weight-cons (cost g) a w.0, w.2)))
        (A i b)

    -- An arc raises a value by at most 1,100,000.
    pub raised_grown : {d d' : List ℕ} {rose : Bool} → size g ≤ length d → Raised g a d d' rose → Grown g 1_100_000 d d'
    raised_grown {d} {rose = rose} room R =
        test rose
        (λ e.
        let lt = (R.rises e).0 in
        let b : before g a < length d = omega (arith, (s.named a h).0) in
        let v = ask g d a in
        rw (R.rises e).1
        (record {
          room = simp length-set refl;
          attained = attained_set d room;
          grown = λ i. set_cases d (before g a) v i (λ (w : ℕ). at d i ≤ w) b (λ e. omega (arith, ap (at d) e)) (omega arith);
          bounded =
              λ c m. at_most_set d (before g a) v b (omega (arith, cost_most g s a h, m (after g a))) (λ i. omega (arith, m i));
        }))
        (λ e. rw (R.stays e).1 (grown_none 1_100_000 d))
