-- Rounds: a whole one, and what all of them show, which is the critical times or a cycle.
use Prim.Native.Nat.{ℕ, ◌+◌, ◌*◌, ◌%◌, ◌<◌, ◌≤◌}
use mathlib.Core.Bool.{Bool, true, false}
use mathlib.Core.List.{List, [], ◌∷◌}
use mathlib.Core.Path.{◌≡◌, refl, ap, ◌∙◌}
use native.Mathlib.Omega.{arith}
use lib.Dec.{leb, eqb}
use lib.ListN.{length}
use lib.Seq.{get_or-set_same}
use Rattle.lists.specs.Places.{weight}
use Rattle.lists.proofs.Cases.{test, clash, tests}
use Rattle.lists.proofs.Sums.{weight-nil, weight-cons}
use Rattle.graph.specs.Graphs.{Graph, size, arcs, before, after, cost, Path, end, Cycle, Heaviest}
use Rattle.graph.specs.Faults.{Sound}
use Rattle.graph.specs.Parts.{at, ask, Attained, Settled, Rises, AtMost, most, arc_at, Values, Grown, Raised, Rounded}
use Rattle.graph.proofs.Paths.{Returns, long_returns, path_least}
use Rattle.graph.proofs.Growing.{grown_none, grown_on, grown_values, raised_grown}

-- A round looks at each arc: what stands where an arc does is looked at when the arc is counted.
arc_twice : (t m a : ℕ) → a < m → (arc_at t m a < m) × (arc_at t m (arc_at t m a) ≡ a)
arc_twice t m a h = test (eqb (t % 2) 0) (λ e. rw e (omega arith, omega arith)) (λ e. rw e (h, refl))

module _ (g : Graph) where
  -- No path of at most k arcs weighs more than the value of its start.
  pub Bounds : ℕ → List ℕ → Type 0
  Bounds k d = (i : ℕ) (p : List ℕ) → Path g i p → length p ≤ k → weight (cost g) p ≤ at d i

  pub bounds_none : (d : List ℕ) → Bounds 0 d
  unfolding Bounds
  bounds_none d i [] h l = omega (arith, weight-nil (cost g))
  bounds_none d i (a ∷ p) h l = absurd (omega arith)

  pub bounds_more :
      (k : ℕ) (d d' : List ℕ)
      → Bounds k d
      → ((a : ℕ) → a < arcs g → ask g d a ≤ at d' (before g a))
      → Bounds (k + 1) d'
  unfolding Bounds
  bounds_more k d d' B raised i [] h l = omega (arith, weight-nil (cost g))
  bounds_more k d d' B raised i (a ∷ p) h l =
      omega (
        arith,
        weight-cons (cost g) a p,
        B (after g a) p h.2 (omega arith),
        raised a h.0,
        ap (at d') h.1,
      )

  -- The path of no arc weighs nothing.
  pub attained_zeros : (d : List ℕ) → AtMost 0 d → Attained g d
  attained_zeros d z i h = ([], tt, omega (arith, weight-nil (cost g), z i))

  -- What a round holds when it has looked at k arcs.
  pub record Going (d₀ d : List ℕ) (t k : ℕ) (rose : Bool) : Type 0 where
    pub grown : Grown g (k * 1_100_000) d₀ d
    pub raised : (j : ℕ) → j < k → ask g d₀ (arc_at t (arcs g) j) ≤ at d (before g (arc_at t (arcs g) j))
    pub rises : rose ≡ true → Rises g d₀
    pub same : rose ≡ false → d ≡ d₀

  pub going_start : (d : List ℕ) (t : ℕ) → Going d d t 0 false
  going_start d t =
      record {
        grown = grown_none g 0 d;
        raised = λ j l. absurd (omega arith);
        rises = λ e. clash e refl;
        same = λ e. refl;
      }

  module _ {n : ℕ} (s : Sound g n) {d₀ d : List ℕ} {t k : ℕ} {rose : Bool} (G : Going d₀ d t k rose) (h : k < arcs g) (room : size g ≤ length d) where
    a : ℕ
    a = arc_at t (arcs g) k

    in_arcs : a < arcs g
    unfolding a
    in_arcs = (arc_twice t (arcs g) k h).0

    module _ {d' : List ℕ} {up : Bool} (R : Raised g a d d' up) where
      one : Grown g 1_100_000 d d'
      one = raised_grown g s in_arcs room R

      -- The start of the k-th arc has what the arc asked.
      here : ask g d a ≤ at d' (before g a)
      here =
          test up
          (λ u. let r = R.rises u in let b : before g a < length d = omega (arith, (s.named a in_arcs).0) in rw (r.1, get_or-set_same d (before g a) (ask g d a) 0 b) (omega arith))
          (λ u. let r = R.stays u in rw r.1 r.0)

      raised_next : (j : ℕ) → j < k + 1 → ask g d₀ (arc_at t (arcs g) j) ≤ at d' (before g (arc_at t (arcs g) j))
      unfolding a
      raised_next j l =
          test (eqb j k)
          (λ f. let q : j ≡ k = omega tests in rw q (omega (arith, here, G.grown.grown (after g a))))
          (λ f. omega (arith, G.raised j (omega tests), one.grown (before g (arc_at t (arcs g) j))))

    pub going_up : {d' : List ℕ} → Raised g (arc_at t (arcs g) k) d d' true → Going d₀ d' t (k + 1) true
    unfolding a
    going_up R =
        record {
          grown = grown_on g _ (omega arith) G.grown (one R);
          raised = raised_next R;
          rises = λ f. test rose G.rises (λ u. (a, in_arcs, rw (G.same u) at (R.rises refl).0));
          same = λ f. clash refl f;
        }

    pub going_stays : {d' : List ℕ} → Raised g (arc_at t (arcs g) k) d d' false → Going d₀ d' t (k + 1) rose
    unfolding a
    going_stays R =
        record {
          grown = grown_on g _ (omega arith) G.grown (one R);
          raised = raised_next R;
          rises = G.rises;
          same = λ f. (R.stays refl).1 ∙ G.same f;
        }

  -- All arcs are looked at.
  pub going_done : {d₀ d : List ℕ} {t : ℕ} {rose : Bool} → arcs g ≤ 1_024 → Going d₀ d t (arcs g) rose → Rounded g d₀ d rose
  going_done {d₀} {d} {t} few G =
      let all : (a : ℕ) → a < arcs g → ask g d₀ a ≤ at d (before g a) =
      λ a h.
      let w = arc_twice t (arcs g) a h in
      rw w.1 at (G.raised (arc_at t (arcs g) a) (omega (arith, w.0)))
      in
      record {
        grown = grown_on g most (omega arith) G.grown (grown_none g 0 d);
        raised = all;
        rises = G.rises;
        settled = λ f a h. let q = G.same f in rw q (rw q at (all a h));
      }

  -- If no arc asks for more, values fall along a path by at least what it weighs.
  falls : (d : List ℕ) → Settled g d → (i : ℕ) (p : List ℕ) → Path g i p → weight (cost g) p + at d (end g i p) ≤ at d i
  falls d S i [] h = omega (arith, weight-nil (cost g))
  falls d S i (a ∷ p) h =
      omega (arith, weight-cons (cost g) a p, falls d S (after g a) p h.2, S a h.0, ap (at d) h.1)

  module _ (d : List ℕ) (S : Settled g d) where
    -- So none comes back,
    pub settled_acyclic : {n : ℕ} → Sound g n → Cycle g → ⊥
    settled_acyclic s (i, [], n, h, e) = n refl
    settled_acyclic s (i, a ∷ p, n, h, e) =
        omega (arith, falls d S i (a ∷ p) h, path_least g s i (a ∷ p) h, ap (at d) e)

    -- and the values are the greatest weights.
    pub settled_heaviest : Attained g d → (i : ℕ) → i < size g → Heaviest g i (at d i)
    settled_heaviest A i h = (A i h, λ p q. omega (arith, falls d S i p q))

  -- An arc that asks for more than any path of as many arcs as there are places is the first of a path with more.
  pub rises_returns : {n k : ℕ} (d : List ℕ) → Sound g n → Attained g d → Bounds k d → size g ≤ k → Rises g d → Returns g (size g)
  unfolding Bounds
  rises_returns {k = k} d s A B few (a, h, lt) =
      let w = A (after g a) (s.named a h).1 in
      let p : Path g (before g a) (a ∷ w.0) = (h, refl, w.1) in
      long_returns g s (before g a) (a ∷ w.0) (s.named a h).0 p
      (test (leb (length (a ∷ w.0)) k)
      (λ e.
      absurd
      (omega (
        arith,
        B (before g a) (a ∷ w.0) p (omega tests),
        weight-cons (cost g) a w.0,
        w.2,
      )))
      (λ e. omega tests))

  -- What holds after t rounds that all raised something.
  pub record Turning (d : List ℕ) (t : ℕ) : Type 0 where
    pub values : Values g (2 * t) d
    pub bounds : Bounds t d
    pub cycle : size g < t → Cycle g

  pub turning_start : (d : List ℕ) → size g ≤ length d → AtMost 0 d → Turning d 0
  turning_start d room z =
      record {
        values = record { room = room; attained = attained_zeros d z; bounded = z };
        bounds = bounds_none d;
        cycle = λ h. absurd (omega arith);
      }

  -- The next round starts from what this one left, or from what was guessed on it.
  pub turning_on : {n t : ℕ} {d d' d'' : List ℕ} → Sound g n → Turning d t → t ≤ size g → Rounded g d d' true → Grown g most d' d'' → Turning d'' (t + 1)
  turning_on {t = t} {d} {d'} {d''} s T few R G =
      record {
        values = grown_values g (2 * (t + 1)) (omega arith) (omega arith) (grown_values g (2 * t + 1) (omega arith) (omega arith) T.values R.grown) G;
        bounds = bounds_more t d d'' T.bounds (λ a h. omega (arith, R.raised a h, G.grown (before g a)));
        cycle =
            λ h.
            let w = rises_returns d s T.values.attained T.bounds (omega arith) (R.rises refl) in
            (w.0, w.1, w.2, w.3, w.4);
      }
