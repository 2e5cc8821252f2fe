-- Laws of paths: their places, their lengths and their weights; and a path as long as there are places comes back somewhere.
use Prim.Native.Nat.{ℕ, zero, suc, ◌*◌, ◌<◌, ◌≤◌}
use mathlib.Core.List.{List, [], ◌∷◌, Memᴰ}
use mathlib.Core.Logic.{◌≢◌, ◌⊎◌, inl, inr}
use mathlib.Core.Path.{◌≡◌, refl, sym, ap}
use native.Mathlib.Omega.{arith}
use lib.ListN.{length}
use Rattle.lists.specs.Places.{weight, Nodup}
use Rattle.lists.proofs.Cases.{split}
use Rattle.lists.proofs.Members.{in_cons, or_in, cons-nil}
use Rattle.lists.proofs.Sums.{weight-nil, weight-cons}
use Rattle.lists.proofs.Taken.{few_places}
use Rattle.graph.specs.Graphs.{Graph, size, arcs, after, cost, Path, end}
use Rattle.graph.specs.Faults.{Sound}

-- A path of one to k arcs that comes back to its start.
abbrev pub Returns : Graph → ℕ → Type 0
Returns g k = (i : ℕ) × (p : List ℕ) × (p ≢ []) × Path g i p × (end g i p ≡ i) × (length p ≤ k)

module _ (g : Graph) where
  -- the places that a path comes through, its start included
  visited : ℕ → List ℕ → List ℕ
  visited i [] = i ∷ []
  visited i (a ∷ p) = i ∷ visited (after g a) p

  visited-length : (i : ℕ) (p : List ℕ) → length (visited i p) ≡ suc (length p)
  unfolding visited
  visited-length i [] = refl
  visited-length i (a ∷ p) = ap suc (visited-length (after g a) p)

  -- A path can be left at every place that it comes through,
  up_to :
      (i : ℕ) (p : List ℕ) {j : ℕ} → Path g i p → Memᴰ j (visited i p)
      → (q : List ℕ) × Path g i q × (end g i q ≡ j) × (length q ≤ length p)
  unfolding visited
  up_to i [] h m = in_cons m (λ e. ([], tt, sym e, omega arith)) (λ t. absurd (no t))
    where
      no : {j : ℕ} → Memᴰ j [] → ⊥
      no m = elim m [ ]
  up_to i (a ∷ p) h m =
      in_cons m
      (λ e. ([], tt, sym e, omega arith))
      (λ t. let w = up_to (after g a) p h.2 t in (a ∷ w.0, (h.0, h.1, w.1), w.2, omega (arith, w.3)))

  -- and after every number of arcs.
  pub front : (i k : ℕ) (p : List ℕ) → Path g i p → k ≤ length p → (q : List ℕ) × Path g i q × (length q ≡ k)
  front i zero p h l = ([], tt, refl)
  front i (suc k) [] h l = absurd (omega arith)
  front i (suc k) (a ∷ p) h l =
      let w = front (after g a) k p h.2 (omega arith) in (a ∷ w.0, (h.0, h.1, w.1), ap suc w.2)

  -- A path comes back somewhere, or it comes through no place twice.
  back_or_not : (i : ℕ) (p : List ℕ) → Path g i p → Returns g (length p) ⊎ Nodup (visited i p)
  unfolding visited
  back_or_not i [] h = inr (λ m. elim m [ ], tt)
  back_or_not i (a ∷ p) h =
      split (back_or_not (after g a) p h.2)
      (λ w. inl (w.0, w.1, w.2, w.3, w.4, omega (arith, w.5)))
      (λ d.
      split (or_in i (visited (after g a) p))
      (λ m.
      let q = up_to (after g a) p h.2 m in
      inl (i, a ∷ q.0, (λ e. cons-nil e), (h.0, h.1, q.1), q.2, omega (arith, q.3)))
      (λ n. inr (n, d)))

  module _ {n : ℕ} (s : Sound g n) where
    inside : (i : ℕ) (p : List ℕ) {j : ℕ} → i < size g → Path g i p → Memᴰ j (visited i p) → j < size g
    unfolding visited
    inside i [] b h m = in_cons m (λ e. omega arith) (λ t. absurd (elim t [ ]))
    inside i (a ∷ p) b h m = in_cons m (λ e. omega arith) (λ t. inside (after g a) p (s.named a h.0).1 h.2 t)

    -- A path with as many arcs as there are places comes back somewhere.
    pub long_returns : (i : ℕ) (p : List ℕ) → i < size g → Path g i p → size g ≤ length p → Returns g (size g)
    long_returns i p b h l =
        let q = front i (size g) p h l in
        split (back_or_not i q.0 q.1)
        (λ w. (w.0, w.1, w.2, w.3, w.4, omega (arith, w.5, q.2)))
        (λ d.
        absurd
        (omega (
          arith,
          few_places (size g) (visited i q.0) d (λ j m. inside i q.0 b q.1 m),
          visited-length i q.0,
          q.2,
        )))

    -- An arc adds at least 1 and at most 1,100,000.
    pub cost_least : (a : ℕ) → a < arcs g → 1 ≤ cost g a
    cost_least a h = omega (arith, (s.executions (after g a) (s.named a h).1).0)

    pub cost_most : (a : ℕ) → a < arcs g → cost g a ≤ 1_100_000
    cost_most a h = omega (arith, (s.executions (after g a) (s.named a h).1).1, s.hops a h)

    pub path_least : (i : ℕ) (p : List ℕ) → Path g i p → length p ≤ weight (cost g) p
    path_least i [] h = omega (arith, weight-nil (cost g))
    path_least i (a ∷ p) h =
        omega (arith, weight-cons (cost g) a p, cost_least a h.0, path_least (after g a) p h.2)

    pub path_most : (i : ℕ) (p : List ℕ) → Path g i p → weight (cost g) p ≤ length p * 1_100_000
    path_most i [] h = omega (arith, weight-nil (cost g))
    path_most i (a ∷ p) h =
        omega (arith, weight-cons (cost g) a p, cost_most a h.0, path_most (after g a) p h.2)
