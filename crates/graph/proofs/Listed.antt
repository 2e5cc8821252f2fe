-- All paths in one list: it has exactly those of at most k arcs. So the critical time that is read off it is the greatest
-- weight of any path, and a cycle is seen exactly if there is one.
use Prim.Native.Nat.{ℕ, zero, suc, ◌<◌, ◌≤◌}
use mathlib.Core.Bool.{Bool, true, false}
use mathlib.Core.List.Memᴰ
use mathlib.Core.List.{List, [], ◌∷◌, map, flat_map, Memᴰ}
use mathlib.Core.Logic.{◌⊎◌, inl, inr}
use mathlib.Core.Path.{◌≡◌, refl, sym, ◌∙◌, subst}
use native.Mathlib.Omega.{arith}
use borrow.Author.Tests.{eqb-true, eq-eqb}
use lib.Dec.{eqb, leb, ltb}
use lib.ListN.{length}
use Rattle.lists.specs.Places.{places, weight}
use Rattle.lists.proofs.Cases.{split, test, clash, tests}
use Rattle.lists.proofs.Members.{cons-nil, in_filled, filter_in, in_filter, places_in, in_places}
use Rattle.lists.proofs.Searched.{some_cases}
use Rattle.lists.proofs.Sums.{greatest_ge, greatest_in}
use Rattle.graph.specs.Graphs.{Graph, size, arcs, before, after, cost, Path, Cycle, Heaviest}
use Rattle.graph.specs.Faults.{Sound}
use Rattle.graph.specs.Answers.{leaving, paths, critical, comes_back, any_of, cyclic}
use Rattle.graph.proofs.Paths.{Returns, long_returns}

-- What stands in one of many lists stands in them joined, and back.
in_joined : {p : List ℕ} (f : ℕ → List (List ℕ)) (xs : List ℕ) {a : ℕ} → Memᴰ a xs → Memᴰ p (f a) → Memᴰ p (flat_map f xs)
unfolding flat_map
in_joined f [] m h = absurd (Memᴰ.not-nil m)
in_joined {p} f (x ∷ xs) {a} m h =
    split (Memᴰ.cases_cons m)
    (λ e. Memᴰ.append_left (flat_map f xs) (subst (λ (y : ℕ). Memᴰ p (f y)) e h))
    (λ t. Memᴰ.append_right (f x) (in_joined f xs t h))

joined_in : {p : List ℕ} (f : ℕ → List (List ℕ)) (xs : List ℕ) → Memᴰ p (flat_map f xs) → (a : ℕ) × Memᴰ a xs × Memᴰ p (f a)
unfolding flat_map
joined_in f [] m = absurd (Memᴰ.not-nil m)
joined_in f (x ∷ xs) m =
    split (Memᴰ.append_cases (f x) m)
    (λ h. (x, Memᴰ.head refl, h))
    (λ t. let w = joined_in f xs t in (w.0, Memᴰ.tail w.1, w.2))

module _ (g : Graph) where
  leaving_in : (i a : ℕ) → Memᴰ a (leaving g i) → (a < arcs g) × (before g a ≡ i)
  leaving_in i a m =
      let w = filter_in (λ b. eqb (before g b) i) (places (arcs g)) m in (places_in (arcs g) a w.0, eqb-true _ _ w.1)

  in_leaving : (i a : ℕ) → a < arcs g → before g a ≡ i → Memᴰ a (leaving g i)
  in_leaving i a h e = in_filter (λ b. eqb (before g b) i) (places (arcs g)) (in_places (arcs g) a h) (eq-eqb _ _ e)

  -- The paths of the list are those of at most k arcs.
  pub paths_in : (k i : ℕ) (p : List ℕ) → Memᴰ p (paths g k i) → Path g i p × (length p ≤ k)
  unfolding paths
  paths_in zero i p m = split (Memᴰ.cases_cons m) (λ e. rw e (tt, omega arith)) (λ t. absurd (Memᴰ.not-nil t))
  paths_in (suc k) i p m =
      split (Memᴰ.cases_cons m)
      (λ e. rw e (tt, omega arith))
      (λ t.
      let w = joined_in (λ a. map (λ q. a ∷ q) (paths g k (after g a))) (leaving g i) t in
      let q = Memᴰ.of_map (λ q. w.0 ∷ q) (paths g k (after g w.0)) w.2 in
      let l = leaving_in i w.0 w.1 in
      let h = paths_in k (after g w.0) q.0 q.1 in
      subst (λ (r : List ℕ). Path g i r × (length r ≤ suc k)) q.2 ((l.0, l.1, h.0), omega (arith, h.1)))

  pub in_paths : (k i : ℕ) (p : List ℕ) → Path g i p → length p ≤ k → Memᴰ p (paths g k i)
  unfolding paths
  in_paths zero i [] h l = Memᴰ.head refl
  in_paths (suc k) i [] h l = Memᴰ.head refl
  in_paths zero i (a ∷ p) h l = absurd (omega arith)
  in_paths (suc k) i (a ∷ p) h l =
      Memᴰ.tail
      (in_joined (λ b. map (λ q. b ∷ q) (paths g k (after g b))) (leaving g i) (in_leaving i a h.0 h.1)
      (Memᴰ.map (λ q. a ∷ q) (in_paths k (after g a) p h.2 (omega arith))))

  -- Some path of a list passes a test, or none does.
  any_cases :
      (P : List ℕ → Bool) (ps : List (List ℕ))
      → ((any_of P ps ≡ false) × ((p : List ℕ) → Memᴰ p ps → P p ≡ false))
      ⊎ ((any_of P ps ≡ true) × (p : List ℕ) × Memᴰ p ps × (P p ≡ true))
  unfolding any_of
  any_cases P [] = inl (refl, λ p m. absurd (Memᴰ.not-nil m))
  any_cases P (q ∷ ps) =
      test (P q)
      (λ e. inr (rw e, q, Memᴰ.head refl, e))
      (λ e.
      split (any_cases P ps)
      (λ h. inl (rw e h.0, λ p m. split (Memᴰ.cases_cons m) (λ d. rw d e) (h.1 p)))
      (λ h. inr (rw e h.0, h.1, Memᴰ.tail h.2, h.3)))

  comes_back_lem : (i : ℕ) (p : List ℕ) → comes_back g i p ≡ true → Path g i p → Cycle g
  comes_back_lem i [] e h = clash e refl
  comes_back_lem i (a ∷ p) e h = (i, a ∷ p, (λ z. cons-nil z), h, eqb-true _ _ e)

  pub cyclic_so : cyclic g ≡ true → Cycle g
  unfolding cyclic
  cyclic_so e =
      split (some_cases (λ i. any_of (comes_back g i) (paths g (size g) i)) (size g))
      (λ h. clash e h.0)
      (λ h.
      split (any_cases (comes_back g h.1) (paths g (size g) h.1))
      (λ q. clash h.3 q.0)
      (λ q. comes_back_lem h.1 q.1 q.3 (paths_in (size g) h.1 q.1 q.2).0))

  module _ {n : ℕ} (s : Sound g n) where
    -- A cycle of at most as many arcs as there are places is seen,
    returns_seen : Returns g (size g) → cyclic g ≡ true
    unfolding cyclic
    returns_seen (i, [], n, h, e, l) = absurd (n refl)
    returns_seen (i, a ∷ p, n, h, e, l) =
        split (some_cases (λ i. any_of (comes_back g i) (paths g (size g) i)) (size g))
        (λ w.
        let b : i < size g = omega (arith, (s.named a h.0).0, h.1) in
        split (any_cases (comes_back g i) (paths g (size g) i))
        (λ q. clash (eq-eqb _ _ e) (q.1 (a ∷ p) (in_paths (size g) i (a ∷ p) h l)))
        (λ q. clash q.0 (w.1 i b)))
        (λ w. w.0)

    -- and a longer one has such a one in it.
    pub cycle_seen : Cycle g → cyclic g ≡ true
    cycle_seen (i, [], n, h, e) = absurd (n refl)
    cycle_seen (i, a ∷ p, n, h, e) =
        test (leb (length (a ∷ p)) (size g))
        (λ l. returns_seen (i, a ∷ p, n, h, e, omega tests))
        (λ l. returns_seen (long_returns g s i (a ∷ p) (omega (arith, (s.named a h.0).0, h.1)) h (omega tests)))

    module _ (acyclic : Cycle g → ⊥) where
      -- Where no path comes back, none has as many arcs as there are places.
      pub path_short : (i : ℕ) (p : List ℕ) → i < size g → Path g i p → length p < size g
      path_short i p b h =
          test (ltb (length p) (size g))
          (λ e. omega tests)
          (λ e. let w = long_returns g s i p b h (omega tests) in absurd (acyclic (w.0, w.1, w.2, w.3, w.4)))

      -- The greatest weight in the list is that of some path, and no path weighs more.
      pub critical_heaviest : (i : ℕ) → i < size g → Heaviest g i (critical g i)
      critical_heaviest i b =
          let ps = paths g (size g) i in
          let ws = map (weight (cost g)) ps in
          let seen : (p : List ℕ) → Path g i p → Memᴰ (weight (cost g) p) ws =
          λ p h. Memᴰ.map (weight (cost g)) (in_paths (size g) i p h (omega (arith, path_short i p b h)))
          in
          let top = greatest_in (λ w. w) ws (in_filled (seen [] tt)) in
          let q = Memᴰ.of_map (weight (cost g)) ps top.1 in
          ((q.0, (paths_in (size g) i q.0 q.1).0, q.2 ∙ sym top.2), λ p h. greatest_ge (λ w. w) ws (seen p h))

-- There is one greatest weight.
pub heaviest_one : (g : Graph) (i w v : ℕ) → Heaviest g i w → Heaviest g i v → w ≡ v
heaviest_one g i w v a b =
    omega (arith, a.1 b.0.0 b.0.1, b.1 a.0.0 a.0.1, a.0.2, b.0.2)
