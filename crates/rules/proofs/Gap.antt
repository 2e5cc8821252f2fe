-- What follows from the base being the latest of the tails that complete last: a tail that starts later completes
-- earlier, so no service of the base is done before its completion; and those released before the base have room until
-- it starts.
use Prim.Native.Nat.{ℕ, ◌+◌, ◌-◌, ◌≤◌, ◌<◌}
use mathlib.Core.Bool.{Bool, true, false, cond, not, ◌&&◌}
use mathlib.Core.List.{List, [], ◌∷◌, Memᴰ}
use mathlib.Core.Path.{◌≡◌, ap}
use native.Mathlib.Omega.{arith}
use borrow.Author.Tests.{leb-true, le-leb, lt-leb, not-true}
use lib.Dec.{ltb, leb}
use Rattle.lists.specs.Places.{filter, weight, least, InOrder}
use Rattle.lists.proofs.Cases.{split, test, tests, tested, both}
use Rattle.lists.proofs.Members.{or_filled, filter_in, filled}
use Rattle.lists.proofs.Sums.{weight-nil, weight_le, weight-filter, weight_parts, weight_picked, least_most}
use Rattle.rules.specs.Method.{best, base}
use Rattle.rules.proofs.Tails.{weight-base, t1_le, late_room, attained, latest, base_threshold}

-- Two subsets that have nobody in common, inside a third.
weight_apart :
    (f : ℕ → ℕ) (U X Y : ℕ → Bool) (xs : List ℕ)
    → ((i : ℕ) → U i ≡ true → (X i ≡ false) × (Y i ≡ true))
    → ((i : ℕ) → X i ≡ true → Y i ≡ true)
    → weight f (filter U xs) + weight f (filter X xs) ≤ weight f (filter Y xs)
unfolding filter weight
weight_apart f U X Y [] h k = omega arith
weight_apart f U X Y (x ∷ xs) h k =
    let ih = weight_apart f U X Y xs h k in
    test (U x)
    (λ u. rw (u, (h x u).0, (h x u).1) (omega arith))
    (λ u.
    test (X x)
    (λ v. rw (u, v, k x v) (omega arith))
    (λ v. test (Y x) (λ y. rw (u, v, y) (omega arith)) (λ y. rw (u, v, y) ih)))

module _ (r c : ℕ → ℕ) where
  -- A subset of the base weighs no more than that subset of all.
  weight_of_base : (f : ℕ → ℕ) (U : ℕ → Bool) (xs : List ℕ) → weight f (filter U (base r c xs)) ≤ weight f (filter U xs)
  weight_of_base f U xs =
      omega (arith, weight_picked f U (base r c xs), weight_picked f U xs, weight-base r c (λ i. cond (U i) (f i) 0) xs)

  module _ (xs : List ℕ) (sorted : InOrder r xs) where
    -- What is released at or after a moment that lies between the base's start and the best completes before the best.
    pub later_room :
        (f : ℕ) → least r (base r c xs) < f → f < best r c xs → f + weight c (filter (λ i. leb f (r i)) xs) < best r c xs
    later_room f lo hi =
        let U : ℕ → Bool = λ i. leb f (r i) in
        let h = t1_le r c U xs in
        split (or_filled (filter U xs))
        (λ e. omega (arith, ap (weight c) e, weight-nil c))
        (λ n.
        let l = least_most r f (filter U xs) n (λ i m. leb-true f (r i) (filter_in U xs m).1) in
        test (ltb (f + weight c (filter U xs)) (best r c xs)) (λ y. omega tests)
        (λ y. absurd (omega (tests, latest r c U xs sorted (omega tests)))))

    -- A service g of the base that has got no more than the time since the base's start, and that is done with all of it
    -- released before t, has t at or after the best.
    pub gap :
        (g : ℕ → ℕ) (t : ℕ)
        → least r (base r c xs) < t
        → weight g (base r c xs) ≤ t - least r (base r c xs)
        → ((i : ℕ) → Memᴰ i (base r c xs) → r i < t → c i ≤ g i)
        → best r c xs ≤ t
    gap g t lo got done =
        let U : ℕ → Bool = λ i. leb t (r i) in
        let X : ℕ → Bool = λ i. not (leb t (r i)) in
        test (ltb t (best r c xs))
        (λ y.
        absurd
        (omega (
          tests,
          later_room t lo (omega tests),
          attained r c xs sorted,
          weight_parts c U (base r c xs),
          weight_of_base c U xs,
          weight-filter g X (base r c xs),
          weight_le c g (filter X (base r c xs)) (λ i m. let q = filter_in X (base r c xs) m in done i q.0 (before i q.1)),
        )))
        (λ y. omega tests)
      where
        before : (i : ℕ) → not (leb t (r i)) ≡ true → r i < t
        before i e = let n = not-true (leb t (r i)) e in omega tests

    -- Those released before the base have room between any moment and its start.
    pub early_room :
        ((i : ℕ) → Memᴰ i xs → 1 ≤ c i)
        → (a : ℕ)
        → weight c (filter (λ i. ltb (r i) (least r (base r c xs)) && leb a (r i)) xs) ≤ least r (base r c xs) - a
    early_room ones a =
        let U : ℕ → Bool = λ i. ltb (r i) (least r (base r c xs)) && leb a (r i) in
        let X : ℕ → Bool = λ i. leb (least r (base r c xs)) (r i) in
        split (or_filled (filter U xs))
        (λ e. omega (arith, ap (weight c) e, weight-nil c))
        (λ n.
        let w = filled (filter U xs) n in
        let q = between w.0 (filter_in U xs w.1).1 in
        let e = ap (weight c) (base_threshold r c xs sorted ones) in
        omega (
          arith,
          attained r c xs sorted,
          late_room r c a xs,
          weight_apart c U X (λ i. leb a (r i)) xs
              (λ i u. let p = between i u in (lt-leb (least r (base r c xs)) (r i) p.0, le-leb a (r i) p.1))
              (λ i x. omega tested),
        ))
      where
        between : (i : ℕ) → (ltb (r i) (least r (base r c xs)) && leb a (r i)) ≡ true → (r i < least r (base r c xs)) × (a ≤ r i)
        between i u =
            let p = both {a = ltb (r i) (least r (base r c xs))} {b = leb a (r i)} u in
            let p0 = p.0 in
            let p1 = p.1 in
            (omega tests, omega tests)
