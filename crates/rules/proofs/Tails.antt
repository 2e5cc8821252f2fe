-- The facts about tails, once for every length. A list of places in release order, any subset of it, and the tail that
-- `base` finds: it completes last of all subsets, starts latest of those, and is the only one that does.
use Prim.Native.Nat.{ℕ, ◌+◌, ◌-◌, ◌≤◌, ◌<◌}
use mathlib.Core.Bool.{Bool}
use mathlib.Core.List.{List, [], ◌∷◌, Memᴰ}
use mathlib.Core.Logic.{◌⊎◌, inl, inr}
use mathlib.Core.Path.{◌≡◌, refl, sym, ap, ◌∙◌}
use native.Mathlib.Omega.{arith}
use borrow.Author.Tests.{leb-true, le-leb}
use lib.Dec.{ltb, leb}
use Rattle.lists.specs.Places.{filter, weight, least, InOrder}
use Rattle.lists.proofs.Cases.{split, test, tests}
use Rattle.lists.proofs.Members.{cons-nil, or_filled, filter_all, filter_cases, filter-nil, filter_in, filter_within}
use Rattle.lists.proofs.Sums.{weight-nil, weight-cons, weight-filter, weight_whole, least_le, least_most, least_inorder}
use Rattle.subjobs.specs.Conditions.{completion}
use Rattle.rules.specs.Method.{best, base}

module _ (r c : ℕ → ℕ) where
  pub best-nil : best r c [] ≡ 0
  unfolding best
  best-nil = refl

  pub base-nil : base r c [] ≡ []
  unfolding base
  base-nil = refl

  -- What `base` and `best` do at the head: the whole list is the base, or the head is passed.
  pub base_cases :
      (x : ℕ) (xs : List ℕ)
      → ((best r c xs < r x + (c x + weight c xs)) × (base r c (x ∷ xs) ≡ x ∷ xs) × (best r c (x ∷ xs) ≡ r x + (c x + weight c xs)))
      ⊎ ((r x + (c x + weight c xs) ≤ best r c xs) × (base r c (x ∷ xs) ≡ base r c xs) × (best r c (x ∷ xs) ≡ best r c xs))
  unfolding best base
  base_cases x xs =
      let w = weight-cons c x xs in
      test (ltb (best r c xs) (r x + weight c (x ∷ xs)))
      (λ e. inl (omega tests, rw e, omega tests))
      (λ e. inr (omega tests, rw e, omega tests))

  -- The best is at least the whole list's completion and the best of the list behind the head.
  pub best_ge : (x : ℕ) (xs : List ℕ) → (r x + (c x + weight c xs) ≤ best r c (x ∷ xs)) × (best r c xs ≤ best r c (x ∷ xs))
  best_ge x xs = split (base_cases x xs) (λ b. omega arith) (λ b. omega arith)

  completion-nil : completion r c [] ≡ 0
  unfolding least weight
  completion-nil = refl

  -- No subset completes after the best tail.
  pub t1_le : (U : ℕ → Bool) (xs : List ℕ) → completion r c (filter U xs) ≤ best r c xs
  t1_le U [] = omega (arith, ap (completion r c) (filter-nil U), completion-nil)
  t1_le U (x ∷ xs) =
      let ih = t1_le U xs in
      let g = best_ge x xs in
      split (filter_cases U x xs)
      (λ q.
      omega
      (arith, ap (completion r c) q.1, least_le r (x ∷ filter U xs) (Memᴰ.head refl), weight-cons c x (filter U xs), weight-filter c U xs))
      (λ q. omega (arith, ap (completion r c) q.1))

  -- What is released at or after f has room between f and the best.
  pub late_room : (f : ℕ) (xs : List ℕ) → weight c (filter (λ i. leb f (r i)) xs) ≤ best r c xs - f
  late_room f xs =
      let U : ℕ → Bool = λ i. leb f (r i) in
      let h = t1_le U xs in
      split (or_filled (filter U xs))
      (λ e. omega (arith, ap (weight c) e, weight-nil c))
      (λ n. omega (arith, least_most r f (filter U xs) n (λ i m. leb-true f (r i) (filter_in U xs m).1)))

  -- The members of the base are members of the list.
  pub base_in : (xs : List ℕ) {i : ℕ} → Memᴰ i (base r c xs) → Memᴰ i xs
  base_in [] m = rw base-nil at m
  base_in (x ∷ xs) m = split (base_cases x xs) (λ b. rw b.1 at m) (λ b. Memᴰ.tail (base_in xs (rw b.1 at m)))

  -- The base weighs no more than the list.
  pub weight-base : (f : ℕ → ℕ) (xs : List ℕ) → weight f (base r c xs) ≤ weight f xs
  weight-base f [] = omega (arith, ap (weight f) base-nil)
  weight-base f (x ∷ xs) =
      let ih = weight-base f xs in
      split (base_cases x xs)
      (λ b. omega (arith, ap (weight f) b.1))
      (λ b. omega (arith, ap (weight f) b.1, weight-cons f x xs))

  -- The base completes at the best.
  pub attained : (xs : List ℕ) → InOrder r xs → completion r c (base r c xs) ≡ best r c xs
  attained [] s = ap (completion r c) base-nil ∙ completion-nil ∙ sym best-nil
  attained (x ∷ xs) s =
      split (base_cases x xs)
      (λ b. omega (arith, ap (completion r c) b.1, least_inorder r x xs s.0, weight-cons c x xs))
      (λ b. omega (arith, ap (completion r c) b.1, attained xs s.1))

  -- A head that is passed is released earlier than the base starts, by its own execution at least.
  pub passed : (x : ℕ) (xs : List ℕ) → InOrder r xs → r x + (c x + weight c xs) ≤ best r c xs → r x + c x ≤ least r (base r c xs)
  passed x xs s h = omega (arith, attained xs s, weight-base c xs)

  -- With executions of at least 1 only an empty list has an empty base.
  pub base_filled : (xs : List ℕ) → ((i : ℕ) → Memᴰ i xs → 1 ≤ c i) → base r c xs ≡ [] → xs ≡ []
  base_filled [] ones e = refl
  base_filled (x ∷ xs) ones e =
      split (base_cases x xs)
      (λ b. cons-nil (sym b.1 ∙ e))
      (λ b.
      let n = base_filled xs (λ i m. ones i (Memᴰ.tail m)) (sym b.1 ∙ e) in
      absurd (omega (arith, ap (best r c) n, best-nil, ones x (Memᴰ.head refl))))

  -- A subset that completes at the best starts no later than the base.
  pub latest : (U : ℕ → Bool) (xs : List ℕ) → InOrder r xs → completion r c (filter U xs) ≡ best r c xs → least r (filter U xs) ≤ least r (base r c xs)
  latest U [] s h = omega (arith, ap (least r) (filter-nil U), ap (least r) base-nil)
  latest U (x ∷ xs) s h =
      let t = t1_le U xs in
      let f = filter_cases U x xs in
      split (base_cases x xs)
      (λ b.
      split f
      (λ q.
      omega
      (arith, ap (least r) q.1, ap (least r) b.1, least_le r (x ∷ filter U xs) (Memᴰ.head refl), least_inorder r x xs s.0))
      (λ q. absurd (omega (arith, ap (completion r c) q.1))))
      (λ b.
      split f
      (λ q.
      omega (arith, ap (least r) q.1, ap (least r) b.1, least_le r (x ∷ filter U xs) (Memᴰ.head refl), passed x xs s.1 b.0))
      (λ q. omega (arith, ap (least r) q.1, ap (least r) b.1, latest U xs s.1 (sym (ap (completion r c) q.1) ∙ h ∙ b.2))))

  -- The base is all those released at or after one release: the one at which it starts.
  pub base_threshold :
      (xs : List ℕ) → InOrder r xs → ((i : ℕ) → Memᴰ i xs → 1 ≤ c i) → base r c xs ≡ filter (λ i. leb (least r (base r c xs)) (r i)) xs
  base_threshold [] s ones = base-nil ∙ sym (filter-nil _)
  base_threshold (x ∷ xs) s ones =
      split (base_cases x xs)
      (λ b.
      b.1
      ∙ sym
      (filter_all (λ i. leb (least r (base r c (x ∷ xs))) (r i)) (x ∷ xs)
      (λ i m. le-leb (least r (base r c (x ∷ xs))) (r i) (least_le r (base r c (x ∷ xs)) (rw b.1 m)))))
      (λ b.
      rw b.1
      (split (filter_cases (λ i. leb (least r (base r c xs)) (r i)) x xs)
      (λ q.
      absurd
      (omega (arith, leb-true (least r (base r c xs)) (r x) q.0, passed x xs s.1 b.0, ones x (Memᴰ.head refl))))
      (λ q. base_threshold xs s.1 (λ i m. ones i (Memᴰ.tail m)) ∙ sym q.1)))

  -- A subset that completes at the best and starts where the base does is the base.
  pub unique :
      (U : ℕ → Bool) (xs : List ℕ)
      → InOrder r xs
      → ((i : ℕ) → Memᴰ i xs → 1 ≤ c i)
      → completion r c (filter U xs) ≡ best r c xs
      → least r (filter U xs) ≡ least r (base r c xs)
      → filter U xs ≡ base r c xs
  unique U xs s ones h l =
      let X : ℕ → Bool = λ i. leb (least r (base r c xs)) (r i) in
      let e : base r c xs ≡ filter X xs = base_threshold xs s ones in
      let q : filter U (filter X xs) ≡ filter U xs =
      filter_within U X xs (λ i m. le-leb (least r (base r c xs)) (r i) (omega (arith, least_le r (filter U xs) m)))
      in
      sym q
      ∙ weight_whole c U (filter X xs) (λ i m. ones i (filter_in X xs m).0)
      (omega (arith, ap (weight c) q, ap (weight c) e, attained xs s))
      ∙ sym e
