-- Who is in a group: membership in a filter, in the places of a set, and what holds of every member.
use Prim.Native.Nat.{ℕ, zero, suc, ◌+◌, ◌≤◌, ◌<◌}
use mathlib.Core.Bool.{Bool, true, false, not, ◌&&◌, and-false}
use mathlib.Core.List.Memᴰ
use mathlib.Core.List.{List, [], ◌∷◌, ◌++◌, Memᴰ}
use mathlib.Core.Logic.{◌≢◌, ◌⊎◌, inl, inr}
use mathlib.Core.Path.{◌≡◌, refl, ◌∙◌, ap}
use native.Mathlib.Omega.{arith}
use borrow.Author.Tests.{ne_eqb, not-true, eqb-false, eqb-true, not-false}
use lib.Dec.{eqb}
use lib.ListN.{length, get_or, drop}
use Rattle.lists.specs.Places.{from, filter, without, Every, InOrder, Nodup, places}
use Rattle.lists.proofs.Cases.{split, test, clash, tests}

-- A member of x ∷ xs is x or a member of xs.
pub in_cons : {i x : ℕ} {xs : List ℕ} {X : Type 0} → Memᴰ i (x ∷ xs) → (i ≡ x → X) → (Memᴰ i xs → X) → X
in_cons m f g = split (Memᴰ.cases_cons m) f g

pub in_nil : {X : Type 0} {i : ℕ} → Memᴰ i [] → X
in_nil m = absurd (Memᴰ.not-nil m)

-- A non-empty list has a member.
pub filled : (xs : List ℕ) → xs ≢ [] → (i : ℕ) × Memᴰ i xs
filled [] h = absurd (h refl)
filled (x ∷ xs) h = (x, Memᴰ.head refl)

pub in_filled : {i : ℕ} {xs : List ℕ} → Memᴰ i xs → xs ≢ []
in_filled {i} m e = Memᴰ.not-nil (rw e at m)

-- A place is in a list or it is not.
pub or_in : (i : ℕ) (xs : List ℕ) → Memᴰ i xs ⊎ (Memᴰ i xs → ⊥)
or_in i [] = inr (λ m. in_nil m)
or_in i (x ∷ xs) =
    test (eqb i x)
    (λ y. inl (Memᴰ.head (eqb-true i x y)))
    (λ n. split (or_in i xs) (λ m. inl (Memᴰ.tail m)) (λ k. inr (λ m. in_cons m (eqb-false i x n) k)))

-- What a filter does at the head of a list.
pub filter_cases :
    (U : ℕ → Bool) (x : ℕ) (xs : List ℕ)
    → ((U x ≡ true) × (filter U (x ∷ xs) ≡ x ∷ filter U xs)) ⊎ ((U x ≡ false) × (filter U (x ∷ xs) ≡ filter U xs))
unfolding filter
filter_cases U x xs = test (U x) (λ e. inl (e, rw e)) (λ e. inr (e, rw e))

pub filter-nil : (U : ℕ → Bool) → filter U [] ≡ []
unfolding filter
filter-nil U = refl

-- The members of a subset are the members it picks.
pub filter_in : (U : ℕ → Bool) (xs : List ℕ) {i : ℕ} → Memᴰ i (filter U xs) → Memᴰ i xs × (U i ≡ true)
filter_in U [] m = in_nil (rw (filter-nil U) at m)
filter_in U (x ∷ xs) {i} m =
    split (filter_cases U x xs)
    (λ q.
    in_cons (rw q.1 at m)
    (λ e. (Memᴰ.head e, rw e q.0))
    (λ t. let h = filter_in U xs t in (Memᴰ.tail h.0, h.1)))
    (λ q. let h = filter_in U xs (rw q.1 at m) in (Memᴰ.tail h.0, h.1))

pub in_filter : (U : ℕ → Bool) (xs : List ℕ) {i : ℕ} → Memᴰ i xs → U i ≡ true → Memᴰ i (filter U xs)
in_filter U [] m u = in_nil m
in_filter U (x ∷ xs) {i} m u =
    split (filter_cases U x xs)
    (λ q. rw q.1 (in_cons m (λ e. Memᴰ.head e) (λ t. Memᴰ.tail (in_filter U xs t u))))
    (λ q. rw q.1 (in_cons m (λ e. clash u (rw e q.0)) (λ t. in_filter U xs t u)))

pub without_in : (b : ℕ) (xs : List ℕ) {i : ℕ} → Memᴰ i (without b xs) → Memᴰ i xs × (i ≢ b)
without_in b xs {i} m =
    let h = filter_in (λ j. not (eqb j b)) xs m in
    let n = not-true (eqb i b) h.1 in
    (h.0, λ e. clash (eqb_yes e) n)
  where
    eqb_yes : i ≡ b → eqb i b ≡ true
    eqb_yes e = test (eqb i b) (λ y. y) (λ n. absurd (omega tests))

pub in_without : (b : ℕ) (xs : List ℕ) {i : ℕ} → Memᴰ i xs → i ≢ b → Memᴰ i (without b xs)
in_without b xs {i} m n = in_filter (λ j. not (eqb j b)) xs m (rw (ne_eqb i b n))

-- What holds of every member, and back.
pub every_in : (P : ℕ → Type 0) (xs : List ℕ) → Every P xs → {i : ℕ} → Memᴰ i xs → P i
every_in P [] h m = in_nil m
every_in P (x ∷ xs) h m = in_cons m (λ e. rw e h.0) (λ t. every_in P xs h.1 t)

pub in_every : (P : ℕ → Type 0) (xs : List ℕ) → ((i : ℕ) → Memᴰ i xs → P i) → Every P xs
in_every P [] f = tt
in_every P (x ∷ xs) f = (f x (Memᴰ.head refl), in_every P xs (λ i m. f i (Memᴰ.tail m)))

pub every_more : (P Q : ℕ → Type 0) → ((x : ℕ) → P x → Q x) → (xs : List ℕ) → Every P xs → Every Q xs
every_more P Q f xs e = in_every Q xs (λ i m. f i (every_in P xs e m))

pub every_append : (P : ℕ → Type 0) (a b : List ℕ) → Every P a → Every P b → Every P (a ++ b)
every_append P [] b h g = g
every_append P (x ∷ a) b h g = (h.0, every_append P a b h.1 g)

pub every_drop : (P : ℕ → Type 0) (k : ℕ) (xs : List ℕ) → Every P xs → Every P (drop k xs)
every_drop P zero xs e = e
every_drop P (suc k) [] e = tt
every_drop P (suc k) (x ∷ xs) e = every_drop P k xs e.1

-- What stands at some place of a list is a member.
pub in_at : (xs : List ℕ) (k : ℕ) → k < length xs → Memᴰ (get_or xs k 0) xs
in_at [] k h = absurd (omega arith)
in_at (x ∷ xs) zero h = Memᴰ.head refl
in_at (x ∷ xs) (suc k) h = Memᴰ.tail (in_at xs k (omega arith))

pub every_at : (P : ℕ → Type 0) (xs : List ℕ) (k : ℕ) → k < length xs → Every P xs → P (get_or xs k 0)
every_at P xs k h e = every_in P xs e (in_at xs k h)

-- The places of a set are those below its size, each once.
pub from_in : (a n : ℕ) {i : ℕ} → Memᴰ i (from a n) → (a ≤ i) × (i < a + n)
unfolding from
from_in a zero m = in_nil m
from_in a (suc n) m = in_cons m (λ e. (omega arith, omega arith)) (λ t. let h = from_in (suc a) n t in (omega arith, omega arith))

pub in_from : (a n : ℕ) {i : ℕ} → a ≤ i → i < a + n → Memᴰ i (from a n)
unfolding from
in_from a zero lo hi = absurd (omega arith)
in_from a (suc n) {i} lo hi =
    test (eqb i a) (λ e. Memᴰ.head (omega tests)) (λ e. Memᴰ.tail (in_from (suc a) n (omega tests) (omega arith)))

pub nodup_from : (a n : ℕ) → Nodup (from a n)
unfolding from
nodup_from a zero = tt
nodup_from a (suc n) = (λ m. let h = from_in (suc a) n m in omega arith, nodup_from (suc a) n)

-- A subset keeps order and has nobody twice.
pub nodup_filter : (U : ℕ → Bool) (xs : List ℕ) → Nodup xs → Nodup (filter U xs)
nodup_filter U [] d = rw (filter-nil U) tt
nodup_filter U (x ∷ xs) d =
    split (filter_cases U x xs)
    (λ q. rw q.1 (λ m. d.0 (filter_in U xs m).0, nodup_filter U xs d.1))
    (λ q. rw q.1 (nodup_filter U xs d.1))

pub inorder_filter : (f : ℕ → ℕ) (U : ℕ → Bool) (xs : List ℕ) → InOrder f xs → InOrder f (filter U xs)
inorder_filter f U [] s = rw (filter-nil U) tt
inorder_filter f U (x ∷ xs) s =
    split (filter_cases U x xs)
    (λ q.
    rw q.1 (
      in_every (λ y. f x ≤ f y) (filter U xs) (λ i m. every_in (λ y. f x ≤ f y) xs s.0 (filter_in U xs m).0),
      inorder_filter f U xs s.1,
    ))
    (λ q. rw q.1 (inorder_filter f U xs s.1))

pub cons-nil : {X : Type 0} {x : ℕ} {xs : List ℕ} → x ∷ xs ≡ [] → X
cons-nil e = let z : ◌≡◌ {A = ℕ} 0 1 = cc in absurd (omega arith)

-- A subset that picks everybody is the whole group.
pub filter_all : (U : ℕ → Bool) (xs : List ℕ) → ((i : ℕ) → Memᴰ i xs → U i ≡ true) → filter U xs ≡ xs
filter_all U [] h = filter-nil U
filter_all U (x ∷ xs) h =
    split (filter_cases U x xs)
    (λ q. q.1 ∙ ap (λ (ys : List ℕ). x ∷ ys) (filter_all U xs (λ i m. h i (Memᴰ.tail m))))
    (λ q. clash (h x (Memᴰ.head refl)) q.0)

-- Tests that agree on a group pick the same subset.
pub filter_cong : (U X : ℕ → Bool) (xs : List ℕ) → ((i : ℕ) → Memᴰ i xs → U i ≡ X i) → filter U xs ≡ filter X xs
unfolding filter
filter_cong U X [] h = refl
filter_cong U X (x ∷ xs) h =
    rw (h x (Memᴰ.head refl), filter_cong U X xs (λ i m. h i (Memᴰ.tail m)))

-- A subset of a subset.
pub filter_both : (U W : ℕ → Bool) (xs : List ℕ) → filter U (filter W xs) ≡ filter (λ i. W i && U i) xs
unfolding filter
filter_both U W [] = refl
filter_both U W (x ∷ xs) = test (W x) (λ y. rw (y, filter_both U W xs)) (λ n. rw (n, filter_both U W xs))

-- A subset of those that W picks is a subset of the group.
pub filter_within :
    (U W : ℕ → Bool) (xs : List ℕ) → ((i : ℕ) → Memᴰ i (filter U xs) → W i ≡ true) → filter U (filter W xs) ≡ filter U xs
filter_within U W xs h =
    filter_both U W xs
    ∙ filter_cong (λ i. W i && U i) U xs
    (λ i m. test (U i) (λ y. rw (y, h i (in_filter U xs m y))) (λ n. rw (n, and-false (W i))))

-- A group is empty or not.
pub or_filled : (xs : List ℕ) → (xs ≡ []) ⊎ (xs ≢ [])
or_filled [] = inl refl
or_filled (x ∷ xs) = inr (λ e. cons-nil e)

-- What taking b out does at the head.
pub without_cases :
    (b x : ℕ) (xs : List ℕ)
    → ((x ≢ b) × (without b (x ∷ xs) ≡ x ∷ without b xs)) ⊎ ((x ≡ b) × (without b (x ∷ xs) ≡ without b xs))
without_cases b x xs =
    split (filter_cases (λ i. not (eqb i b)) x xs)
    (λ q. inl (eqb-false x b (not-true (eqb x b) q.0), q.1))
    (λ q. inr (eqb-true x b (not-false (eqb x b) q.0), q.1))

-- A subset that does not pick b is a subset of the rest.
pub filter-without : (U : ℕ → Bool) (b : ℕ) (xs : List ℕ) → U b ≡ false → filter U (without b xs) ≡ filter U xs
unfolding filter
filter-without U b [] u = refl
filter-without U b (x ∷ xs) u =
    let ih = filter-without U b xs u in
    test (eqb x b)
    (λ e. let q : U x ≡ false = ap U (eqb-true x b e) ∙ u in rw (e, q) ih)
    (λ e. rw e (test (U x) (λ y. rw y (ap (λ (ys : List ℕ). x ∷ ys) ih)) (λ y. rw y ih)))

pub places-nil : (n : ℕ) → places n ≡ [] → n ≡ 0
unfolding from
places-nil zero e = refl
places-nil (suc n) e = let z : ◌≡◌ {A = ℕ} 0 1 = cc in absurd (omega arith)

pub from-length : (a n : ℕ) → length (from a n) ≡ n
unfolding from
from-length a zero = refl
from-length a (suc n) = ap suc (from-length (suc a) n)

-- The places of a set are those below its size.
pub places_in : (n i : ℕ) → Memᴰ i (places n) → i < n
places_in n i m = omega (arith, (from_in 0 n m).1)

pub in_places : (n i : ℕ) → i < n → Memᴰ i (places n)
in_places n i h = in_from 0 n (omega arith) (omega arith)
