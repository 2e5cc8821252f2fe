-- Sums, least and greatest over a group: of a subset, of two functions that agree, with one member taken out.
use Prim.Native.Nat.{ℕ, zero, suc, ◌+◌, ◌≤◌, ◌<◌}
use mathlib.Core.Bool.{Bool, true, false, cond, not}
use mathlib.Core.List.Memᴰ
use mathlib.Core.List.{List, [], ◌∷◌, Memᴰ}
use mathlib.Core.Logic.{◌≢◌, ◌⊎◌}
use mathlib.Core.Path.{◌≡◌, refl, sym, ap, ◌∙◌}
use native.Mathlib.Numerals.{add-one}
use native.Mathlib.Omega.{arith}
use lib.Dec.{eqb, ltb}
use lib.ListN.{length, get_or, drop}
use lib.Seq.{drop-cons}
use Rattle.lists.specs.Places.{filter, without, weight, total, least, greatest, Every, Nodup, from}
use Rattle.lists.proofs.Cases.{split, test, clash, tests}
use Rattle.lists.proofs.Members.{in_cons, in_nil, cons-nil, filter_cases, filter-nil, every_in}

pub weight-nil : (f : ℕ → ℕ) → weight f [] ≡ 0
unfolding weight
weight-nil f = refl

pub weight-cons : (f : ℕ → ℕ) (x : ℕ) (xs : List ℕ) → weight f (x ∷ xs) ≡ f x + weight f xs
unfolding weight
weight-cons f x xs = refl

-- What is left of a sum, from one number on.
pub total_left : (ns : List ℕ) (i : ℕ) → i < length ns → total (drop i ns) ≡ get_or ns i 0 + total (drop (i + 1) ns)
total_left ns i h = rw (add-one, drop-cons ns i 0 h) (weight-cons (λ n. n) (get_or ns i 0) (drop (suc i) ns))

-- A sum whose terms do not grow does not grow.
pub weight_le : (f g : ℕ → ℕ) (xs : List ℕ) → ((i : ℕ) → Memᴰ i xs → f i ≤ g i) → weight f xs ≤ weight g xs
unfolding weight
weight_le f g [] h = omega arith
weight_le f g (x ∷ xs) h =
    omega (arith, weight_le f g xs (λ i m. h i (Memᴰ.tail m)), h x (Memᴰ.head refl))

pub weight_cong : (f g : ℕ → ℕ) (xs : List ℕ) → ((i : ℕ) → Memᴰ i xs → f i ≡ g i) → weight f xs ≡ weight g xs
unfolding weight
weight_cong f g [] h = refl
weight_cong f g (x ∷ xs) h =
    omega (arith, weight_cong f g xs (λ i m. h i (Memᴰ.tail m)), h x (Memᴰ.head refl))

-- A subset weighs no more than the group.
pub weight-filter : (f : ℕ → ℕ) (U : ℕ → Bool) (xs : List ℕ) → weight f (filter U xs) ≤ weight f xs
weight-filter f U [] = omega (arith, ap (weight f) (filter-nil U))
weight-filter f U (x ∷ xs) =
    let ih = weight-filter f U xs in
    split (filter_cases U x xs)
    (λ q. rw q.1 (omega (arith, weight-cons f x xs, weight-cons f x (filter U xs))))
    (λ q. rw q.1 (omega (arith, weight-cons f x xs)))

-- The subset and the rest weigh what the group weighs.
pub weight_parts :
    (f : ℕ → ℕ) (U : ℕ → Bool) (xs : List ℕ) → weight f xs ≡ weight f (filter U xs) + weight f (filter (λ i. not (U i)) xs)
unfolding filter weight
weight_parts f U [] = refl
weight_parts f U (x ∷ xs) =
    let ih = weight_parts f U xs in
    test (U x) (λ e. rw e (omega arith)) (λ e. rw e (omega arith))

-- The sum over a subset is a sum over the group.
pub weight_picked : (f : ℕ → ℕ) (U : ℕ → Bool) (xs : List ℕ) → weight f (filter U xs) ≡ weight (λ i. cond (U i) (f i) 0) xs
unfolding filter weight
weight_picked f U [] = refl
weight_picked f U (x ∷ xs) =
    let ih = weight_picked f U xs in
    test (U x) (λ e. rw e (omega arith)) (λ e. rw e (omega arith))

-- A subset that weighs what its group weighs is the group.
pub weight_whole :
    (f : ℕ → ℕ) (U : ℕ → Bool) (xs : List ℕ)
    → ((i : ℕ) → Memᴰ i xs → 1 ≤ f i)
    → weight f xs ≤ weight f (filter U xs)
    → filter U xs ≡ xs
weight_whole f U [] ones h = filter-nil U
weight_whole f U (x ∷ xs) ones h =
    let o = ones x (Memᴰ.head refl) in
    let w = weight-cons f x xs in
    split (filter_cases U x xs)
    (λ q.
    q.1
    ∙ ap (λ (ys : List ℕ). x ∷ ys)
    (weight_whole f U xs (λ i m. ones i (Memᴰ.tail m)) (omega (arith, ap (weight f) q.1, weight-cons f x (filter U xs)))))
    (λ q. absurd (omega (arith, ap (weight f) q.1, weight-filter f U xs)))

-- A member weighs no more than its group.
pub weight_in : (f : ℕ → ℕ) (xs : List ℕ) {i : ℕ} → Memᴰ i xs → f i ≤ weight f xs
unfolding weight
weight_in f [] m = in_nil m
weight_in f (x ∷ xs) m = in_cons m (λ e. omega (arith, ap f e)) (λ t. omega (arith, weight_in f xs t))

-- One member taken out: at least its own weight goes, and no more if it stands there once.
pub weight_out : (f : ℕ → ℕ) (b : ℕ) (xs : List ℕ) → Memᴰ b xs → f b + weight f (without b xs) ≤ weight f xs
weight_out f b [] m = in_nil m
weight_out f b (x ∷ xs) m =
    let h = weight-filter f (λ i. not (eqb i b)) xs in
    split (filter_cases (λ i. not (eqb i b)) x xs)
    (λ q.
    rw q.1
    (in_cons m (λ e. clash (same e) (differs q.0))
    (λ t. omega (arith, weight_out f b xs t, weight-cons f x xs, weight-cons f x (without b xs)))))
    (λ q. rw q.1 (omega (arith, weight-cons f x xs, ap f (is q.0))))
  where
    same : b ≡ x → eqb x b ≡ true
    same e = test (eqb x b) (λ y. y) (λ n. absurd (omega tests))

    differs : not (eqb x b) ≡ true → eqb x b ≡ false
    differs e = test (eqb x b) (λ y. clash e (rw y)) (λ n. n)

    is : not (eqb x b) ≡ false → x ≡ b
    is e = test (eqb x b) (λ y. omega tests) (λ n. clash (rw n) e)

-- The least is at most each member's, and is some member's.
pub least_le : (f : ℕ → ℕ) (xs : List ℕ) {i : ℕ} → Memᴰ i xs → least f xs ≤ f i
unfolding least
least_le f [] m = in_nil m
least_le f (x ∷ []) m = in_cons m (λ e. omega (arith, ap f e)) (λ t. in_nil t)
least_le f (x ∷ y ∷ ys) m = in_cons m (λ e. omega (arith, ap f e)) (λ t. omega (arith, least_le f (y ∷ ys) t))

pub least_in : (f : ℕ → ℕ) (xs : List ℕ) → xs ≢ [] → (i : ℕ) × Memᴰ i xs × (least f xs ≡ f i)
unfolding least
least_in f [] h = absurd (h refl)
least_in f (x ∷ []) h = (x, Memᴰ.head refl, refl)
least_in f (x ∷ y ∷ ys) h =
    let w = least_in f (y ∷ ys) (λ e. let z : ◌≡◌ {A = ℕ} 0 1 = cc in omega arith) in
    let e = w.2 in
    test (ltb (f x) (least f (y ∷ ys)))
    (λ t. (x, Memᴰ.head refl, omega tests))
    (λ t. (w.0, Memᴰ.tail w.1, omega tests))

-- Whatever is at most each member's is at most the least.
pub least_most : (f : ℕ → ℕ) (a : ℕ) (xs : List ℕ) → xs ≢ [] → ((i : ℕ) → Memᴰ i xs → a ≤ f i) → a ≤ least f xs
least_most f a xs h g = let w = least_in f xs h in omega (arith, g w.0 w.1, w.2)

-- In order, the first is the least.
pub least_inorder : (f : ℕ → ℕ) (x : ℕ) (xs : List ℕ) → Every (λ y. f x ≤ f y) xs → least f (x ∷ xs) ≡ f x
unfolding least
least_inorder f x [] s = refl
least_inorder f x (y ∷ ys) s =
    omega (
      arith,
      least_most f (f x) (y ∷ ys) (λ e. let z : ◌≡◌ {A = ℕ} 0 1 = cc in omega arith)
          (λ i m. every_in (λ z. f x ≤ f z) (y ∷ ys) s m),
    )

pub greatest_ge : (f : ℕ → ℕ) (xs : List ℕ) {i : ℕ} → Memᴰ i xs → f i ≤ greatest f xs
unfolding greatest
greatest_ge f [] m = in_nil m
greatest_ge f (x ∷ xs) m = in_cons m (λ e. omega (arith, ap f e)) (λ t. omega (arith, greatest_ge f xs t))

pub greatest_le : (f : ℕ → ℕ) (a : ℕ) (xs : List ℕ) → ((i : ℕ) → Memᴰ i xs → f i ≤ a) → greatest f xs ≤ a
unfolding greatest
greatest_le f a [] g = omega arith
greatest_le f a (x ∷ xs) g =
    omega (arith, greatest_le f a xs (λ i m. g i (Memᴰ.tail m)), g x (Memᴰ.head refl))

pub greatest_in : (f : ℕ → ℕ) (xs : List ℕ) → xs ≢ [] → (i : ℕ) × Memᴰ i xs × (greatest f xs ≡ f i)
unfolding greatest
greatest_in f [] h = absurd (h refl)
greatest_in f (x ∷ []) h = (x, Memᴰ.head refl, omega arith)
greatest_in f (x ∷ y ∷ ys) h =
    let w = greatest_in f (y ∷ ys) (λ e. cons-nil e) in
    let e = w.2 in
    test (ltb (greatest f (y ∷ ys)) (f x))
    (λ t. (x, Memᴰ.head refl, omega tests))
    (λ t. (w.0, Memᴰ.tail w.1, omega tests))

-- One term grows by one and the others stay.
pub weight_one_more :
    (f g : ℕ → ℕ) (b : ℕ) (xs : List ℕ)
    → Nodup xs
    → Memᴰ b xs
    → g b ≡ suc (f b)
    → ((i : ℕ) → Memᴰ i xs → i ≢ b → g i ≡ f i)
    → weight g xs ≡ suc (weight f xs)
unfolding weight
weight_one_more f g b [] d m e h = in_nil m
weight_one_more f g b (x ∷ xs) d m e h =
    in_cons m
    (λ q.
    omega (
      arith,
      ap f q,
      ap g q,
      weight_cong g f xs (λ i n. h i (Memᴰ.tail n) (λ w. d.0 (Memᴰ.cast (sym q) (Memᴰ.cast (sym w) n)))),
    ))
    (λ t.
    omega (
      arith,
      weight_one_more f g b xs d.1 t e (λ i n. h i (Memᴰ.tail n)),
      h x (Memᴰ.head refl) (λ w. d.0 (Memᴰ.cast w t)),
    ))

-- The last place of a set, put behind the others.
pub weight-from : (f : ℕ → ℕ) (a n k : ℕ) → k ≡ a + n → weight f (from a (suc n)) ≡ weight f (from a n) + f k
unfolding from weight
weight-from f a zero k e = let q : k ≡ a = omega arith in omega (arith, ap f q)
weight-from f a (suc n) k e = omega (arith, weight-from f (suc a) n k (omega arith))

pub count_from : (a n : ℕ) → weight (λ i. 1) (from a n) ≡ n
unfolding from weight
count_from a zero = refl
count_from a (suc n) = omega (arith, count_from (suc a) n)

-- Ones sum up to the length.
pub weight-length : (xs : List ℕ) → weight (λ i. 1) xs ≡ length xs
unfolding weight
weight-length [] = refl
weight-length (x ∷ xs) = omega (arith, weight-length xs)

-- A sum of nothing.
pub weight_zero : (f : ℕ → ℕ) (xs : List ℕ) → ((i : ℕ) → Memᴰ i xs → f i ≡ 0) → weight f xs ≡ 0
unfolding weight
weight_zero f [] h = refl
weight_zero f (x ∷ xs) h = omega (arith, h x (Memᴰ.head refl), weight_zero f xs (λ i m. h i (Memᴰ.tail m)))

-- A subset whose members are in another, but for those that weigh nothing, weighs no more than it.
pub weight_within :
    (f : ℕ → ℕ) (U X : ℕ → Bool) (xs : List ℕ)
    → ((i : ℕ) → Memᴰ i xs → U i ≡ true → (X i ≡ true) ⊎ (f i ≡ 0))
    → weight f (filter U xs) ≤ weight f (filter X xs)
weight_within f U X [] h = omega (arith, ap (weight f) (filter-nil U ∙ sym (filter-nil X)))
weight_within f U X (x ∷ xs) h =
    let ih = weight_within f U X xs (λ i m. h i (Memᴰ.tail m)) in
    let u = weight-cons f x (filter U xs) in
    let v = weight-cons f x (filter X xs) in
    split (filter_cases U x xs)
    (λ p.
    rw p.1
    (split (filter_cases X x xs)
    (λ q. rw q.1 (omega arith))
    (λ q. rw q.1 (split (h x (Memᴰ.head refl) p.0) (λ t. clash t q.0) (λ z. omega arith)))))
    (λ p. rw p.1 (split (filter_cases X x xs) (λ q. rw q.1 (omega arith)) (λ q. rw q.1 ih)))
