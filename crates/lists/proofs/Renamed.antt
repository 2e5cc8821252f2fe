-- A group under other places. `Moved π xs ys`: ys are the places to which π sends xs, in any order, since every sum over
-- ys is a sum over xs. Then members, subsets, least and greatest of the two agree; with π the identity it is one group in
-- another order, with `map π xs` it is a renaming.
use Prim.Native.Nat.{ℕ, ◌≤◌}
use mathlib.Core.Bool.{Bool, cond}
use mathlib.Core.List.Memᴰ
use mathlib.Core.List.{List, [], ◌∷◌, map, Memᴰ}
use mathlib.Core.Logic.{◌≢◌}
use mathlib.Core.Path.{◌≡◌, refl, sym, ap, ◌∙◌}
use native.Mathlib.Omega.{arith}
use borrow.Author.Tests.{eq-eqb, eqb-true}
use lib.Dec.{eqb, ltb}
use Rattle.lists.specs.Places.{filter, weight, least, greatest, Nodup}
use Rattle.lists.proofs.Cases.{split, test, tests}
use Rattle.lists.proofs.Members.{filled, in_filled, or_filled}
use Rattle.lists.proofs.Sums.{weight-cons, weight_picked, weight_in, weight_le, weight_cong, least_le, least_most, greatest_ge, greatest_le}

abbrev pub Moved : (ℕ → ℕ) → List ℕ → List ℕ → Type 0
Moved π xs ys = (f : ℕ → ℕ) → weight (λ i. f (π i)) xs ≡ weight f ys

-- A sum that is not 0 has a term that is not 0.
weight_some : (f : ℕ → ℕ) (xs : List ℕ) → 1 ≤ weight f xs → (i : ℕ) × Memᴰ i xs × (1 ≤ f i)
unfolding weight
weight_some f [] h = absurd (omega arith)
weight_some f (x ∷ xs) h =
    test (ltb 0 (f x))
    (λ y. (x, Memᴰ.head refl, omega tests))
    (λ y. let w = weight_some f xs (omega tests) in (w.0, Memᴰ.tail w.1, w.2))

-- 1 at b, 0 elsewhere: its sum counts how often b stands in a list.
abbrev one : ℕ → ℕ → ℕ
one b i = cond (eqb i b) 1 0

one_same : (b : ℕ) → one b b ≡ 1
one_same b = rw (eq-eqb b b refl)

one_is : (b i : ℕ) → 1 ≤ one b i → i ≡ b
one_is b i h = test (eqb i b) (λ y. eqb-true i b y) (λ y. let g = rw y at h in absurd (omega arith))

-- Nobody twice: everybody counts at most once.
once : (b : ℕ) (xs : List ℕ) → Nodup xs → weight (one b) xs ≤ 1
unfolding weight
once b [] d = omega arith
once b (x ∷ xs) d =
    test (eqb x b)
    (λ y.
    rw y
    (test (ltb 0 (weight (one b) xs))
    (λ z.
    let w = weight_some (one b) xs (omega tests) in
    absurd (d.0 (Memᴰ.cast (eqb-true x b y ∙ sym (one_is b w.0 w.2)) w.1)))
    (λ z. omega tests)))
    (λ y. rw y (omega (arith, once b xs d.1)))

nodup_once : (xs : List ℕ) → ((b : ℕ) → weight (one b) xs ≤ 1) → Nodup xs
nodup_once [] h = tt
nodup_once (x ∷ xs) h = (
  λ m. omega (arith, h x, weight-cons (one x) x xs, one_same x, weight_in (one x) xs m),
  nodup_once xs (λ b. omega (arith, h b, weight-cons (one b) x xs)),
)

module _ (π : ℕ → ℕ) where
  -- The list of the new places itself.
  pub moved_map : (xs : List ℕ) → Moved π xs (map π xs)
  unfolding weight
  moved_map [] f = refl
  moved_map (x ∷ xs) f = omega (arith, moved_map xs f)

  module _ (xs ys : List ℕ) (e : Moved π xs ys) where
    -- A subset of ys is a subset of xs, moved.
    pub moved_filter : (U : ℕ → Bool) → Moved π (filter (λ i. U (π i)) xs) (filter U ys)
    moved_filter U f =
        weight_picked (λ i. f (π i)) (λ i. U (π i)) xs ∙ e (λ i. cond (U i) (f i) 0) ∙ sym (weight_picked f U ys)

    -- Each of xs goes to one of ys.
    pub moved_in : {i : ℕ} → Memᴰ i xs → Memᴰ (π i) ys
    moved_in {i} m =
        let w =
        weight_some (one (π i)) ys (omega (arith, one_same (π i), weight_in (λ j. one (π i) (π j)) xs m, e (one (π i))))
        in
        Memᴰ.cast (sym (one_is (π i) w.0 w.2)) w.1

    -- Each of ys comes from one of xs.
    pub moved_from : {j : ℕ} → Memᴰ j ys → (i : ℕ) × Memᴰ i xs × (π i ≡ j)
    moved_from {j} m =
        let w = weight_some (λ i. one j (π i)) xs (omega (arith, one_same j, weight_in (one j) ys m, e (one j))) in
        (w.0, w.1, one_is j (π w.0) w.2)

    -- One is empty exactly if the other is.
    pub moved_filled : xs ≢ [] → ys ≢ []
    moved_filled n = in_filled (moved_in (filled xs n).1)

    pub filled_moved : ys ≢ [] → xs ≢ []
    filled_moved n = in_filled (moved_from (filled ys n).1).1

    pub moved_nil : xs ≡ [] → ys ≡ []
    moved_nil q = split (or_filled ys) (λ y. y) (λ n. absurd (filled_moved n q))

    -- Functions that agree along π have the same sum, least and greatest.
    module _ (f g : ℕ → ℕ) (same : (i : ℕ) → Memᴰ i xs → f i ≡ g (π i)) where
      pub moved_weight : weight f xs ≡ weight g ys
      moved_weight = weight_cong f (λ i. g (π i)) xs same ∙ e g

      pub moved_least : least f xs ≡ least g ys
      unfolding least
      moved_least =
          split (or_filled xs)
          (λ q. rw (q, moved_nil q))
          (λ n.
          omega (
            arith,
            least_most f (least g ys) xs n (λ i m. omega (arith, same i m, least_le g ys (moved_in m))),
            least_most g (least f xs) ys (moved_filled n)
                (λ j m. let w = moved_from m in omega (arith, same w.0 w.1, least_le f xs w.1, ap g w.2)),
          ))

      pub moved_greatest : greatest f xs ≡ greatest g ys
      moved_greatest =
          omega (
            arith,
            greatest_le f (greatest g ys) xs (λ i m. omega (arith, same i m, greatest_ge g ys (moved_in m))),
            greatest_le g (greatest f xs) ys
                (λ j m. let w = moved_from m in omega (arith, same w.0 w.1, greatest_ge f xs w.1, ap g w.2)),
          )

    -- If ρ leads back, xs are the places to which ρ sends ys, functions agree along ρ too, and nobody stands twice in ys.
    module _ (ρ : ℕ → ℕ) (back : (i : ℕ) → Memᴰ i xs → ρ (π i) ≡ i) where
      pub moved_back : Moved ρ ys xs
      moved_back f = sym (e (λ j. f (ρ j))) ∙ weight_cong (λ i. f (ρ (π i))) f xs (λ i m. ap f (back i m))

      pub moved_home : {j : ℕ} → Memᴰ j ys → Memᴰ (ρ j) xs × (π (ρ j) ≡ j)
      moved_home {j} m =
          let w = moved_from m in
          let q : ρ j ≡ w.0 = ap ρ (sym w.2) ∙ back w.0 w.1 in
          (Memᴰ.cast q w.1, ap π q ∙ w.2)

      pub moved_agree :
          (f g : ℕ → ℕ) → ((i : ℕ) → Memᴰ i xs → f i ≡ g (π i)) → (j : ℕ) → Memᴰ j ys → g j ≡ f (ρ j)
      moved_agree f g same j m = let h = moved_home m in ap g (sym h.1) ∙ sym (same (ρ j) h.0)

      pub moved_nodup : Nodup xs → Nodup ys
      moved_nodup d =
          nodup_once ys
          (λ j.
          omega (arith, e (one j), once (ρ j) xs d, weight_le (λ i. one j (π i)) (one (ρ j)) xs (λ i m. counted i j m)))
        where
          counted : (i j : ℕ) → Memᴰ i xs → one j (π i) ≤ one (ρ j) i
          counted i j m =
              test (eqb (π i) j)
              (λ y. let q : i ≡ ρ j = sym (back i m) ∙ ap ρ (eqb-true (π i) j y) in rw (y, eq-eqb i (ρ j) q) (omega arith))
              (λ y. rw y (omega arith))
