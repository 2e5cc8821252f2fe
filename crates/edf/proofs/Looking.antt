-- The searches through the places: the one to serve, with what was found so far; the next release; the end of a run.
--
--   onward lt q xs       == the choice among xs after q was found
--   Looking lt U n q i   == after i of n places q is what was found of those that U picks
use Prim.Native.Nat.{ℕ, zero, suc, ◌+◌, ◌-◌, ◌≤◌, ◌<◌, min, max}
use mathlib.Core.Bool.{Bool, true, false, cond}
use mathlib.Core.List.{List, [], ◌∷◌, map, Memᴰ}
use mathlib.Core.Option as found
use mathlib.Core.Path.{◌≡◌, refl, sym, ap, ◌∙◌}
use native.Mathlib.Nat.{sub-zero}
use native.Mathlib.Numerals.{add-one}
use native.Mathlib.Omega.{arith}
use borrow.Author.Tests.{lt-ltb, le-ltb, ne_eqb}
use lib.Dec.{ltb}
use lib.ListN.{length, get_or}
use lib.Seq.{take_all}
use Rattle.std.specs.List as std
use Rattle.std.specs.Prelude.{Option, Some, None, IfSome, unwrap_or}
use Rattle.lists.specs.Places.{from, places, filter, least, greatest}
use Rattle.lists.specs.Order.{ahead, choose, given}
use Rattle.lists.proofs.Cases.{split, test, tests}
use Rattle.lists.proofs.Count.{left_more, left_none}
use Rattle.lists.proofs.Mapped.{take-map}
use Rattle.lists.proofs.Members.{filter_in, filter-nil, cons-nil, or_filled}
use Rattle.lists.proofs.Sums.{least_in}
use Rattle.ticks.specs.Events.{next_release}
use Rattle.edf.specs.Parts.{chosen, released}

from_step : (n i : ℕ) → i < n → from i (n - i) ≡ i ∷ from (i + 1) (n - (i + 1))
unfolding from
from_step n i h = rw (left_more n i h, add-one)

from_done : (n i : ℕ) → n ≤ i → from i (n - i) ≡ []
unfolding from
from_done n i h = rw (left_none n i h)

abbrev pub onward : (ℕ → ℕ → Bool) → Option ℕ → List ℕ → found.Option ℕ
onward lt None xs = choose lt xs
onward lt (Some b) xs = found.some (ahead lt b xs)

-- At place i of n, with q found so far, what is left decides the whole choice.
pub record Looking (lt : ℕ → ℕ → Bool) (U : ℕ → Bool) (n : ℕ) (q : Option ℕ) (i : ℕ) : Type 0 where
  pub best : IfSome q (λ b. b < n)
  pub choice : onward lt q (filter U (from i (n - i))) ≡ choose lt (filter U (places n))

pub look_start : (lt : ℕ → ℕ → Bool) (U : ℕ → Bool) (n : ℕ) → Looking lt U n None 0
look_start lt U n = record { best = tt; choice = rw (sub-zero n) }

module _ {lt : ℕ → ℕ → Bool} {U : ℕ → Bool} {n i : ℕ} where
  pub look_skip : {q : Option ℕ} → Looking lt U n q i → i < n → U i ≡ false → Looking lt U n q (i + 1)
  unfolding filter
  look_skip K h u = record { best = K.best; choice = rw (from_step n i h, u) at K.choice }

  pub look_first : Looking lt U n None i → i < n → U i ≡ true → Looking lt U n (Some i) (i + 1)
  unfolding filter choose
  look_first K h u = record { best = h; choice = rw (from_step n i h, u) at K.choice }

  pub look_next : {b : ℕ} → Looking lt U n (Some b) i → i < n → U i ≡ true → Looking lt U n (Some (cond (lt i b) i b)) (i + 1)
  unfolding filter ahead
  look_next {b} K h u =
      record {
        best = test (lt i b) (λ e. rw e h) (λ e. rw e K.best);
        choice = rw (from_step n i h, u) at K.choice;
      }

  pub look_done : (q : Option ℕ) → Looking lt U n q i → n ≤ i → q ≡ chosen n (given (choose lt (filter U (places n))) n (λ p. p))
  unfolding choose ahead
  look_done None K h =
      let e = rw (from_done n i h, filter-nil U) at K.choice in
      rw (← e, le-ltb n n (omega arith))
  look_done (Some b) K h =
      let e = rw (from_done n i h, filter-nil U) at K.choice in
      rw (← e, lt-ltb b n K.best)

-- The least of the releases after moment t, none if there is none.
filter_map : (f : ℕ → ℕ) (U : ℕ → Bool) (xs : List ℕ) → std.filter U (map f xs) ≡ map f (filter (λ i. U (f i)) xs)
unfolding filter
filter_map f U [] = refl
filter_map f U (x ∷ xs) = test (U (f x)) (λ u. rw (u, filter_map f U xs)) (λ u. rw (u, filter_map f U xs))

fold_least : (f : ℕ → ℕ) (a x : ℕ) (xs : List ℕ) → std.fold min a (map f (x ∷ xs)) ≡ min a (least f (x ∷ xs))
unfolding least
fold_least f a x [] = refl
fold_least f a x (y ∷ ys) = let e = fold_least f (min a (f x)) y ys in omega arith

reduce_least :
    (f : ℕ → ℕ) (xs : List ℕ) → ((i : ℕ) → Memᴰ i xs → 0 < f i) → std.reduce min (map f xs) ≡ released (least f xs)
unfolding least
reduce_least f [] h = refl
reduce_least f (x ∷ []) h = rw (ne_eqb (f x) 0 (λ e. omega (arith, h x (Memᴰ.head refl))))
reduce_least f (x ∷ y ∷ ys) h =
    let w = least_in f (x ∷ y ∷ ys) (λ e. cons-nil e) in
    rw (fold_least f (f x) y ys, ne_eqb (least f (x ∷ y ∷ ys)) 0 (λ e. omega (arith, h w.0 w.1, w.2)))

pub least_released :
    (rs : List ℕ) (n : ℕ) → length rs ≡ n → (t : ℕ)
    → std.reduce min (std.filter (ltb t) rs) ≡ released (next_release (λ i. get_or rs i 0) (places n) t)
least_released rs n e t =
    let r : ℕ → ℕ = λ i. get_or rs i 0 in
    let U : ℕ → Bool = λ i. ltb t (r i) in
    let whole : map r (places n) ≡ rs = sym (take-map r rs n (omega arith) (λ i h. refl)) ∙ take_all n rs (omega arith) in
    ap (λ (xs : List ℕ). std.reduce min (std.filter (ltb t) xs)) (sym whole)
    ∙ ap (std.reduce min) (filter_map r (ltb t) (places n))
    ∙ reduce_least r (filter U (places n)) (λ i m. let l = (filter_in U (places n) m).1 in omega tests)

pub released_later : (r : ℕ → ℕ) (xs : List ℕ) (t : ℕ) → IfSome (released (next_release r xs t)) (λ u. t < u)
unfolding least
released_later r xs t =
    let U : ℕ → Bool = λ i. ltb t (r i) in
    split (or_filled (filter U xs))
    (λ e. rw e tt)
    (λ e.
    let w = least_in r (filter U xs) e in
    let l = (filter_in U xs w.1).1 in
    let later : t < next_release r xs t = omega (tests, w.2) in
    rw (ne_eqb (next_release r xs t) 0 (λ z. omega arith)) later)

-- The greatest f of the places that U picks, 0 if it picks none.
range_places : (i n : ℕ) → std.range_with_len i n ≡ from i n
unfolding from
range_places i zero = refl
range_places i (suc n) = rw (add-one, range_places (suc i) n)

filter_same : (U : ℕ → Bool) (xs : List ℕ) → std.filter U xs ≡ filter U xs
unfolding filter
filter_same U [] = refl
filter_same U (x ∷ xs) = test (U x) (λ u. rw (u, filter_same U xs)) (λ u. rw (u, filter_same U xs))

fold_greatest : (f : ℕ → ℕ) (a : ℕ) (xs : List ℕ) → std.fold max a (map f xs) ≡ max a (greatest f xs)
unfolding greatest
fold_greatest f a [] = omega arith
fold_greatest f a (x ∷ xs) = let e = fold_greatest f (max a (f x)) xs in omega arith

reduce_greatest : (f : ℕ → ℕ) (xs : List ℕ) → unwrap_or (std.reduce max (map f xs)) 0 ≡ greatest f xs
unfolding greatest
reduce_greatest f [] = refl
reduce_greatest f (x ∷ xs) = fold_greatest f (f x) xs

pub greatest_picked :
    (f : ℕ → ℕ) (U : ℕ → Bool) (n : ℕ)
    → unwrap_or (std.reduce max (map f (std.filter U (std.range_with_len 0 n)))) 0 ≡ greatest f (filter U (places n))
greatest_picked f U n = rw (range_places 0 n, filter_same U (places n)) (reduce_greatest f (filter U (places n)))
