-- How a count of places left falls as a loop goes up, and what a search does as a loop goes down.
use Prim.Native.Nat.{ℕ, zero, suc, ◌+◌, ◌-◌, ◌<◌, ◌≤◌}
use mathlib.Core.Bool.{Bool, true, false, ◌||◌, or-true}
use mathlib.Core.Path.{◌≡◌, ap}
use native.Mathlib.Nat.{add-zero, zero-add}
use native.Mathlib.Omega.{arith}
use Rattle.lists.specs.Search.{some_from, some}

pub left_more : (n i : ℕ) → i < n → n - i ≡ suc (n - (i + 1))
left_more n i h = omega arith

pub left_none : (n i : ℕ) → n ≤ i → n - i ≡ 0
left_none n i h = omega arith

-- A search from its last place on.
module _ (P : ℕ → Bool) where
  last_yes : (n i : ℕ) → P (i + n) ≡ true → some_from P (suc n) i ≡ true
  unfolding some_from
  last_yes zero i e = let f = rw (add-zero i) at e in rw f
  last_yes (suc n) i e =
      let z : i + suc n ≡ suc i + n = omega arith in
      rw (last_yes n (suc i) (rw z at e)) (or-true (P i))

  last_no : (n i : ℕ) → P (i + n) ≡ false → some_from P (suc n) i ≡ some_from P n i
  unfolding some_from
  last_no zero i e = let f = rw (add-zero i) at e in rw f
  last_no (suc n) i e =
      let z : i + suc n ≡ suc i + n = omega arith in
      ap (λ (b : Bool). P i || b) (last_no n (suc i) (rw z at e))

  module _ (n : ℕ) (h : 0 < n) where
    one_less : suc (n - 1) ≡ n
    one_less = omega arith

    pub some_last : P (n - 1) ≡ true → some P n ≡ true
    some_last e = rw one_less at (last_yes (n - 1) 0 (rw (zero-add (n - 1)) e))

    pub some_but_last : P (n - 1) ≡ false → some P n ≡ some P (n - 1)
    some_but_last e = rw one_less at (last_no (n - 1) 0 (rw (zero-add (n - 1)) e))

  pub some_none : (n : ℕ) → n ≤ 0 → some P n ≡ false
  unfolding some_from
  some_none n h = let z : n ≡ 0 = omega arith in rw z
