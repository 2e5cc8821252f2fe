-- A search finds nobody, or somebody.
use Prim.Native.Nat.{ℕ, zero, suc, ◌+◌, ◌<◌, ◌≤◌}
use mathlib.Core.Bool.{Bool, true, false}
use mathlib.Core.Logic.{◌⊎◌, inl, inr}
use mathlib.Core.Path.{◌≡◌, refl}
use native.Mathlib.Omega.{arith}
use lib.Dec.{eqb}
use Rattle.lists.specs.Search.{some_from, some}
use Rattle.lists.proofs.Cases.{split, test, tests}

-- What holds at a place and behind it holds from that place on.
pub onward : {n : ℕ} (P : ℕ → Type 0) (i : ℕ) → P i → ((k : ℕ) → suc i ≤ k → k < n → P k) → (k : ℕ) → i ≤ k → k < n → P k
onward P i h all k lo hi =
    test (eqb k i) (λ e. let q : k ≡ i = omega tests in rw q h) (λ e. all k (omega tests) hi)

found :
    (P : ℕ → Bool) (n i : ℕ)
    → ((some_from P n i ≡ false) × ((k : ℕ) → i ≤ k → k < i + n → P k ≡ false))
    ⊎ ((some_from P n i ≡ true) × (k : ℕ) × (k < i + n) × (P k ≡ true))
unfolding some_from
found P zero i = inl (refl, λ k lo hi. absurd (omega arith))
found P (suc n) i =
    test (P i)
    (λ e. inr (rw e, i, omega arith, e))
    (λ e.
    split (found P n (suc i))
    (λ h. inl (rw e h.0, λ k lo hi. onward (λ j. P j ≡ false) i e h.1 k lo (omega arith)))
    (λ h. inr (rw e h.0, h.1, omega (arith, h.2), h.3)))

pub some_cases :
    (P : ℕ → Bool) (n : ℕ)
    → ((some P n ≡ false) × ((k : ℕ) → k < n → P k ≡ false)) ⊎ ((some P n ≡ true) × (k : ℕ) × (k < n) × (P k ≡ true))
some_cases P n =
    split (found P n 0)
    (λ h. inl (h.0, λ k b. h.1 k (omega arith) (omega arith)))
    (λ h. inr (h.0, h.1, omega (arith, h.2), h.3))
