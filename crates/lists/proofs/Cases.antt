-- Taking things apart: a sum, a test with its outcome as a fact, and the rule sets by which omega reads tests.
use Prim.Native.Nat.{ℕ, ◌<◌, ◌≤◌}
use mathlib.Core.Bool.{Bool, true, false, true≢false, ◌&&◌, ◌||◌, and-eq-true_iff}
use mathlib.Core.Path.{◌≡◌, refl, sym, ◌∙◌}
use mathlib.Core.Logic.{◌≢◌, ◌⊎◌, inl, inr}
use native.Mathlib.Omega.{arith}
use borrow.Author.Tests.{ltb-true, ltb-false, leb-true, leb-false, eqb-true, eqb-false, lt-ltb, le-ltb, le-leb, lt-leb, eq-eqb}
use lib.Dec.{ltb, leb, eqb}

-- The scrutinee stands first, so that the cases are read with their types known.
pub split : {A B C : Type 0} → A ⊎ B → (A → C) → (B → C) → C
split (inl a) f g = f a
split (inr b) f g = g b

pub test : {X : Type 0} (b : Bool) → (b ≡ true → X) → (b ≡ false → X) → X
test true f g = f refl
test false f g = g refl

pub clash : {X : Type 0} {b : Bool} → b ≡ true → b ≡ false → X
clash p q = absurd (true≢false (sym p ∙ q))

pub eqb_no : (a b : ℕ) → eqb a b ≡ false → a ≢ b
eqb_no a b e = eqb-false a b e

-- omega tests: reads tests in scope. omega tested: also proves them.
pub ruleset tests = (arith, ltb-true, ltb-false, leb-true, leb-false, eqb-true, eqb_no)

pub ruleset tested = (tests, lt-ltb, le-ltb, le-leb, lt-leb, eq-eqb)

pub both : {a b : Bool} → (a && b) ≡ true → (a ≡ true) × (b ≡ true)
both {a} {b} e = (and-eq-true_iff a b).0 e

pub neither : {a b : Bool} → (a || b) ≡ false → (a ≡ false) × (b ≡ false)
neither {a} {b} e = test a (λ t. clash (rw t) e) (λ t. (t, rw t at e))

-- Two tests that say the same of their numbers are one.
pub same_ltb : (a b c d : ℕ) → (a < b → c < d) → (b ≤ a → d ≤ c) → ltb a b ≡ ltb c d
same_ltb a b c d f g =
    test (ltb a b) (λ e. e ∙ sym (lt-ltb c d (f (omega tests)))) (λ e. e ∙ sym (le-ltb c d (g (omega tests))))

pub same_leb : (a b c d : ℕ) → (a ≤ b → c ≤ d) → (b < a → d < c) → leb a b ≡ leb c d
same_leb a b c d f g =
    test (leb a b) (λ e. e ∙ sym (le-leb c d (f (omega tests)))) (λ e. e ∙ sym (lt-leb c d (g (omega tests))))
