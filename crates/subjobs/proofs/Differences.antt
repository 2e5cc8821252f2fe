-- Differences of two naturals as signed numbers, and that a machine word holds them.
use Prim.Native.Nat.{ℕ, zero, suc, ◌+◌, ◌-◌, ◌<◌}
use mathlib.Core.Path.{◌≡◌, refl}
use native.Mathlib.Omega.{arith}
use borrow.Author.Rules.{sfits_of}
use borrow.Author.Tests.{lt-ltb, le-ltb}
use lib.Dec.{ltb}
use lib.IntN.{pos, negsuc, sub_ℕ, ◌-ℤ◌}
use mir.Syntax.{w64}
use mir.Val.{SFits}
use Rattle.lists.proofs.Cases.{test, tests}

pub sub_same : (a b c d : ℕ) → a + d ≡ c + b → sub_ℕ a b ≡ sub_ℕ c d
sub_same a b c d e =
    test (ltb a b)
    (λ t.
    let l = lt-ltb c d (omega tests) in
    let q : b - suc a ≡ d - suc c = omega tests in
    rw (t, l, q))
    (λ t.
    let l = le-ltb c d (omega tests) in
    let q : a - b ≡ c - d = omega tests in
    rw (t, l, q))

pub sub_pos : (a b d : ℕ) → a ≡ b + d → pos d ≡ sub_ℕ a b
sub_pos a b d e =
    let l = le-ltb a b (omega arith) in
    let q : a - b ≡ d = omega arith in
    rw (l, q)

sub_neg : (a b d : ℕ) → b ≡ a + suc d → negsuc d ≡ sub_ℕ a b
sub_neg a b d e =
    let l = lt-ltb a b (omega arith) in
    let q : b - suc a ≡ d = omega arith in
    rw (l, q)

pub sub_less : (a b d : ℕ) → sub_ℕ a b -ℤ pos d ≡ sub_ℕ a (b + d)
sub_less a b zero =
    test (ltb a b)
    (λ t. rw t (sub_same 0 (suc (b - suc a)) a (b + 0) (omega tests)))
    (λ t. rw t (sub_pos a (b + 0) (a - b + 0) (omega tests)))
sub_less a b (suc d) =
    test (ltb a b)
    (λ t. rw t (sub_neg a (b + suc d) (suc (b - suc a + d)) (omega tests)))
    (λ t. rw t (sub_same (a - b) (suc d) a (b + suc d) (omega tests)))

pub sub_minus : (a b : ℕ) → pos a -ℤ pos b ≡ sub_ℕ a b
sub_minus a zero = sub_pos a 0 (a + 0) (omega arith)
sub_minus a (suc b) = refl

pub sub_fits : (a b : ℕ) → a < 8589934592 → b < 8589934592 → SFits w64 (sub_ℕ a b)
sub_fits a b h l = test (ltb a b) (λ t. rw t (sfits_of (omega tests))) (λ t. rw t (sfits_of (omega tests)))
