-- Completions fall: once a sub-job of the base has left, no tail of the rest completes as late.
use Prim.Native.Nat.{ℕ, ◌+◌, ◌≤◌, ◌<◌}
use mathlib.Core.Bool.{Bool, not}
use mathlib.Core.List.{List, [], ◌∷◌, Memᴰ}
use mathlib.Core.Path.{sym, ap}
use native.Mathlib.Omega.{arith}
use lib.Dec.{eqb}
use Rattle.lists.specs.Places.{filter, without, weight}
use Rattle.lists.proofs.Cases.{split}
use Rattle.lists.proofs.Members.{in_cons, in_nil, filter_cases, filter-nil, without_cases}
use Rattle.lists.proofs.Sums.{weight-filter, weight_out}
use Rattle.rules.specs.Method.{best, base}
use Rattle.rules.proofs.Tails.{base-nil, base_cases, best_ge, base_in}

module _ (r c : ℕ → ℕ) where
  best_lt : (x : ℕ) (xs : List ℕ) {a : ℕ} → r x + (c x + weight c xs) < a → best r c xs < a → best r c (x ∷ xs) < a
  best_lt x xs h k = split (base_cases r c x xs) (λ b. omega arith) (λ b. omega arith)

  -- A subset's best is at most the group's.
  pub best-filter : (U : ℕ → Bool) (xs : List ℕ) → best r c (filter U xs) ≤ best r c xs
  best-filter U [] = omega (arith, ap (best r c) (filter-nil U))
  best-filter U (x ∷ xs) =
      let ih = best-filter U xs in
      let g = best_ge r c x xs in
      split (filter_cases U x xs)
      (λ q. rw q.1 (split (base_cases r c x (filter U xs)) (λ b. omega (arith, weight-filter c U xs)) (λ b. omega arith)))
      (λ q. rw q.1 (omega arith))

  -- With one of the base taken out, the best falls.
  pub falls : (xs : List ℕ) {b : ℕ} → Memᴰ b (base r c xs) → 1 ≤ c b → best r c (without b xs) < best r c xs
  falls [] m o = in_nil (rw (base-nil r c) at m)
  falls (x ∷ xs) {b} m o =
      let f = best-filter (λ i. not (eqb i b)) xs in
      split (without_cases b x xs)
      (λ q.
      rw q.1
      (split (base_cases r c x xs)
      (λ a.
      in_cons (rw a.1 at m)
      (λ e. absurd (q.0 (sym e)))
      (λ t. best_lt x (without b xs) (omega (arith, weight_out c b xs t)) (omega arith)))
      (λ a.
      let t = rw a.1 at m in
      best_lt x (without b xs) (omega (arith, weight_out c b xs (base_in r c xs t))) (omega (arith, falls xs t o)))))
      (λ q.
      rw q.1
      (split (base_cases r c x xs) (λ a. omega arith) (λ a. omega (arith, falls xs (rw a.1 at m) o))))
