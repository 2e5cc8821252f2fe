-- `number_at` meets its contract: the run of digits says whether a number begins here.
use Prim.Native.Nat.{ℕ, ◌<◌, ◌≤◌}
use mathlib.Core.List.{List}
use mathlib.Core.Path.{◌≡◌, sym, ap, ◌∙◌}
use Rattle.std.specs.List.{prefix_len}
use Rattle.std.specs.Char.{is_ascii_digit}
use native.Mathlib.Omega.{arith}
use Rattle.std.proofs.lemmas.Grind.{common_steps}
use Rattle.text.specs.Format.{value}
use Rattle.text.proofs.Scanning.{run, run_within, run_whole, run_short, number_past, number_length, number_great, number_is}
use Rattle.text.proofs.reading.number_at.Goals as goal
use Rattle.text.proofs.reading.number_at.Goals.{Else-not-contains}

pub returns-in_err-rest : goal.returns-in_err-rest
returns-in_err-rest c =
    rw c.from_residual.ensures (sym (number_past _ _ (grind (arith, common_steps))))

-- Of 1 to 10 digits, which are then the whole run.
module _ (c : Else-not-contains) where
  abbrev rest : List ℕ
  rest = c.in_ok-rest.rest.now

  abbrev led : ℕ × ℕ
  led = c.leading_digits-value.result

  held : (1 ≤ led.1) × (led.1 ≤ 10)
  held = grind (arith, common_steps)

  counted : led.1 ≡ prefix_len is_ascii_digit rest
  counted = run_within rest c.leading_digits-value.ensures.count held.1

  valued : led.0 ≡ value (run rest)
  valued = c.leading_digits-value.ensures.value ∙ ap value (run_whole rest c.leading_digits-value.ensures.count held.1)

pub returns-then-not-contains : goal.returns-then-not-contains
returns-then-not-contains c =
    let n = c.leading_digits-value.result.1 in
    let no : (1 ≤ n) × (n ≤ 10) → ⊥ = λ h. grind (arith, common_steps) in
    sym (number_length _ _ c.in_ok-rest.ensures.lookup.0.2 (λ h. no (run_short c.in_ok-rest.rest.now c.leading_digits-value.ensures.count h)))

pub returns-in_err-ok : goal.returns-in_err-ok
returns-in_err-ok c =
    let h = (goal.at.returns-in_err-ok c).Else-not-contains in
    let great : 4_294_967_295 < c.leading_digits-value.result.0 = grind (arith, common_steps) in
    rw c.from_residual-in_err-ok.ensures (sym (number_great _ _ c.in_ok-rest.ensures.lookup.0.2 (rw (valued h) at great)))

pub returns : goal.returns
returns c =
    let h = (goal.at.returns c).Else-not-contains in
    let n = counted h in
    let l = held h in
    let v : c.in_ok-ok.field-0 ≡ c.leading_digits-value.result.0 = grind (arith, common_steps) in
    let few : c.leading_digits-value.result.0 ≤ 4_294_967_295 = grind (arith, common_steps) in
    rw (v, valued h, n)
    (sym (number_is _ _ c.in_ok-rest.ensures.lookup.0.2 (omega (arith, n, l.0)) (omega (arith, n, l.1)) (rw (valued h) at few)))
