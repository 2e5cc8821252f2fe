-- `leading_digits` meets its contract: at each turn what is left decides the whole run.
use Prim.Native.Nat.{◌<◌, ◌≤◌}
use mathlib.Core.Bool.{false, true}
use mathlib.Core.Path.{◌≡◌, sym, ◌∙◌}
use native.Mathlib.Omega.{arith}
use borrow.Author.Rules.{rules}
use lib.ListN.{length, get_or, take}
use Rattle.std.specs.Char.{is_ascii_digit}
use Rattle.std.proofs.lemmas.Grind.{common_steps}
use Rattle.text.proofs.Scanning.{left_end, left_stop, left_more, near_at, value_below, value_small}
use Rattle.text.proofs.reading.leading_digits.Goals as goal
use Rattle.text.proofs.reading.leading_digits.Goals.{Then-not-is_ascii_digit}

pub returns-in_default-clause-value : goal.returns-in_default-clause-value
returns-in_default-clause-value c =
    let l = c.loop-count in
    let past : length (take 11 c.args.text.now) ≤ l.count = grind (arith, common_steps) in
    sym (left_end (take 11 c.args.text.now) l.value l.count past) ∙ l.invariant.2

-- The byte that ends the run.
stops : (c : Then-not-is_ascii_digit) → is_ascii_digit (get_or (take 11 c.args.text.now) c.loop-count.count 0) ≡ false
stops c =
    let i = c.loop-count.count in
    let at : c.in-Some.byte.now ≡ get_or c.args.text.now i 0 = grind (arith, common_steps) in
    rw (near_at c.args.text.now i c.in-Some.byte.now c.loop-count-test.true at)
    (sym c.is_ascii_digit.ensures.value ∙ c.if-not-is_ascii_digit.true)

pub returns-then-not-is_ascii_digit-clause-value : goal.returns-then-not-is_ascii_digit-clause-value
returns-then-not-is_ascii_digit-clause-value c =
    let l = c.loop-count in
    let inside : l.count < length (take 11 c.args.text.now) = grind (arith, common_steps) in
    sym (left_stop (take 11 c.args.text.now) l.value l.count inside (stops c)) ∙ l.invariant.2

pub returns-then-not-is_ascii_digit-clause-count : goal.returns-then-not-is_ascii_digit-clause-count
returns-then-not-is_ascii_digit-clause-count c =
    let no = stops c in
    grind (arith, common_steps)

pub overflow_mul-value : goal.overflow_mul-value
overflow_mul-value c =
    let l = c.loop-count in
    let v = value_small l.value l.count l.invariant.0 (search rules) in
    search rules

pub overflow_add-value : goal.overflow_add-value
overflow_add-value c =
    let l = c.loop-count in
    let v = value_small l.value l.count l.invariant.0 (search rules) in
    grind (arith, common_steps)

pub loop-count-preserved : goal.loop-count-preserved
loop-count-preserved c =
    let l = c.loop-count in
    let near = take 11 c.args.text.now in
    let b = c.in-Some.byte.now in
    let at : b ≡ get_or c.args.text.now l.count 0 = grind (arith, common_steps) in
    let same = near_at c.args.text.now l.count b c.loop-count-test.true at in
    let inside : l.count < length near = grind (arith, common_steps) in
    let goes : is_ascii_digit (get_or near l.count 0) ≡ true =
    rw same (sym c.is_ascii_digit.ensures.value ∙ c.if-not-is_ascii_digit.false)
    in
    let small : b ≤ 57 = grind (arith, common_steps) in
    let more = rw same at (left_more near l.value l.count inside goes) in
    rw c.from.ensures
    (value_below l.value b l.count l.invariant.0 small, grind (arith, common_steps), sym more ∙ l.invariant.2)

pub returns-clause-value : goal.returns-clause-value
returns-clause-value c =
    let l = c.loop-count in
    let past : length (take 11 c.args.text.now) ≤ l.count = grind (arith, common_steps) in
    sym (left_end (take 11 c.args.text.now) l.value l.count past) ∙ l.invariant.2
