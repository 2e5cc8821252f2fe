-- `read` meets its contract: 10, then 11, then line by line.
use native.Mathlib.Omega.{arith}
use mathlib.Core.Path.{◌≡◌}
use Rattle.std.proofs.Common.{Some, None}
use Rattle.std.proofs.lemmas.Grind.{common_steps}
use borrow.Author.Tests.{lt-ltb, le-ltb}
use Rattle.table.specs.Reading.{read}
use Rattle.table.proofs.reading.read.Goals as goal

pub returns-then-text-gt16384 : goal.returns-then-text-gt16384
unfolding read
returns-then-text-gt16384 c = rw (lt-ltb _ _ c.if-text-gt16384.true)

pub returns-in_err-at : goal.returns-in_err-at
unfolding read
returns-in_err-at c =
    let n : c.after_line.result ≡ None = grind (arith, common_steps) in
    rw (le-ltb _ _ c.if-text-gt16384.false, ← c.after_line.ensures, n) (grind (arith, common_steps))

pub returns : goal.returns
unfolding read
returns c =
    let n : c.after_line.result ≡ Some c.in_ok-at.at = grind (arith, common_steps) in
    rw (le-ltb _ _ c.if-text-gt16384.false, ← c.after_line.ensures, n) c.records_from.ensures
