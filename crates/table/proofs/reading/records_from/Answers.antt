-- `records_from` meets its contract: at each turn what is left to read decides the whole.
use Prim.Native.Nat.{◌+◌}
use mathlib.Core.Path.{◌≡◌, sym, ◌∙◌}
use native.Mathlib.Omega.{arith}
use Rattle.std.proofs.Common.{Some, None, Err}
use Rattle.std.proofs.lemmas.Grind.{common_steps}
use Rattle.subjobs.specs.Sets.{size}
use Rattle.subjobs.specs.declared.Reason.TheVariants as reason
use Rattle.text.proofs.Scanning.{recorded_all}
use Rattle.table.proofs.Filling.{reached_end, reached_many, reached_broken, reached_more}
use Rattle.table.proofs.reading.records_from.Goals as goal

pub returns-then-len-ge128 : goal.returns-then-len-ge128
returns-then-len-ge128 c = reached_many c.loop-i.invariant c.loop-i-test.true (omega arith)

pub returns-in_err-i : goal.returns-in_err-i
returns-in_err-i c =
    let n : c.record_at.result ≡ None = grind (arith, common_steps) in
    let e : c.from_residual.result ≡ Err (reason.Malformed (size c.loop-i.records + 2)) = grind (arith, common_steps) in
    e ∙ reached_broken c.loop-i.invariant c.loop-i-test.true (omega arith) (sym c.record_at.ensures.end ∙ n)

pub loop-i-preserved : goal.loop-i-preserved
loop-i-preserved c =
    let n : c.record_at.result ≡ Some c.in_ok-i.i = grind (arith, common_steps) in
    rw c.push.ensures
    (reached_more c.loop-i.invariant c.loop-i-test.true (omega arith) _ _ (recorded_all c.record_at.ensures _ n).0)

pub returns : goal.returns
returns c = reached_end c.loop-i.invariant c.loop-i-test.false
