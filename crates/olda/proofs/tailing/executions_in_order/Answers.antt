-- `tailing::executions_in_order` meets its contract: as far as it got, the executions stand in release order.
use Rattle.std.proofs.Common.{arith}
use Rattle.olda.proofs.Adding.{ordered_more}
use Rattle.olda.proofs.tailing.executions_in_order.Goals as goal

pub loop-i-preserved : goal.loop-i-preserved
loop-i-preserved c =
    ordered_more c.args.executions.now c.args.order.now c.loop-i.ends c.loop-i-test.true (omega arith) c.loop-i.invariant
