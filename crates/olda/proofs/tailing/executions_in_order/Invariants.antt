-- `tailing::executions_in_order` meets its contract: as far as it got, the executions stand in release order.
use Rattle.std.proofs.Common.{◌≡◌, map, take}
use Rattle.olda.specs.Parts.{at}
use Rattle.olda.proofs.tailing.executions_in_order.Given as goal

abbrev pub invariant-loop-i : goal.invariant-loop-i
invariant-loop-i l = take l.i l.ends ≡ take l.i (map (at l.executions) l.order)
