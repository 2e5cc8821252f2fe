-- `bytes::column` meets its contract: what is read so far stands at the front.
use mathlib.Core.Path.{◌≡◌}
use lib.ListN.{take}
use Rattle.charoktan.specs.Records.{column}
use Rattle.charoktan.proofs.bytes.column.Given as goal

abbrev pub invariant-loop-i : goal.invariant-loop-i
invariant-loop-i g l = take l.i l.room ≡ column l.bytes g.row.WIDTH l.at l.i
