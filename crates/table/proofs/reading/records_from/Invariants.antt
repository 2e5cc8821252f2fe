-- `records_from` meets its contract: at each turn what is left to read decides the whole.
use Prim.Native.Nat.{◌-◌}
use Rattle.subjobs.specs.Sets.{size}
use Rattle.table.proofs.Filling.{Reached}
use Rattle.table.proofs.reading.records_from.Given as goal

abbrev pub invariant-loop-i : goal.invariant-loop-i
invariant-loop-i l = Reached l.text l.at l.records l.i

abbrev pub decreases-loop-i : goal.decreases-loop-i
decreases-loop-i l = 128 - size l.records
