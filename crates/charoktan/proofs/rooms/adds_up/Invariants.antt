-- `rooms::adds_up` meets its contract: what is left of the records is what the lengths that are left must make up.
use Rattle.stretches.proofs.Judged.{Taken}
use Rattle.charoktan.specs.Rooms.{words_of}
use Rattle.charoktan.proofs.rooms.adds_up.Given as goal

abbrev pub invariant-loop-length : goal.invariant-loop-length
invariant-loop-length l = Taken (words_of l.fn.lengths) l.records l.left l.length-index
