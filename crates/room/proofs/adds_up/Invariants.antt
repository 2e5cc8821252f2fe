-- `adds_up` meets its contract: what is left of the places is what the lengths that are left must make up.
use Rattle.stretches.proofs.Judged.{Taken}
use Rattle.room.proofs.adds_up.Given as goal

abbrev pub invariant-loop-length : goal.invariant-loop-length
invariant-loop-length l = Taken l.lengths l.places l.left l.length-index
