-- `assign_each` meets its contract: each turn assigns one set, whatever became of those before it.
use Rattle.subjobs.specs.Sets.{subjobs_of}
use Rattle.room.proofs.Turns.{Turned}
use Rattle.room.proofs.assign_each.Given as goal

abbrev pub invariant-loop-k : goal.invariant-loop-k
invariant-loop-k l =
    Turned (subjobs_of l.sets) l.lengths l.initial.results l.results l.numbers l.places l.start l.k
