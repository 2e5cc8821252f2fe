-- `rooms::assign_each` meets its contract: each turn assigns one set, whatever became of those before it.
use Rattle.charoktan.proofs.RoomDoor.{Turned}
use Rattle.charoktan.proofs.rooms.assign_each.Given as goal

abbrev pub invariant-loop-k : goal.invariant-loop-k
invariant-loop-k l =
    Turned l.records l.fn.lengths l.initial.deadlines l.initial.numbers l.initial.places l.deadlines l.numbers l.places l.start l.k
