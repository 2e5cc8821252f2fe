-- `rooms::assign` meets its contract: the two tests, and every set assigned.
use mathlib.Core.Path.{sym, ◌∙◌}
use borrow.Author.Tests.{le-leb, lt-leb}
use Rattle.charoktan.proofs.RoomDoor.{room_unfit, room_large, room_reads, room_read}
use Rattle.charoktan.proofs.rooms.assign.Goals as goal
use Rattle.charoktan.proofs.rooms.assign.Goals.{then-lengths-gt32-via-then-lengths-gt32, then-lengths-gt32-via-else-lengths-gt32+then-records-gt4096}

pub returns-then-not-fitting-clause-rooms : goal.returns-then-not-fitting-clause-rooms
returns-then-not-fitting-clause-rooms c =
    room_unfit _ (sym c.fitting.ensures ∙ c.if-not-fitting.true)

pub returns-then-lengths-gt32-clause-rooms : goal.returns-then-lengths-gt32-clause-rooms
returns-then-lengths-gt32-clause-rooms c =
    room_large _ (sym c.fitting.ensures ∙ c.if-not-fitting.false)
    (elim c.then-lengths-gt32.branch [
      | then-lengths-gt32-via-then-lengths-gt32 w ↦ rw (lt-leb _ _ w.if-lengths-gt32.true)
      | then-lengths-gt32-via-else-lengths-gt32+then-records-gt4096 w ↦ rw (le-leb _ _ w.if-lengths-gt32.false, lt-leb _ _ w.if-records-gt4096.true)
    ])

pub assign_each-requires : goal.assign_each-requires
assign_each-requires c =
    room_reads _ (sym c.fitting.ensures ∙ c.if-not-fitting.false) (rw (le-leb _ _ c.if-lengths-gt32.false, le-leb _ _ c.if-records-gt4096.false))

pub returns-clause-rooms : goal.returns-clause-rooms
returns-clause-rooms c =
    room_read _ (sym c.fitting.ensures ∙ c.if-not-fitting.false)
    (rw (le-leb _ _ c.if-lengths-gt32.false, le-leb _ _ c.if-records-gt4096.false))
    c.assign_each.ensures
