-- `rooms::assign_at` meets its contract: the set assigned is the one in the stretch, and the other bytes stay.
use Prim.Native.Nat.{◌+◌, ◌-◌, ◌*◌}
use mathlib.Core.Path.{◌≡◌}
use native.Mathlib.Omega.{arith}
use Rattle.charoktan.proofs.RoomDoor.{code_here, bytes_here}
use Rattle.charoktan.proofs.rooms.assign_at.Goals as goal

pub returns-clause-assigns : goal.returns-clause-assigns
returns-clause-assigns c =
    let a = c.args in
    let i : 24 * (a.start + a.count) - 24 * a.start ≡ 24 * a.count = omega arith in
    let j : 4 * (a.start + a.count) - 4 * a.start ≡ 4 * a.count = omega arith in
    let e = c.assign.ensures.assigns in (
      code_here a.records.now a.deadlines.now a.start a.count _ _ c.requires i j e.0,
      bytes_here a.records.now a.deadlines.now a.start a.count _ _ c.requires i j e.1,
    )
