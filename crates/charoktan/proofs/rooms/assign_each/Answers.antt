-- `rooms::assign_each` meets its contract: each turn assigns one set, whatever became of those before it.
use Prim.Native.Nat.{◌/◌, ◌<◌}
use mathlib.Core.Path.{◌∙◌}
use native.Mathlib.Omega.{arith}
use lib.ListN.{length}
use Rattle.charoktan.proofs.RoomDoor.{length_here, turned_none, turned_stretch, turned_next, turned_all}
use Rattle.charoktan.proofs.rooms.assign_each.Goals as goal

pub loop-k-init : goal.loop-k-init
loop-k-init c =
    turned_none _ _ _ _ _ c.requires

pub assign_at-requires : goal.assign_at-requires
assign_at-requires c =
    let h : c.loop-k.k < length c.args.lengths.now / 4 = omega (arith, c.as_chunks.ensures.front_len) in
    turned_stretch _ _ c.loop-k.invariant h _ (c.from_le_bytes-count.ensures ∙ length_here _ _ _ c.as_chunks.ensures.front h)

pub loop-k-preserved : goal.loop-k-preserved
loop-k-preserved c =
    let h : c.loop-k.k < length c.args.lengths.now / 4 = omega (arith, c.as_chunks.ensures.front_len) in
    let a = c.assign_at.ensures.assigns in
    turned_next _ _ c.loop-k.invariant h _ (c.from_le_bytes-count.ensures ∙ length_here _ _ _ c.as_chunks.ensures.front h) a.0 a.1 c.told-number.ensures.0 c.told-number.ensures.1
    c.put.ensures
    c.put-in-loop-k.ensures

pub returns : goal.returns
returns c =
    turned_all _ _ c.loop-k.invariant (omega (arith, c.loop-k-test.false, c.as_chunks.ensures.front_len))
