-- `rooms::adds_up` meets its contract: what is left of the records is what the lengths that are left must make up.
use Prim.Native.Nat.{◌/◌, ◌<◌}
use mathlib.Core.Path.{◌∙◌}
use native.Mathlib.Omega.{arith}
use lib.ListN.{length}
use Rattle.stretches.proofs.Judged.{taken_next, taken_short, taken_all}
use Rattle.charoktan.proofs.RoomDoor.{words_length, length_here}
use Rattle.charoktan.proofs.rooms.adds_up.Goals as goal

pub returns-in_default : goal.returns-in_default
returns-in_default c =
    let h : c.loop-length.length-index < length c.args.lengths.now / 4 = omega (arith, c.as_chunks.ensures.front_len) in
    taken_short c.loop-length.invariant (omega (arith, words_length c.args.lengths.now))
    (c.from_le_bytes.ensures ∙ length_here _ _ _ c.as_chunks.ensures.front h)
    (omega (arith, c.in_default.ensures))

pub loop-length-preserved : goal.loop-length-preserved
loop-length-preserved c =
    let h : c.loop-length.length-index < length c.args.lengths.now / 4 = omega (arith, c.as_chunks.ensures.front_len) in
    let e = c.in-Some.ensures in
    rw e.1
    (taken_next c.loop-length.invariant (omega (arith, words_length c.args.lengths.now))
    (c.from_le_bytes.ensures ∙ length_here _ _ _ c.as_chunks.ensures.front h)
    e.0)

pub returns : goal.returns
returns c =
    taken_all c.loop-length.invariant (omega (arith, c.loop-length-test.false, c.as_chunks.ensures.front_len, words_length c.args.lengths.now))
