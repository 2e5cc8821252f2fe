-- `adds_up` meets its contract: what is left of the places is what the lengths that are left must make up.
use mathlib.Core.Path.{refl}
use native.Mathlib.Omega.{arith}
use Rattle.stretches.proofs.Judged.{taken_next, taken_short, taken_all}
use Rattle.room.proofs.adds_up.Goals as goal

pub returns-in_default : goal.returns-in_default
returns-in_default c =
    taken_short c.loop-length.invariant c.loop-length-test.true refl (omega (arith, c.in_default.ensures))

pub loop-length-preserved : goal.loop-length-preserved
loop-length-preserved c =
    let e = c.in-Some.ensures in rw e.1 (taken_next c.loop-length.invariant c.loop-length-test.true refl e.0)

pub returns : goal.returns
returns c = taken_all c.loop-length.invariant c.loop-length-test.false
