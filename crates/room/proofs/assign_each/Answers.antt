-- `assign_each` meets its contract: each turn assigns one set, whatever became of those before it.
use mathlib.Core.Path.{refl, ap, ◌∙◌}
use Rattle.stretches.specs.Answers.{number, place}
use Rattle.room.proofs.Turns.{place_within, turned_none, turned_inside, turned_next, turned_all}
use Rattle.room.proofs.assign_each.Goals as goal

pub loop-k-init : goal.loop-k-init
loop-k-init c = turned_none _ _ _ _ _ c.requires

pub assign_at-requires : goal.assign_at-requires
assign_at-requires c = turned_inside _ _ c.loop-k.invariant c.loop-k-test.true _ refl

pub told-number-requires : goal.told-number-requires
told-number-requires c = rw c.assign_at.ensures.0 (place_within _ _)

pub loop-k-preserved : goal.loop-k-preserved
loop-k-preserved c =
    let a = c.assign_at.ensures in
    turned_next _ _ c.loop-k.invariant c.loop-k-test.true _ refl a.1
    (c.told-number.ensures.0 ∙ ap number a.0)
    (c.told-number.ensures.1 ∙ ap place a.0)

pub returns : goal.returns
returns c = turned_all _ _ c.loop-k.invariant c.loop-k-test.false
