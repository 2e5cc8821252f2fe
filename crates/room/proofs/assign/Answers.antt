-- `assign` meets its contract: the two tests, and every set assigned.
use mathlib.Core.Path.{sym, ◌∙◌}
use borrow.Author.Tests.{le-leb, lt-leb}
use Rattle.room.proofs.Answered.{unfit, too_large, all_sets, all_assigned}
use Rattle.room.proofs.assign.Goals as goal
use Rattle.room.proofs.assign.Goals.{then-lengths-gt32-via-then-lengths-gt32, then-lengths-gt32-via-else-lengths-gt32+then-sets-gt4096}

pub returns-then-not-fitting : goal.returns-then-not-fitting
returns-then-not-fitting c = unfit _ (sym c.fitting.ensures ∙ c.if-not-fitting.true)

pub returns-then-lengths-gt32 : goal.returns-then-lengths-gt32
returns-then-lengths-gt32 c =
    too_large _ (sym c.fitting.ensures ∙ c.if-not-fitting.false)
    (elim c.then-lengths-gt32.branch [
      | then-lengths-gt32-via-then-lengths-gt32 w ↦ rw (lt-leb _ _ w.if-lengths-gt32.true)
      | then-lengths-gt32-via-else-lengths-gt32+then-sets-gt4096 w ↦ rw (le-leb _ _ w.if-lengths-gt32.false, lt-leb _ _ w.if-sets-gt4096.true)
    ])

pub assign_each-requires : goal.assign_each-requires
assign_each-requires c =
    all_sets _ (sym c.fitting.ensures ∙ c.if-not-fitting.false) (rw (le-leb _ _ c.if-lengths-gt32.false, le-leb _ _ c.if-sets-gt4096.false))

pub returns : goal.returns
returns c =
    all_assigned _ (sym c.fitting.ensures ∙ c.if-not-fitting.false)
    (rw (le-leb _ _ c.if-lengths-gt32.false, le-leb _ _ c.if-sets-gt4096.false))
    c.assign_each.ensures
