-- `Work::to_serve` meets its contract: at each turn what was found and what is left to look at decide the whole choice.
use mathlib.Core.Path.{sym, ◌∙◌}
use Rattle.edf.proofs.Looking.{look_start, look_skip, look_first, look_next, look_done}
use Rattle.edf.proofs.work.Work.to_serve.Goals as goal
use Rattle.edf.proofs.work.Work.to_serve.Goals.{then-active+in-Some, then-active+in-None, else-active}

pub loop-place-init : goal.loop-place-init
loop-place-init c = look_start _ _ _

pub loop-place-preserved : goal.loop-place-preserved
loop-place-preserved c =
    elim c.if-active.branch [
      | then-active+in-Some w ↦
          rw (w.best-is, w.first.ensures)
          (look_next (rw w.in-Some.is at c.loop-place.invariant) c.loop-place-test.true (sym c.active.ensures ∙ w.if-active.true))
      | then-active+in-None w ↦
          rw w.best-is
          (look_first (rw w.in-None.is at c.loop-place.invariant) c.loop-place-test.true (sym c.active.ensures ∙ w.if-active.true))
      | else-active w ↦
          rw w.best-is (look_skip c.loop-place.invariant c.loop-place-test.true (sym c.active.ensures ∙ w.if-active.false))
    ]

pub returns : goal.returns
returns c = look_done _ c.loop-place.invariant c.loop-place-test.false
