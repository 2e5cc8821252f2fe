-- `record_at` meets its contract: at each turn the fields that are left decide the whole.
use mathlib.Core.Path.{◌∙◌}
use Rattle.text.proofs.Scanning.{filled_all, cell_here, filled_broken, filled_more}
use Rattle.text.proofs.reading.record_at.Goals as goal

pub returns-in_err-value : goal.returns-in_err-value
returns-in_err-value c =
    rw c.from_residual.ensures (filled_broken c.loop-k.invariant c.loop-k-test.true (cell_here c.loop-k.invariant c.loop-k-test.true c.cell_at.ensures ∙ c.in_err-value.was))

pub loop-k-preserved : goal.loop-k-preserved
loop-k-preserved c =
    filled_more c.loop-k.invariant c.loop-k-test.true _ _ (cell_here c.loop-k.invariant c.loop-k-test.true c.cell_at.ensures ∙ c.in_ok-value.was)

pub returns : goal.returns
returns c =
    rw c.line_end.ensures (filled_all c.loop-k.invariant c.loop-k-test.false)
