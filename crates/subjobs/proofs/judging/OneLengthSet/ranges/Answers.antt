-- `judging::ranges` meets its contract: at each turn what is left to look at decides the whole search.
use Rattle.std.proofs.Common.{sym, ◌∙◌}
use Rattle.subjobs.proofs.Leaving.{leaves}
use Rattle.subjobs.proofs.Searching.{seek_start, seek_found, seek_on, seek_done}
use Rattle.subjobs.proofs.judging.OneLengthSet.ranges.Goals as goal

pub loop-place-init : goal.loop-place-init
loop-place-init c = seek_start _ _

pub returns-in_err-range_at : goal.returns-in_err-range_at
returns-in_err-range_at c =
    leaves _ c.in_err-range_at.field-0.0 c.from_residual.ensures.1
    ∙ seek_found c.loop-place.invariant c.loop-place-test.true _ (sym c.range_at.ensures ∙ c.in_err-range_at.was)

pub loop-place-preserved : goal.loop-place-preserved
loop-place-preserved c = seek_on c.loop-place.invariant c.loop-place-test.true (sym c.range_at.ensures ∙ c.in_ok-range_at.was)

pub returns : goal.returns
returns c = seek_done c.loop-place.invariant c.loop-place-test.false
