-- `bounding::raise` meets its contract: the bounds so far are raised.
use Rattle.olda.proofs.Raised.{raised_more}
use Rattle.olda.proofs.bounding.raise.Goals as goal

pub loop-i-preserved : goal.loop-i-preserved
loop-i-preserved c =
    raised_more _ c.requires c.loop-i.auto.bounds c.loop-i-test.true c.withheld.ensures c.loop-i.invariant
