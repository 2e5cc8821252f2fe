-- `bounding::raise` meets its contract: the bounds so far are raised.
use Rattle.olda.specs.Parts.{limits, Raised}
use Rattle.olda.proofs.bounding.raise.Given as goal

abbrev pub invariant-loop-i : goal.invariant-loop-i
invariant-loop-i l = Raised (limits l.deadlines l.criticals) l.i l.bounds
