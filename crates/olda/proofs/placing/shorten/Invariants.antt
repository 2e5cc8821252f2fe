-- `placing::shorten` meets its contract: the completions passed are lessened, the others stand as they stood.
use Rattle.std.proofs.Common.{◌≡◌}
use Rattle.olda.specs.Parts.{lessened}
use Rattle.olda.proofs.placing.shorten.Given as goal

abbrev pub invariant-loop-end : goal.invariant-loop-end
invariant-loop-end l = l.end-items ≡ lessened l.end-index l.execution l.initial.end-items
