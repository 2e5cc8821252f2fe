-- `placing::shorten` meets its contract: the completions passed are lessened, the others stand as they stood.
use Rattle.std.proofs.Common.{◌-◌, get_or, arith}
use Rattle.std.proofs.lemmas.List.{get_or_default}
use Rattle.std.proofs.lemmas.List.Edits.{map_over_more}
use Rattle.olda.proofs.placing.shorten.Goals as goal

pub loop-end-preserved : goal.loop-end-preserved
loop-end-preserved c =
    let es = c.loop-end.end-items in
    let i = c.loop-end.end-index in
    map_over_more (λ e. e - c.args.execution) c.args.ends.now es i (get_or es i 0) c.loop-end-test.true c.loop-end.invariant
    (get_or_default es i 0 (get_or es i 0) (omega arith))
