-- `tailing::completions` meets its contract: the first i tails have their completions.
use Rattle.std.proofs.Common.{rules}
use Rattle.std.proofs.Math.ListN.{length-set}
use Rattle.olda.proofs.Adding.{summed_small, summed_more, summed_all}
use Rattle.olda.proofs.tailing.completions.Goals as goal

pub completion-requires : goal.completion-requires
completion-requires c =
    summed_small c.requires c.loop-i.invariant.0 c.loop-i-test.true

pub loop-i-preserved : goal.loop-i-preserved
loop-i-preserved c =
    (summed_more c.requires c.loop-i.invariant.0 c.loop-i-test.true (search rules) c.completion.ensures, simp length-set (search rules))

pub returns : goal.returns
returns c =
    summed_all c.loop-i.invariant.0 (search rules)
