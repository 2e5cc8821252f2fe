-- `tailing::base_tail` meets its contract: of the completions seen so far the one found is the latest of the greatest.
use borrow.Author.Rules.{rules}
use Rattle.olda.proofs.Held.{leading_new, leading_old}
use Rattle.olda.proofs.tailing.base_tail.Goals as goal
use Rattle.olda.proofs.tailing.base_tail.Goals.{then-ends-start, else-ends-start}

pub loop-i-preserved : goal.loop-i-preserved
loop-i-preserved c =
    elim c.if-ends-start.branch [
      | then-ends-start w ↦ rw w.start-is (search (rules, leading_new))
      | else-ends-start w ↦ rw w.start-is (search (rules, leading_old))
    ]
