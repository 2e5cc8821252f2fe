-- `tailing::base_tail` meets its contract: of the completions seen so far the one found is the latest of the greatest.
use Rattle.olda.proofs.Held.{Leading}
use Rattle.olda.proofs.tailing.base_tail.Given as goal

abbrev pub invariant-loop-i : goal.invariant-loop-i
invariant-loop-i l = Leading l.ends l.start l.i
