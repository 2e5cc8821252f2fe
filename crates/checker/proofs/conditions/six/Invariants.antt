-- `conditions::six` meets its contract: at each turn what is left to look at decides the whole search.
use lib.ListN.{get_or, length}
use Rattle.subjobs.specs.Sets.{subjobs_of}
use Rattle.subjobs.specs.Terms.{terms}
use Rattle.subjobs.proofs.Searching.{Seeking}
use Rattle.checker.specs.Answers.{six_of}
use Rattle.checker.proofs.conditions.six.Given as goal

abbrev pub invariant-loop-place : goal.invariant-loop-place
invariant-loop-place l =
    Seeking (six_of (terms (subjobs_of l.fit.set)) (λ i. get_or l.proposed i 0)) (length l.proposed) l.place
