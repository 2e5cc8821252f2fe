-- `conditions::late` meets its contract: at each turn what is left to look at decides the whole search.
use lib.ListN.{length, get_or}
use Rattle.checker.specs.Answers.{seven_at}
use Rattle.subjobs.proofs.Searching.{Seeking}
use Rattle.checker.proofs.conditions.late.Given as goal

abbrev pub invariant-loop-place : goal.invariant-loop-place
invariant-loop-place l =
    Seeking (λ k. seven_at k (get_or l.finishes k 0) (get_or l.proposed k 0)) (length l.finishes) l.place
