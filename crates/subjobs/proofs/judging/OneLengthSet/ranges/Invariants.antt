-- `judging::ranges` meets its contract: what is left to look at decides the whole search.
use Rattle.subjobs.specs.Judging.{range_at}
use Rattle.subjobs.specs.Sets.{subjobs_of, size, release, execution, deadline, critical}
use Rattle.subjobs.proofs.Searching.{Seeking}
use Rattle.subjobs.proofs.judging.OneLengthSet.ranges.Given as goal

abbrev pub invariant-loop-place : goal.invariant-loop-place
invariant-loop-place l =
    let s = subjobs_of l.self.set in
    Seeking (λ i. range_at i (release s i) (execution s i) (deadline s i) (critical s i)) (size s) l.place
