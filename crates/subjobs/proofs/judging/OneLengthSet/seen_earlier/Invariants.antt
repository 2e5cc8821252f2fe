-- `judging::seen_earlier` meets its contract: what is left to look at decides the whole search.
use Rattle.std.proofs.Common.{◌≡◌, ℕ, Bool}
use Rattle.std.specs.Prelude.{◌&&◌, eqb}
use Rattle.lists.specs.Search.{some}
use Rattle.subjobs.specs.Sets.{Subjobs, subjobs_of, job, subtask}
use Rattle.subjobs.proofs.judging.OneLengthSet.seen_earlier.Given as goal

-- The pair at a place is the one looked for.
abbrev Same : Subjobs → ℕ → ℕ → Bool
Same s place i = eqb (job s i) (job s place) && eqb (subtask s i) (subtask s place)

abbrev pub invariant-loop-j : goal.invariant-loop-j
invariant-loop-j l = some (Same (subjobs_of l.self.set) l.place) l.j ≡ some (Same (subjobs_of l.self.set) l.place) l.place
