-- `fill` ends: each turn leaves less room.
use Rattle.std.proofs.Common.{length, ◌-◌, ◌≤◌}
use Rattle.trial.proofs.reading.fill.Given as goal

abbrev pub invariant-loop-n : goal.invariant-loop-n
invariant-loop-n l = l.n ≤ length l.room

abbrev pub decreases-loop-n : goal.decreases-loop-n
decreases-loop-n l = length l.initial.room - l.n
