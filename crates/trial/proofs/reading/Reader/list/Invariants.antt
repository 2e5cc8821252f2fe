-- `list` takes no more numbers than it has turns.
use Rattle.std.proofs.Common.{◌≤◌, vec_len}
use Rattle.trial.proofs.reading.Reader.list.Given as goal

abbrev pub invariant-loop : goal.invariant-loop
invariant-loop l = vec_len l.list ≤ l.counter
