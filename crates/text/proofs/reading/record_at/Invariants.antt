-- `record_at` meets its contract: at each turn the fields that are left decide the whole.
use Rattle.text.proofs.Scanning.{Filled}
use Rattle.text.proofs.reading.record_at.Given as goal

abbrev pub invariant-loop-k : goal.invariant-loop-k
invariant-loop-k l = Filled l.text l.at l.initial.out l.out l.i l.k
