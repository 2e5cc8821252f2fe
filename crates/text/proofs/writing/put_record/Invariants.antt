-- `put_record` meets its contract: at each turn what is written and what is left make the whole line.
use Rattle.text.proofs.Stored.{Begun}
use Rattle.text.proofs.writing.put_record.Given as goal

abbrev pub invariant-loop-i : goal.invariant-loop-i
invariant-loop-i l = Begun l.values l.initial.out l.at l.out l.end l.i
