-- `put_text` meets its contract: at each turn the bytes passed are written.
use lib.ListN.{take}
use Rattle.text.specs.Writing.{Wrote}
use Rattle.text.proofs.writing.put_text.Given as goal

abbrev pub invariant-loop-b : goal.invariant-loop-b
invariant-loop-b l = Wrote l.initial.out l.at (take l.b-index l.word) l.out l.end
