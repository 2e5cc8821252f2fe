-- `Accepted::put_lines` meets its contract: at each turn the lines of the places passed are written.
use Rattle.lists.specs.Places.{places}
use Rattle.subjobs.specs.Sets.{subjobs_of}
use Rattle.text.specs.Writing.{Wrote}
use Rattle.table.specs.Answers.{line_at, joined}
use Rattle.table.proofs.writing.Accepted.put_lines.Given as goal

abbrev pub invariant-loop-i : goal.invariant-loop-i
invariant-loop-i l =
    Wrote l.initial.out l.at (joined (line_at (subjobs_of l.self.set) l.self.local.now l.self.finishes.now) (places l.i)) l.out l.end
