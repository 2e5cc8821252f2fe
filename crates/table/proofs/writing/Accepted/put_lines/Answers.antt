-- `Accepted::put_lines` meets its contract: at each turn the lines of the places passed are written.
use Rattle.lists.specs.Places.{from}
use Rattle.subjobs.specs.Sets.{subjobs_of}
use Rattle.text.proofs.Stored.{none}
use Rattle.table.specs.Answers.{joined}
use Rattle.table.proofs.Printing.{line_more, line_at_is}
use Rattle.table.proofs.writing.Accepted.put_lines.Goals as goal

pub loop-i-init : goal.loop-i-init
unfolding joined from
loop-i-init c = none _ _

pub loop-i-preserved : goal.loop-i-preserved
loop-i-preserved c =
    let a = c.args.self.now in
    line_more _ _ c.loop-i.invariant (rw c.line_at.ensures at c.put_record-end.ensures)
    (line_at_is (subjobs_of a.set) a.local.now a.finishes.now _ (a.printable _ c.loop-i-test.true).in_time)
