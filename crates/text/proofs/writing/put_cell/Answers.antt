-- `put_cell` meets its contract: a number and what stands behind it.
use Rattle.text.proofs.Stored.{then}
use Rattle.text.proofs.writing.put_cell.Goals as goal

pub returns-then-last : goal.returns-then-last
returns-then-last c = rw c.if-last.true (then c.put_figures-end.ensures c.put_text.ensures)

pub returns-else-last : goal.returns-else-last
returns-else-last c = rw c.if-last.false (then c.put_figures-end.ensures c.put_byte.ensures)
