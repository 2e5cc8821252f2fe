-- `after_line` meets its contract: the first line is the word, and where it ends.
use mathlib.Core.Path.{sym, ◌∙◌}
use Rattle.text.specs.Reading.{after_line}
use Rattle.text.proofs.Scanning.{starts_std}
use Rattle.text.proofs.reading.after_line.Goals as goal

pub returns-then-starts_with : goal.returns-then-starts_with
unfolding after_line
returns-then-starts_with c = rw (starts_std, sym c.starts_with.ensures.value ∙ c.if-starts_with.true, c.line_end.ensures)

pub returns-else-starts_with : goal.returns-else-starts_with
unfolding after_line
returns-else-starts_with c = rw (starts_std, sym c.starts_with.ensures.value ∙ c.if-starts_with.false)
