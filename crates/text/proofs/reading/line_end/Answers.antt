-- `line_end` meets its contract: the end of the text, CR LF, or neither.
use borrow.Author.Tests.{le-leb, lt-leb}
use Rattle.text.specs.Reading.{line_end}
use Rattle.text.proofs.Scanning.{crlf_std}
use Rattle.text.proofs.reading.line_end.Goals as goal

pub returns-then-text-at : goal.returns-then-text-at
unfolding line_end
returns-then-text-at c = rw (le-leb _ _ c.if-text-at.true)

pub returns-then-starts_with : goal.returns-then-starts_with
unfolding line_end
returns-then-starts_with c =
    rw (lt-leb _ _ c.if-text-at.false, ← crlf_std c.args.text.now c.args.at, ← c.starts_with.ensures.value, c.if-starts_with.true)

pub returns-else-starts_with : goal.returns-else-starts_with
unfolding line_end
returns-else-starts_with c = rw (lt-leb _ _ c.if-text-at.false, ← crlf_std c.args.text.now c.args.at, ← c.starts_with.ensures.value, c.if-starts_with.false)
