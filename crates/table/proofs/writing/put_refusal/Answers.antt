-- `put_refusal` meets its contract: the word, and the record of the number and the line.
use Rattle.text.proofs.Stored.{then}
use Rattle.table.proofs.Printing.{refusal_is}
use Rattle.table.proofs.writing.put_refusal.Goals as goal

pub returns : goal.returns
returns c =
    rw (refusal_is _) (then c.put_text-at.ensures (rw (c.from.ensures, c.printed_line.ensures.is) at c.put_record.ensures))
