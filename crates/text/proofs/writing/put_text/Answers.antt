-- `put_text` meets its contract: at each turn the bytes passed are written.
use Rattle.text.proofs.Stored.{word_more}
use Rattle.text.proofs.writing.put_text.Goals as goal

pub loop-b-preserved : goal.loop-b-preserved
loop-b-preserved c = word_more _ _ c.loop-b-test.true c.loop-b.invariant c.put_byte-end.ensures
