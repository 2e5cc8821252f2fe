-- `put_record` meets its contract: at each turn what is written and what is left make the whole line.
use Rattle.text.proofs.Stored.{begun_more, begun_all}
use Rattle.text.proofs.writing.put_record.Goals as goal

pub loop-i-preserved : goal.loop-i-preserved
loop-i-preserved c = begun_more _ c.loop-i.invariant c.loop-i-test.true c.put_cell-end.ensures

pub returns : goal.returns
returns c = begun_all _ c.loop-i.invariant c.loop-i-test.false
