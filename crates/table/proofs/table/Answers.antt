-- `table` meets its contract: what the reader found decides.
use borrow.Author.Rules.{rules}
use mathlib.Core.Path.{sym, ◌∙◌}
use Rattle.table.specs.Reading.{read}
use Rattle.table.specs.Answers.{answer}
use Rattle.table.proofs.Filling.{told_refused, told_records}
use Rattle.table.proofs.Exactly.{read_within}
use Rattle.table.proofs.Longest.{answer_written}
use Rattle.table.proofs.table.Goals as goal

pub put_refusal-requires : goal.put_refusal-requires
put_refusal-requires c =
    let t = c.args.text.now in
    rw (told_refused (read t) _ (sym c.in-Err.is ∙ c.read.ensures)) at (read_within t)

pub returns-in-Err : goal.returns-in-Err
unfolding answer
returns-in-Err c =
    let t = c.args.text.now in
    let w = answer_written t (search rules) (rw (told_refused (read t) _ (sym c.in-Err.is ∙ c.read.ensures)) c.put_refusal.ensures) in
    record { tables = w.0; counts = w.1 }

pub returns-in-Ok : goal.returns-in-Ok
unfolding answer
returns-in-Ok c =
    let t = c.args.text.now in
    let w = told_records (read t) _ (sym c.in-Ok.is ∙ c.read.ensures) in
    let v = answer_written t (search rules) (rw (w.1, ← w.2) c.put_records.ensures) in
    record { tables = v.0; counts = v.1 }
