-- `put_set` meets its contract: what the assignment says decides.
use Rattle.std.proofs.Common.{sym}
use Rattle.subjobs.specs.Sets.{subjobs_of}
use Rattle.text.proofs.Stored.{then}
use Rattle.table.proofs.Outcomes.{refused_place, refused_text, accepted_printable, accepted_text}
use Rattle.table.proofs.tabling.put_set.Goals as goal

pub put_refusal-requires : goal.put_refusal-requires
put_refusal-requires c =
    refused_place (subjobs_of c.args.set.now) _ c.requires.deadlines (sym c.in-Err.ensures.0) c.requires.few

pub returns-in-Err : goal.returns-in-Err
returns-in-Err c =
    rw (refused_text (subjobs_of c.args.set.now) _ c.requires.deadlines (sym c.in-Err.ensures.0)) c.put_refusal.ensures

pub invariant_of-accepted : goal.invariant_of-accepted
invariant_of-accepted c =
    record {
      printable =
          rw (c.simulate.ensures.writes, c.assign.ensures.1)
          (accepted_printable (subjobs_of c.args.set.now) _ c.requires.deadlines _ c.requires.finishes (sym c.in-Ok.ensures.0));
    }

pub returns-in-Ok : goal.returns-in-Ok
returns-in-Ok c =
    rw (
      accepted_text (subjobs_of c.args.set.now) _ c.requires.deadlines _ c.requires.finishes (sym c.in-Ok.ensures.0),
      ← c.assign.ensures.1,
      ← c.simulate.ensures.writes,
    )
    (then c.put_text-at.ensures c.put_lines.ensures)
