-- `critical_within` meets its contract: the graph asked is the one that the bytes hold.
use Prim.Native.Nat.{◌/◌}
use mathlib.Core.Path.{◌∙◌}
use lib.ListN.{length}
use Rattle.subjobs.proofs.Leaving.{leaves}
use Rattle.graph.proofs.Judged.{refused_within}
use Rattle.charoktan.specs.Records.{graph_of}
use Rattle.charoktan.proofs.GraphDoor.{read, found_within}
use Rattle.charoktan.proofs.critical_within.Goals as goal

pub returns-in_err-critical-clause-small : goal.returns-in_err-critical-clause-small
returns-in_err-critical-clause-small g c =
    let es = c.args.executions.now in
    let bs = c.args.arcs.now in
    let e = read es bs _ _ _ _ c.words.ensures c.column.ensures c.column-2.ensures c.column-3.ensures in
    let w = found_within es bs c.args.results.now _ _ _ _ _ c.requires e c.critical.ensures _ c.in_err-critical.was in
    rw (leaves c.from_residual.result c.in_err-critical.field-0.0 c.from_residual.ensures.1) (refused_within (graph_of es bs) (length es / 4) _ w.0)

pub returns-in_err-critical-clause-finds : goal.returns-in_err-critical-clause-finds
returns-in_err-critical-clause-finds g c =
    let e = read _ _ _ _ _ _ c.words.ensures c.column.ensures c.column-2.ensures c.column-3.ensures in
    rw (leaves c.from_residual.result c.in_err-critical.field-0.0 c.from_residual.ensures.1)
    (found_within _ _ _ _ _ _ _ _ c.requires e c.critical.ensures _ c.in_err-critical.was).1

pub returns-clause-finds : goal.returns-clause-finds
returns-clause-finds g c =
    let e = read _ _ _ _ _ _ c.words.ensures c.column.ensures c.column-2.ensures c.column-3.ensures in
    let w = found_within _ _ _ _ _ _ _ _ c.requires e c.critical.ensures _ c.in_ok-critical.was in
    (w.1.0, c.put_all.ensures ∙ w.1.1)
