-- `critical` meets its contract: lengths that do not fit, and too many sub-jobs or arcs.
use mathlib.Core.Path.{sym, ◌∙◌}
use native.Mathlib.Omega.{arith}
use Rattle.graph.specs.Faults.{Few}
use Rattle.charoktan.specs.Records.{graph_of}
use Rattle.charoktan.proofs.GraphDoor.{size_graph, arcs_graph, graph_unfit, graph_many}
use Rattle.charoktan.proofs.critical.Goals as goal

pub returns-then-not-fitting_graph-clause-finds : goal.returns-then-not-fitting_graph-clause-finds
returns-then-not-fitting_graph-clause-finds c =
    let d = graph_unfit c.args.executions.now c.args.arcs.now c.args.results.now (sym c.fitting_graph.ensures ∙ c.if-not-fitting_graph.true) in
    (sym d.0, sym d.1)

pub returns-clause-finds : goal.returns-clause-finds
returns-clause-finds c =
    let es = c.args.executions.now in
    let bs = c.args.arcs.now in
    let d =
    graph_many es bs c.args.results.now (sym c.fitting_graph.ensures ∙ c.if-not-fitting_graph.false)
    (λ (f : Few (graph_of es bs)). omega (arith, size_graph es bs, arcs_graph es bs, f.subjobs, f.arcs, c.else-n-le128.either))
    in
    (sym d.0, sym d.1)
