-- `Links::take` meets its contract: each link leads to an earlier arc.
use Rattle.std.proofs.Common.{◌≤◌, ◌-◌, ◌*◌}
use Rattle.graph.specs.Graphs.{graph_of, arcs}
use Rattle.graph.specs.Parts.{Grown}
use Rattle.graph.proofs.guessing.Links.take.Given as goal

abbrev pub invariant-loop-link : goal.invariant-loop-link
invariant-loop-link l =
    let g = graph_of l.self.sound.graph in
    record { inside : l.link ≤ arcs g; grown : Grown g ((1_024 - l.link) * 1_100_000) l.initial.found l.found }

abbrev pub decreases-loop-link : goal.decreases-loop-link
decreases-loop-link l = l.link
