-- `rounds::round` meets its contract: after k arcs the values are what `Going` says.
use Rattle.graph.specs.Graphs.{graph_of}
use Rattle.graph.proofs.Raising.{Going}
use Rattle.graph.proofs.rounds.round.Given as goal

abbrev pub invariant-loop-k : goal.invariant-loop-k
invariant-loop-k l = Going (graph_of l.sound.graph) l.initial.found l.found l.turn l.k l.rose
