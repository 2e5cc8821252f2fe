-- `rounds::settle` meets its contract: rounds end settled, or they show a cycle.
use Rattle.graph.specs.Graphs.{graph_of}
use Rattle.graph.proofs.Raising.{Turning}
use Rattle.graph.proofs.rounds.settle.Given as goal

abbrev pub invariant-loop-turn : goal.invariant-loop-turn
invariant-loop-turn l = Turning (graph_of l.sound.graph) l.found l.turn
