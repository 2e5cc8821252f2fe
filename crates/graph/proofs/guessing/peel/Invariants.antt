-- `guessing::peel` meets its contract: at most 128 places are taken.
use Rattle.std.proofs.Common.{◌≤◌, ◌-◌, ◌*◌}
use Rattle.graph.specs.Graphs.{graph_of}
use Rattle.graph.specs.Parts.{turned, Grown}
use Rattle.graph.proofs.guessing.peel.Given as goal

abbrev pub invariant-loop-place : goal.invariant-loop-place
invariant-loop-place l = (l.turn ≤ 128) × Grown (graph_of l.links.sound.graph) (l.turn * turned) l.initial.found l.found

abbrev pub decreases-loop-place : goal.decreases-loop-place
decreases-loop-place l = 128 - l.turn
