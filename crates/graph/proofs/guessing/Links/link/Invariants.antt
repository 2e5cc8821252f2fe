-- `Links::link` meets its contract: what is counted and linked so far are arcs looked at.
use Rattle.graph.specs.Parts.{AtMost}
use Rattle.graph.proofs.guessing.Links.link.Given as goal
use Rattle.std.proofs.Common.{◌≡◌}

abbrev pub invariant-loop-arc : goal.invariant-loop-arc
invariant-loop-arc l = (l.self.sound.graph ≡ l.initial.self.sound.graph) × AtMost l.arc l.left × AtMost l.arc l.self.first
