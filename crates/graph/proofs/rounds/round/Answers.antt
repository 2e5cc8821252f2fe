-- `rounds::round` meets its contract: after k arcs the values are what `Going` says.
use Rattle.std.proofs.Common.{arith, ◌≤◌, ◌≡◌, length}
use Rattle.graph.specs.Graphs.{graph_of, size, arcs}
use Rattle.graph.proofs.Growing.{grown_values}
use Rattle.graph.proofs.Raising.{going_up, going_stays, going_done}
use Rattle.graph.proofs.rounds.round.Goals as goal
use Rattle.graph.proofs.rounds.round.Goals.{then-raise, else-raise}

pub raise-requires : goal.raise-requires
raise-requires c =
    let few = c.args.sound.now.sound.few.arcs in
    (c.arc_at.ensures.1, grown_values _ 300 (omega arith) (omega arith) c.requires c.loop-k.invariant.grown)

pub loop-k-preserved : goal.loop-k-preserved
loop-k-preserved c =
    let s = c.args.sound.now.sound in
    let h = c.loop-k-test.true in
    let room : size (graph_of c.args.sound.now.graph) ≤ length c.loop-k.found = omega (arith, s.few.subjobs) in
    let R = rw c.arc_at.ensures.0 at c.raise.ensures in
    elim c.if-raise.branch [
      | then-raise w ↦ rw w.rose-is (going_up _ s c.loop-k.invariant h room (rw w.if-raise.true at R))
      | else-raise w ↦ rw w.rose-is (going_stays _ s c.loop-k.invariant h room (rw w.if-raise.false at R))
    ]

pub returns : goal.returns
returns c =
    let all : c.loop-k.k ≡ arcs (graph_of c.args.sound.now.graph) = omega (arith, c.loop-k.auto.k-end, c.loop-k-test.false) in
    going_done _ c.args.sound.now.sound.few.arcs (rw all at c.loop-k.invariant)
