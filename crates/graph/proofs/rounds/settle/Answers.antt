-- `rounds::settle` meets its contract: rounds end settled, or they show a cycle.
use Rattle.std.proofs.Common.{arith, ◌+◌, refl}
use Rattle.graph.specs.Graphs.{graph_of}
use Rattle.graph.proofs.Growing.{grown_none, grown_values}
use Rattle.graph.proofs.Raising.{Turning, turning_start, turning_on}
use Rattle.graph.proofs.rounds.settle.Goals as goal
use Rattle.graph.proofs.rounds.settle.Goals.{then-turn-n, else-turn-n, Joined-turn-n}

pub loop-turn-init : goal.loop-turn-init
loop-turn-init c = turning_start _ _ (omega (arith, c.args.sound.now.sound.few.subjobs)) c.requires

pub guess-requires : goal.guess-requires
guess-requires c =
    let few = c.args.sound.now.sound.few.subjobs in
    grown_values _ 298 (omega arith) (omega arith) c.loop-turn.invariant.values c.round.ensures.grown

next : (c : Joined-turn-n) → Turning (graph_of c.args.sound.now.graph) c.if-turn-n.found (c.loop-turn.turn + 1)
next c =
    let R = rw c.if-not-round.false at c.round.ensures in
    elim c.if-turn-n.branch [
      | then-turn-n w ↦ rw w.found-is (turning_on _ c.args.sound.now.sound c.loop-turn.invariant (omega (arith, c.loop-turn-test.true)) R w.guess.ensures)
      | else-turn-n w ↦ rw w.found-is (turning_on _ c.args.sound.now.sound c.loop-turn.invariant (omega (arith, c.loop-turn-test.true)) R (grown_none _ _ _))
    ]

pub loop-turn-preserved : goal.loop-turn-preserved
loop-turn-preserved c = next (goal.at.loop-turn-preserved c).Joined-turn-n

pub returns : goal.returns
returns c =
    let T = c.loop-turn.invariant in
    record { room = T.values.room; attained = T.values.attained; settled = tt; cycle = (refl, T.cycle (omega (arith, c.loop-turn-test.false))) }
