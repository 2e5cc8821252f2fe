-- `guessing::peel` meets its contract: at most 128 places are taken.
use Rattle.std.proofs.Common.{arith}
use Rattle.graph.proofs.Growing.{grown_none, grown_on, grown_values}
use Rattle.graph.proofs.guessing.peel.Goals as goal

pub take-requires : goal.take-requires
take-requires c =
    let e = c.in-Some.ensures in
    (e.0, grown_values _ 299 (omega (arith, e.1)) (omega arith) c.requires c.loop-place.invariant.1)

pub loop-place-preserved : goal.loop-place-preserved
loop-place-preserved c =
    let e = c.in-Some.ensures in
    (omega (arith, e.1), grown_on _ _ (omega arith) c.loop-place.invariant.1 c.take.ensures)

pub returns : goal.returns
returns c = grown_on _ _ (omega (arith, c.loop-place.invariant.0)) c.loop-place.invariant.1 (grown_none _ 0 _)
