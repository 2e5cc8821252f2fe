-- `Links::take` meets its contract: each link leads to an earlier arc.
use Rattle.std.proofs.Common.{arith, ◌<◌, ◌≤◌, ◌-◌, length}
use Rattle.graph.specs.Graphs.{graph_of, size, arcs}
use Rattle.graph.proofs.Growing.{grown_on, grown_values, raised_grown}
use Rattle.graph.proofs.guessing.Links.take.Goals as goal

pub raise-requires : goal.raise-requires
raise-requires c =
    (omega (arith, c.loop-link.invariant.inside), grown_values _ 300 (omega arith) (omega arith) c.requires.1 c.loop-link.invariant.grown)

pub loop-link-preserved : goal.loop-link-preserved
loop-link-preserved c =
    let L = c.loop-link in
    let S = c.args.self.now in
    let h : L.link - 1 < arcs (graph_of S.sound.graph) = omega (arith, L.invariant.inside) in
    let room : size (graph_of S.sound.graph) ≤ length L.found = omega (arith, S.sound.sound.few.subjobs) in
    let falls = S.falls (L.link - 1) in
    record {
      inside = omega arith;
      grown = grown_on _ _ (omega arith) L.invariant.grown (raised_grown _ S.sound.sound h room c.raise.ensures);
    }
