-- `critical` meets its contract: a refusal of `judge`, a cycle that the rounds show, or the values that they settle.
use Rattle.std.proofs.Common.{sym, ◌∙◌}
use Rattle.std.proofs.lemmas.Result.{err_from_is_err_and}
use Rattle.graph.specs.Graphs.{graph_of}
use Rattle.graph.proofs.Growing.{at_most_zeros}
use Rattle.graph.proofs.Finding.{refused_first, refused_cycle, small, found}
use Rattle.graph.proofs.critical.Goals as goal

-- a refusal of the judge
pub returns-in_err-sound : goal.returns-in_err-sound
returns-in_err-sound c =
    let p = err_from_is_err_and c.from_residual.result c.from_residual.ensures.1 in
    rw (p.1, p.2) (refused_first (graph_of c.args.graph.now) _ _ (sym c.in_err-sound.ensures.answer))

pub settle-requires : goal.settle-requires
settle-requires c = at_most_zeros 128 0

-- a cycle
pub returns-in_err-settle : goal.returns-in_err-settle
returns-in_err-settle c =
    let p = err_from_is_err_and c.from_residual-in_err-settle.result c.from_residual-in_err-settle.ensures.1 in
    let s = rw c.in_ok-sound.ensures.same at c.in_err-settle.ensures in
    rw (p.1, p.2, s.cycle.0) (refused_cycle (graph_of c.args.graph.now) _ (sym c.in_ok-sound.ensures.answer) s.cycle.1)

pub write-requires : goal.write-requires
write-requires c =
    let s = rw c.in_ok-sound.ensures.same at c.in_ok-settle.ensures in
    small (graph_of c.args.graph.now) _ (sym c.in_ok-sound.ensures.answer) _ s.attained s.settled s.room

-- the values
pub returns : goal.returns
returns c =
    let s = rw c.in_ok-sound.ensures.same at c.in_ok-settle.ensures in
    let f = found (graph_of c.args.graph.now) _ (sym c.in_ok-sound.ensures.answer) _ s.attained s.settled s.room in
    (f.0, c.write.ensures ∙ f.1)
