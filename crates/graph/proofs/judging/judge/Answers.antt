-- `judging::judge` meets its contract: what passes is sound.
use Rattle.std.proofs.Common.{ap, sym, ◌∙◌}
use Rattle.subjobs.specs.Judging.{judged}
use Rattle.subjobs.proofs.Leaving.{leaves}
use Rattle.graph.specs.Graphs.{graph_of}
use Rattle.graph.proofs.Judged.{sound}
use Rattle.graph.proofs.judging.judge.Goals as goal

pub returns-in_err-refusals-clause-answer : goal.returns-in_err-refusals-clause-answer
returns-in_err-refusals-clause-answer c =
    ap judged (leaves _ c.in_err-refusals.field-0.0 c.from_residual.ensures.1) ∙ sym c.in_err-refusals.was ∙ c.refusals.ensures

pub invariant_of-result : goal.invariant_of-result
invariant_of-result c =
    let s = sound (graph_of c.args.graph.now) c.args.results (sym c.refusals.ensures ∙ c.in_ok-refusals.was) in
    record { sound = rw s.lengths.results at s }
