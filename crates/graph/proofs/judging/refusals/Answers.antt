-- `judging::refusals` meets its contract: each return is one of the two tests or what a search found.
use Rattle.std.proofs.Common.{◌∙◌}
use Rattle.subjobs.proofs.Leaving.{leaves}
use Rattle.graph.specs.Graphs.{graph_of}
use Rattle.graph.specs.Answers.{judgement}
use Rattle.graph.proofs.Judged.{one_length_lem, hops_judged}
use Rattle.graph.proofs.judging.refusals.Goals as goal

pub returns-then-not-results-n : goal.returns-then-not-results-n
unfolding judgement
returns-then-not-results-n c = rw c.if-not-results-n.true

pub returns-then-not-n-m : goal.returns-then-not-n-m
unfolding judgement
returns-then-not-n-m c = rw (c.if-not-results-n.false, c.if-not-n-m.true)

pub returns-in_err-in_range : goal.returns-in_err-in_range
unfolding judgement
returns-in_err-in_range c =
    leaves _ c.in_err-in_range.field-0.0 c.from_residual.ensures.1
    ∙ rw (c.if-not-results-n.false, c.if-not-n-m.false, ← c.in_err-in_range.ensures)

pub returns-in_err-in_range-2 : goal.returns-in_err-in_range-2
unfolding judgement
returns-in_err-in_range-2 c =
    let g = graph_of c.args.graph.now in
    let l = one_length_lem g c.args.results c.if-not-results-n.false in
    leaves _ c.in_err-in_range-2.field-0.0 c.from_residual-in_err-in_range-2.ensures.1
    ∙ rw (
      c.if-not-results-n.false,
      c.if-not-n-m.false,
      ← c.in_ok-in_range.ensures,
      ← hops_judged g l.hops c.in_err-in_range-2.ensures,
    )

pub returns : goal.returns
unfolding judgement
returns c =
    let g = graph_of c.args.graph.now in
    let l = one_length_lem g c.args.results c.if-not-results-n.false in
    rw (
      c.if-not-results-n.false,
      c.if-not-n-m.false,
      ← c.in_ok-in_range.ensures,
      ← hops_judged g l.hops c.in_ok-in_range-2.ensures,
      ← c.named.ensures,
    )
