-- `check` meets its contract: each return is the first of the three judgements that refuses, or none does.
use Rattle.std.proofs.Common.{refl, ◌∙◌}
use borrow.Author.Tests.{eqb-true}
use Rattle.subjobs.proofs.Leaving.{leaves}
use Rattle.checker.specs.Answers.{answer}
use Rattle.checker.proofs.check.Goals as goal

pub returns-in_err-fit : goal.returns-in_err-fit
unfolding answer
returns-in_err-fit c = leaves _ c.in_err-fit.field-0.0 c.from_residual.ensures.1 ∙ rw (← c.in_err-fit.ensures.judges)

pub six-requires : goal.six-requires
six-requires c = rw c.in_ok-fit.ensures.same (eqb-true _ _ (c.in_ok-fit.ensures.further refl))

pub seven-requires : goal.seven-requires
seven-requires c = rw c.in_ok-fit.ensures.same (eqb-true _ _ (c.in_ok-fit.ensures.further refl))

pub returns-in_err-six : goal.returns-in_err-six
unfolding answer
returns-in_err-six c =
    let met = rw c.in_ok-fit.ensures.same at c.six.ensures in
    leaves _ c.in_err-six.field-0.0 c.from_residual-in_err-six.ensures.1
    ∙ rw (← c.in_ok-fit.ensures.judges, ← met, c.in_err-six.was)

pub returns : goal.returns
unfolding answer
returns c =
    let met = rw c.in_ok-fit.ensures.same at c.six.ensures in
    let kept = rw c.in_ok-fit.ensures.same at c.seven.ensures in
    rw (← c.in_ok-fit.ensures.judges, ← met, c.in_ok-six.was, kept)
