-- `Set::judge` meets its contract: what passes is fit.
use Rattle.std.proofs.Common.{ap, sym, ◌∙◌}
use Rattle.subjobs.specs.Judging.{judged}
use Rattle.subjobs.proofs.Fit.{fit, fit_alone}
use Rattle.subjobs.proofs.Leaving.{leaves}
use Rattle.subjobs.proofs.Set.judge.Goals as goal

pub returns-in_err-refusals-clause-judges : goal.returns-in_err-refusals-clause-judges
returns-in_err-refusals-clause-judges c =
    ap judged (leaves _ c.in_err-refusals.field-0.0 c.from_residual.ensures.1) ∙ sym c.in_err-refusals.was ∙ c.refusals.ensures

pub invariant_of-result : goal.invariant_of-result
invariant_of-result c = record { fit = fit_alone _ _ (fit _ _ (sym c.refusals.ensures ∙ c.in_ok-refusals.was)) }

pub returns-clause-further : goal.returns-clause-further
returns-clause-further c h = (fit _ _ (sym c.refusals.ensures ∙ c.in_ok-refusals.was)).lengths.further
