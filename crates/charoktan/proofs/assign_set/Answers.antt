-- `assign_set` meets its contract: a set's places are small.
use mathlib.Core.Path.{sym, ◌∙◌}
use native.Mathlib.Omega.{arith}
use Rattle.subjobs.proofs.Leaving.{leaves}
use Rattle.olda.proofs.Results.{refused_within}
use Rattle.charoktan.proofs.assign_set.Goals as goal

pub returns-in_err-assign-clause-small : goal.returns-in_err-assign-clause-small
returns-in_err-assign-clause-small c =
    rw (leaves c.from_residual.result c.in_err-assign.field-0.0 c.from_residual.ensures.1)
    (omega (arith, refused_within _ _ _ (sym c.assign.ensures.0 ∙ c.in_err-assign.was)))
