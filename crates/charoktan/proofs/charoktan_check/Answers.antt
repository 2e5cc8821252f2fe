-- `charoktan_check` meets its contract: lengths that do not fit, and more than 128.
use mathlib.Core.Path.{sym, ◌∙◌}
use native.Mathlib.Omega.{arith}
use Rattle.charoktan.proofs.Door.{unfit_check, many_check}
use Rattle.charoktan.proofs.charoktan_check.Goals as goal

pub returns-then-not-fitting : goal.returns-then-not-fitting
returns-then-not-fitting c =
    c.code.ensures ∙ sym (unfit_check c.args.records.now c.args.deadlines.now (sym c.fitting.ensures ∙ c.if-not-fitting.true))

pub returns-in_default : goal.returns-in_default
returns-in_default c =
    c.code-in_default.ensures ∙ sym (many_check c.args.records.now c.args.deadlines.now (sym c.fitting.ensures ∙ c.if-not-fitting.false) (omega arith))
