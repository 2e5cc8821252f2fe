-- `assign` meets its contract: lengths that do not fit, and more than 128.
use mathlib.Core.Path.{sym, ◌∙◌}
use native.Mathlib.Omega.{arith}
use Rattle.charoktan.proofs.Door.{unfit, many}
use Rattle.charoktan.proofs.assign.Goals as goal

pub returns-then-not-fitting-clause-assigns : goal.returns-then-not-fitting-clause-assigns
returns-then-not-fitting-clause-assigns c =
    let d = unfit c.args.records.now c.args.deadlines.now (sym c.fitting.ensures ∙ c.if-not-fitting.true) in (sym d.0, sym d.1)

pub returns-in_default-clause-assigns : goal.returns-in_default-clause-assigns
returns-in_default-clause-assigns c =
    let d = many c.args.records.now c.args.deadlines.now (sym c.fitting.ensures ∙ c.if-not-fitting.false) (omega arith) in
    (sym d.0, sym d.1)
