-- `assign` meets its contract: a set that is judged to pass fits, and then the answer is the ruling of its steps, with the
-- report where it passes.
use Rattle.std.proofs.Common.{sym, refl}
use borrow.Author.Tests.{eqb-true}
use Rattle.subjobs.specs.Sets.{subjobs_of}
use Rattle.subjobs.proofs.Leaving.{leaves}
use Rattle.olda.proofs.Reports.{judged_refused, placed_refused, placed_passed}
use Rattle.olda.proofs.assign.Goals as goal

pub returns-in_err-fit : goal.returns-in_err-fit
returns-in_err-fit c =
    rw (leaves c.from_residual.result c.in_err-fit.field-0.0 c.from_residual.ensures.1)
    (judged_refused _ c.args.out.now (sym c.in_err-fit.ensures.judges))

pub returns-in_err-place : goal.returns-in_err-place
returns-in_err-place c =
    let same = c.in_ok-fit.ensures.same in
    rw (leaves c.from_residual-in_err-place.result c.in_err-place.field-0.0 c.from_residual-in_err-place.ensures.1)
    (placed_refused (subjobs_of c.args.set.now) c.args.out.now (rw same at c.in_ok-fit.fit.fit) (eqb-true _ _ (c.in_ok-fit.ensures.further refl)) (rw same at c.place.ensures) c.in_err-place.was)

pub returns : goal.returns
returns c =
    let same = c.in_ok-fit.ensures.same in
    placed_passed (subjobs_of c.args.set.now) c.args.out.now (rw same at c.in_ok-fit.fit.fit) (eqb-true _ _ (c.in_ok-fit.ensures.further refl)) (rw same at c.place.ensures) c.in_ok-place.was c.report.ensures
