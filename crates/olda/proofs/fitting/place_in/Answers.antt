-- `fitting::place_in` meets its contract: what the steps told is the method's outcome, and the result list is written at
-- acceptance.
use Rattle.std.proofs.Common.{rules}
use Rattle.subjobs.proofs.Leaving.{leaves}
use Rattle.olda.proofs.Fitted.{fit_placing, fit_refused, fit_passed}
use Rattle.olda.proofs.fitting.place_in.Goals as goal

pub place_all-requires : goal.place_all-requires
place_all-requires g c = fit_placing c.args.fit.now.fit g.row.N c.requires.room.0 c.in_order.ensures (search rules) (search rules) (search rules)

pub returns-in_err-place_all : goal.returns-in_err-place_all
returns-in_err-place_all g c =
    rw (leaves c.from_residual.result c.in_err-place_all.field-0.0 c.from_residual.ensures.1)
    (fit_refused c.args.fit.now.fit g.row.N c.requires.room.0 c.in_order.ensures (search rules) c.raise.ensures c.place_all.ensures c.in_err-place_all.was)

pub returns : goal.returns
returns g c =
    fit_passed c.args.fit.now.fit g.row.N c.requires.room.0 c.in_order.ensures (search rules) c.raise.ensures c.place_all.ensures c.in_ok-place_all.was
    c.copy.ensures
