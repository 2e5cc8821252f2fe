-- `Accepted::report` meets its contract: the place found is the one that the rules choose.
use borrow.Author.Rules.{sfits_of}
use mathlib.Core.Path.{◌∙◌}
use mir.Facts.{to_z-of_z}
use mir.Syntax.{w64}
use Rattle.olda.proofs.Reports.{reported_none, reported_some, tightest_inside}
use Rattle.olda.proofs.reporting.Accepted.report.Goals as goal

pub returns-in_err-place : goal.returns-in_err-place
returns-in_err-place c = rw c.from_residual.ensures (reported_none _ _ _ (rw c.in_err-place.was at c.tightest.ensures))

pub slack-slack-requires : goal.slack-slack-requires
slack-slack-requires c = tightest_inside _ _ _ (rw c.in_ok-place.was at c.tightest.ensures)

pub returns : goal.returns
returns c = reported_some _ _ _ (rw c.in_ok-place.was at c.tightest.ensures) (to_z-of_z {w = w64} (sfits_of c.slack-slack.type_inv) ∙ c.slack-slack.ensures)
