-- `check_within` meets its contract: what is checked is what the bytes hold.
use mathlib.Core.Path.{◌∙◌}
use Rattle.charoktan.proofs.Door.{checked_within}
use Rattle.charoktan.proofs.check_within.Goals as goal

pub returns : goal.returns
returns g c = c.check_set.ensures ∙ checked_within _ _ _ _ c.requires c.read.ensures
