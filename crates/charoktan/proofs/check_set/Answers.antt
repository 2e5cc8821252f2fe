-- `check_set` meets its contract: a set's places are small.
use mathlib.Core.Path.{sym}
use Rattle.charoktan.proofs.Door.{checked_small}
use Rattle.charoktan.proofs.check_set.Goals as goal

pub code-requires : goal.code-requires
code-requires c = checked_small _ _ _ (sym c.check.ensures)
