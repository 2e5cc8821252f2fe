-- `assign_within` meets its contract: the set assigned is the one that the bytes hold.
use Rattle.charoktan.proofs.Door.{assigned_within}
use Rattle.charoktan.proofs.assign_within.Goals as goal

pub returns-clause-assigns : goal.returns-clause-assigns
returns-clause-assigns g c = assigned_within _ _ _ _ _ _ c.requires c.read.ensures c.assign_set.ensures.assigns
