-- `placing::place_all` meets its contract: the steps of what is left are the steps of all.
use Rattle.std.proofs.Common.{◌≡◌, length}
use Rattle.subjobs.specs.Sets.{subjobs_of}
use Rattle.olda.proofs.Stepping.{Stepping}
use Rattle.olda.proofs.placing.place_all.Given as goal

abbrev pub invariant-loop-left : goal.invariant-loop-left
invariant-loop-left l =
    Stepping (subjobs_of l.fit.set) l.bounds l.initial.order l.initial.local (length l.initial.order) l.order l.ends l.local l.left
    × (length l.order ≡ length l.initial.order)
    × (length l.ends ≡ length l.initial.ends)
