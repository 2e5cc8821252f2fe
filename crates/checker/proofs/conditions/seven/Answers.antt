-- `conditions::seven` meets its contract: the run is not refused, so what is lent comes back with the finishes in it.
use Prim.Native.Nat.{ℕ}
use mathlib.Core.List.{List}
use mathlib.Core.Path.{◌≡◌, ◌∙◌}
use lib.ListN.{length, take, replicate}
use lib.Seq.{length-take-le}
use Rattle.subjobs.specs.Sets.{subjobs_of, size}
use Rattle.checker.proofs.Runs.{ran}
use Rattle.checker.proofs.conditions.seven.Goals as goal

-- The part of the room that is lent has the length of the set.
abbrev room : List ℕ
room = replicate 128 0

pub slice_bounds-room-end : goal.slice_bounds-room-end
slice_bounds-room-end c = c.args.fit.now.fit.few

pub returns : goal.returns
returns c =
    let s = subjobs_of c.args.fit.now.set in
    let lent : length (take (size s) room) ≡ size s = length-take-le (size s) room c.args.fit.now.fit.few in
    let wrote = c.simulate.ensures.writes ∙ ran s c.args.proposed.now c.args.fit.now.fit c.requires _ lent in
    c.late.ensures ∙ rw (c.simulate.auto.finishes ∙ lent, wrote)
