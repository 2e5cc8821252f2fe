-- `conditions::six` meets its contract: at each turn what is left to look at decides the whole search.
use mathlib.Core.Path.{sym, ◌∙◌}
use Rattle.subjobs.proofs.Searching.{seek_found, seek_on, seek_done}
use Rattle.checker.proofs.conditions.six.Goals as goal

pub returns-then-not-meets : goal.returns-then-not-meets
returns-then-not-meets c =
    rw (← c.requires)
    (seek_found c.loop-place.invariant c.loop-place-test.true _ (rw (sym c.meets.ensures ∙ c.if-not-meets.true)))

pub loop-place-preserved : goal.loop-place-preserved
loop-place-preserved c =
    seek_on c.loop-place.invariant c.loop-place-test.true (rw (sym c.meets.ensures ∙ c.if-not-meets.false))

pub returns : goal.returns
returns c = rw (← c.requires) (seek_done c.loop-place.invariant c.loop-place-test.false)
