-- `conditions::late` meets its contract: at each turn what is left to look at decides the whole search.
use borrow.Author.Tests.{le-leb, lt-leb}
use Rattle.subjobs.proofs.Searching.{seek_found, seek_on, seek_done}
use Rattle.checker.proofs.conditions.late.Goals as goal

pub returns-then-proposed-place : goal.returns-then-proposed-place
returns-then-proposed-place c =
    seek_found c.loop-place.invariant c.loop-place-test.true _ (rw (lt-leb _ _ c.if-proposed-place.true))

pub loop-place-preserved : goal.loop-place-preserved
loop-place-preserved c =
    seek_on c.loop-place.invariant c.loop-place-test.true (rw (le-leb _ _ c.if-proposed-place.false))

pub returns : goal.returns
returns c = seek_done c.loop-place.invariant c.loop-place-test.false
