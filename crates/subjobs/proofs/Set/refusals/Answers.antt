-- `Set::refusals` meets its contract: each return is one of the two tests or what the two searches found.
use borrow.Author.Tests.{le-leb, lt-leb}
use Rattle.std.proofs.Common.{sym, ◌∙◌}
use Rattle.subjobs.specs.Judging.{judgement}
use Rattle.subjobs.proofs.Leaving.{leaves}
use Rattle.subjobs.proofs.Set.refusals.Goals as goal

pub returns-then-not-one_length : goal.returns-then-not-one_length
unfolding judgement
returns-then-not-one_length c = rw (sym c.one_length.ensures ∙ c.if-not-one_length.true)

pub returns-then-self-gt128 : goal.returns-then-self-gt128
unfolding judgement
returns-then-self-gt128 c = rw (sym c.one_length.ensures ∙ c.if-not-one_length.false, lt-leb _ _ c.if-self-gt128.true)

pub returns-in_err-ranges : goal.returns-in_err-ranges
unfolding judgement
returns-in_err-ranges c =
    let e = sym c.one_length.ensures ∙ c.if-not-one_length.false in
    leaves _ c.in_err-ranges.field-0.0 c.from_residual.ensures.1
    ∙ rw (e, le-leb _ _ c.if-self-gt128.false, ← c.ranges-2.ensures, c.in_err-ranges.was)

pub returns : goal.returns
unfolding judgement
returns c =
    let e = sym c.one_length.ensures ∙ c.if-not-one_length.false in
    rw (e, le-leb _ _ c.if-self-gt128.false, ← c.pairs.ensures, ← c.ranges-2.ensures, c.in_ok-ranges.was)
