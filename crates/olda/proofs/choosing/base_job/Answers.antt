-- `choosing::base_job` meets its contract: of those looked at so far the one found is the base sub-job.
use Rattle.std.proofs.Common.{arith, inl, inr, sym, ◌∙◌}
use borrow.Author.Tests.{ne_eqb}
use Rattle.lists.proofs.Cases.{clash}
use Rattle.olda.proofs.Chosen.{topped_one, topped_new, topped_old, topped_all}
use Rattle.olda.proofs.choosing.base_job.Goals as goal
use Rattle.olda.proofs.choosing.base_job.Goals.{then-top-bound, then-top-bound-via-then-top-bound, then-top-bound-via-else-top-bound+then-behind, then-top-bound-2, else-top-bound-2, else-top-bound+else-behind}

pub loop-i-init : goal.loop-i-init
loop-i-init c =
    topped_one c.requires

pub loop-i-preserved : goal.loop-i-preserved
loop-i-preserved c =
    let T = c.loop-i.invariant in
    let h = c.loop-i-test.true in
    elim c.if-top-bound.branch [
      | then-top-bound w ↦
          rw (w.at-is, w.top-is)
          (topped_new T h
          (elim w.then-top-bound.branch [
            | then-top-bound-via-then-top-bound t ↦ inl t.if-top-bound.true
            | then-top-bound-via-else-top-bound+then-behind t ↦
                elim t.if-top-bound-2.branch [
                  | then-top-bound-2 s ↦ inr (s.if-top-bound-2.true, sym s.behind.ensures ∙ sym s.value-is ∙ t.if-behind.true)
                  | else-top-bound-2 s ↦ clash t.if-behind.true (s.value-is ∙ ne_eqb _ _ s.if-top-bound-2.false)
                ]
          ]))
      | else-top-bound+else-behind w ↦
          rw (w.at-is, w.top-is)
          (topped_old T h
          (elim w.if-top-bound-2.branch [
            | then-top-bound-2 s ↦ inr (s.if-top-bound-2.true, sym s.behind.ensures ∙ sym s.value-is ∙ w.if-behind.false)
            | else-top-bound-2 s ↦ inl (omega (arith, w.if-top-bound.false, s.if-top-bound-2.false))
          ]))
    ]

pub returns : goal.returns
returns c =
    topped_all c.loop-i.invariant c.loop-i-test.false
