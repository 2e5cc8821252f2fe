-- `placing::place_all` meets its contract: the steps of what is left are the steps of all.
use Rattle.std.proofs.Common.{rules, arith, refl, ◌∙◌, to_z-of_z, w64}
use borrow.Author.Rules.{sfits_of}
use Rattle.olda.proofs.Stepping.{stepping_all, stepping_late, stepping_next, base_fits, base_choosing, job_bound, job_local, job_execution, job_leaving}
use Rattle.olda.proofs.placing.place_all.Goals as goal

pub base_job-requires : goal.base_job-requires
base_job-requires c =
    base_choosing c.loop-left.invariant.0 c.base_tail-start.ensures

pub bounds-bounds-place : goal.bounds-bounds-place
bounds-bounds-place c =
    job_bound c.loop-left.invariant.0 c.base_tail-start.ensures c.base_job.ensures

pub overflow_add-completion : goal.overflow_add-completion
overflow_add-completion c =
    base_fits c.loop-left.invariant.0 c.base_tail-start.ensures

pub bounds-bounds-place-then-bounds-place : goal.bounds-bounds-place-then-bounds-place
bounds-bounds-place-then-bounds-place c =
    job_bound c.loop-left.invariant.0 c.base_tail-start.ensures c.base_job.ensures

pub returns-then-bounds-place : goal.returns-then-bounds-place
returns-then-bounds-place c =
    stepping_late c.loop-left.invariant.0 c.base_tail-start.ensures c.base_job.ensures c.loop-left-test.true c.if-bounds-place.true
    (to_z-of_z {w = w64} (sfits_of c.signed.type_inv) ∙ c.signed.ensures)

pub bounds-local-place : goal.bounds-local-place
bounds-local-place c =
    job_local c.loop-left.invariant.0 c.base_tail-start.ensures c.base_job.ensures

pub bounds-set-place : goal.bounds-set-place
bounds-set-place c =
    job_execution c.loop-left.invariant.0 c.base_tail-start.ensures c.base_job.ensures

pub take_out-requires : goal.take_out-requires
take_out-requires c =
    job_leaving c.loop-left.invariant.0 c.base_tail-start.ensures c.base_job.ensures _ refl

pub loop-left-preserved : goal.loop-left-preserved
loop-left-preserved c = (
  stepping_next c.loop-left.invariant.0 c.base_tail-start.ensures c.base_job.ensures c.loop-left-test.true c.if-bounds-place.false
      c.take_out.ensures,
  search rules,
  search rules,
)

pub returns : goal.returns
returns c =
    stepping_all c.loop-left.invariant.0 (omega arith)
