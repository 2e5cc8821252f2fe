-- `choosing::base_job` meets its contract: of those looked at so far the one found is the base sub-job.
use Rattle.olda.proofs.Chosen.{Topped}
use Rattle.olda.proofs.choosing.base_job.Given as goal

abbrev pub invariant-loop-i : goal.invariant-loop-i
invariant-loop-i l = Topped l.order l.bounds l.fit.set.jobs.now l.fit.set.subtasks.now l.at l.top l.i
