-- `bytes::Fields::read` meets its contract: the records read so far stand at the front of the six lists.
use mathlib.Core.Path.{◌≡◌}
use lib.ListN.{take}
use Rattle.charoktan.specs.Records.{column}
use Rattle.charoktan.proofs.bytes.Fields.read.Given as goal

abbrev pub invariant-loop-i : goal.invariant-loop-i
invariant-loop-i g l =
    record {
      jobs : take l.i l.self.jobs ≡ column l.bytes 24 0 l.i;
      subtasks : take l.i l.self.subtasks ≡ column l.bytes 24 4 l.i;
      releases : take l.i l.self.releases ≡ column l.bytes 24 8 l.i;
      executions : take l.i l.self.executions ≡ column l.bytes 24 12 l.i;
      deadlines : take l.i l.self.deadlines ≡ column l.bytes 24 16 l.i;
      criticals : take l.i l.self.criticals ≡ column l.bytes 24 20 l.i;
    }
