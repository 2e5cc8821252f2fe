-- `bytes::Fields::read` meets its contract: the records read so far stand at the front of the six lists.
use borrow.Author.Rules.{rules}
use Prim.Native.Nat.{◌/◌, ◌<◌}
use mathlib.Core.List.{[]}
use mathlib.Core.Path.{◌≡◌, refl}
use native.Mathlib.Omega.{arith}
use lib.ListN.{length}
use Rattle.charoktan.specs.Records.{column, count, records}
use Rattle.charoktan.proofs.Coding.{column_more}
use Rattle.charoktan.proofs.bytes.Fields.read.Goals as goal

pub loop-i-init : goal.loop-i-init
unfolding column
loop-i-init g c =
    record { jobs = refl; subtasks = refl; releases = refl; executions = refl; deadlines = refl; criticals = refl }

pub loop-i-preserved : goal.loop-i-preserved
loop-i-preserved g c =
    let q = c.as_chunks.ensures.front in
    let h : c.loop-i.i < length c.args.bytes.now / 24 = omega (arith, c.as_chunks.ensures.front_len) in
    let I = c.loop-i.invariant in
    record {
      jobs = column_more _ _ _ [] _ _ _ _ _ _ q h (omega arith) (search rules) I.jobs refl c.word.ensures;
      subtasks = column_more _ _ _ [] _ _ _ _ _ _ q h (omega arith) (search rules) I.subtasks refl c.word-in-loop-i.ensures;
      releases = column_more _ _ _ [] _ _ _ _ _ _ q h (omega arith) (search rules) I.releases refl c.word-in-loop-i-2.ensures;
      executions = column_more _ _ _ [] _ _ _ _ _ _ q h (omega arith) (search rules) I.executions refl c.word-in-loop-i-3.ensures;
      deadlines = column_more _ _ _ [] _ _ _ _ _ _ q h (omega arith) (search rules) I.deadlines refl c.word-in-loop-i-4.ensures;
      criticals = column_more _ _ _ [] _ _ _ _ _ _ q h (omega arith) (search rules) I.criticals refl c.word-in-loop-i-5.ensures;
    }

pub returns : goal.returns
unfolding records
returns g c =
    let n : c.loop-i.i ≡ count c.args.bytes.now = omega (arith, c.as_chunks.ensures.front_len) in
    let I = c.loop-i.invariant in
    rw (c.as_chunks.ensures.front_len, rw n at I.jobs, rw n at I.subtasks, rw n at I.releases, rw n at I.executions, rw n at I.deadlines, rw n at I.criticals)
