-- `bytes::column` meets its contract: what is read so far stands at the front.
use borrow.Author.Rules.{rules}
use Prim.Native.Nat.{◌/◌}
use mathlib.Core.Path.{◌≡◌, refl}
use native.Mathlib.Omega.{arith}
use lib.ListN.{length}
use Rattle.charoktan.specs.Records.{column}
use Rattle.charoktan.proofs.Coding.{column_more}
use Rattle.charoktan.proofs.bytes.column.Goals as goal

pub loop-i-init : goal.loop-i-init
unfolding column
loop-i-init g c = refl

pub loop-i-preserved : goal.loop-i-preserved
loop-i-preserved g c =
    column_more _ _ _ _ _ _ _ _ _ _ c.as_chunks.ensures.front (search rules) c.requires.inside (search rules) c.loop-i.invariant c.index-records-i.is c.word.ensures

pub returns : goal.returns
returns g c =
    let n : c.loop-i.i ≡ length c.args.bytes.now / g.row.WIDTH = omega (arith, c.as_chunks.ensures.front_len) in
    rw (c.as_chunks.ensures.front_len, rw n at c.loop-i.invariant)
