-- `bytes::put_all` meets its contract: what is written so far stands before what was there.
use borrow.Author.Rules.{rules}
use mathlib.Core.Path.{refl, ◌∙◌}
use Rattle.charoktan.specs.Records.{encoded}
use Rattle.charoktan.proofs.Coding.{encoded_more}
use Rattle.charoktan.proofs.bytes.put_all.Goals as goal

pub loop-i-init : goal.loop-i-init
unfolding encoded
loop-i-init c = refl

pub loop-i-preserved : goal.loop-i-preserved
loop-i-preserved c =
    c.put.ensures ∙ encoded_more c.args.values.now c.args.out.now c.loop-i.out c.loop-i.i (search rules) c.loop-i.invariant
