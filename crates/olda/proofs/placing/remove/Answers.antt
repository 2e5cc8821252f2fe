-- `placing::remove` meets its contract: without the gap at `i` the numbers stay as they were without `k`.
use borrow.Author.Rules.{rules}
use mathlib.Core.Path.{refl}
use lib.ListN.{length, length-set}
use Rattle.olda.proofs.Shifts.{gap_up, gap_last}
use Rattle.olda.proofs.placing.remove.Goals as goal

pub loop-i-init : goal.loop-i-init
loop-i-init c =
    (refl, search rules, refl)

pub loop-i-preserved : goal.loop-i-preserved
loop-i-preserved c =
    (simp length-set (search rules), simp length-set (search rules), gap_up c.loop-i.a _ c.loop-i.i c.loop-i.invariant.2 (search rules))

pub returns : goal.returns
returns c =
    gap_last c.loop-i.a _ c.loop-i.i c.loop-i.invariant.2 (length c.args.a.now) (search rules) (search rules) (search rules)
