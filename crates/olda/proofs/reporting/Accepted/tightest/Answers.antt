-- `Accepted::tightest` meets its contract: the place that `min_by_key` gives is the one that the rules choose. Raised
-- slacks are ordered as the rules' cross sums are.
use Prim.Native.Nat.{◌+◌}
use Rattle.std.proofs.Common.{rules}
use lib.ListN.{length}
use mathlib.Core.Path.{◌≡◌, refl}
use native.Mathlib.Omega.{arith}
use Rattle.std.proofs.lemmas.Iterator.{YieldsList-from_range}
use Rattle.lists.proofs.Cases.{same_ltb}
use Rattle.olda.specs.Parts.{at, limits}
use Rattle.olda.proofs.Picked.{least_place}
use Rattle.olda.proofs.reporting.Accepted.tightest.Goals as goal

pub returns : goal.returns
returns c =
    let w = c.args.self.now in
    let T = limits w.deadlines.now w.criticals.now in
    let d = at w.local.now in
    least_place _ _ (λ i k. k + (T.withheld i + d i) ≡ T.deadline i + 8589934592) _ (λ x k q e. search rules)
    (λ i j a b u v. same_ltb _ _ a b (λ h. omega arith) (λ h. omega arith)) (length w.local.now) _
    c.min_by_key.ensures.ran (YieldsList-from_range 0 _ _ refl (omega arith))
