-- `placing::remove` meets its contract: without the gap at `i` the numbers stay as they were without `k`.
use Prim.Native.Nat.{◌<◌}
use mathlib.Core.Path.{◌≡◌}
use lib.ListN.{length}
use Rattle.olda.specs.Parts.{rest}
use Rattle.olda.proofs.placing.remove.Given as goal

abbrev pub invariant-loop-i : goal.invariant-loop-i
invariant-loop-i l = (length l.a ≡ length l.initial.a) × (l.i < length l.a) × (rest l.i l.a ≡ rest l.k l.initial.a)
