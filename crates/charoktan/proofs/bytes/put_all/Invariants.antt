-- `bytes::put_all` meets its contract: what is written so far stands before what was there.
use Prim.Native.Nat.{◌*◌}
use mathlib.Core.List.{◌++◌}
use mathlib.Core.Path.{◌≡◌}
use lib.ListN.{take, drop}
use Rattle.charoktan.specs.Records.{encoded}
use Rattle.charoktan.proofs.bytes.put_all.Given as goal

abbrev pub invariant-loop-i : goal.invariant-loop-i
invariant-loop-i l = l.out ≡ encoded (take l.i l.values) ++ drop (4 * l.i) l.initial.out
