-- `Work::write_finishes` meets its contract: the places looked at have their finishes.
use Prim.Native.Nat.{ℕ, ◌<◌}
use mathlib.Core.Path.{◌≡◌}
use lib.ListN.{get_or}
use Rattle.edf.specs.Parts.{load_of, finish_in}
use Rattle.edf.proofs.work.Work.write_finishes.Given as goal

abbrev pub invariant-loop-place : goal.invariant-loop-place
invariant-loop-place l = (i : ℕ) → i < l.place → get_or l.finishes i 0 ≡ finish_in (load_of l.self) l.finish i
