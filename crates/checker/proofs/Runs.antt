-- The checker's own run: a set that passes 1 to 4 is run with every ask equal to execution, from a record of totals that
-- holds nothing. Number 8 cannot come, so the finishes are there.
use mathlib.Core.Bool.{true}
use Prim.Native.Nat.{ℕ}
use mathlib.Core.List.{List}
use mathlib.Core.Path.{◌≡◌}
use lib.ListN.{length}
use Rattle.subjobs.specs.Sets.{Subjobs, size}
use Rattle.subjobs.proofs.Fit.{Fit, fit_passes}
use Rattle.ticks.specs.Runs.{run}
use Rattle.edf.specs.Answers.{finishes}
use Rattle.edf.proofs.Fresh.{fresh_finishes}

pub ran :
    (s : Subjobs) (ds : List ℕ) → Fit s true → length ds ≡ size s
    → (fs : List ℕ) → length fs ≡ size s
    → finishes s ds s.executions fs (record { busy = 0; idle = 0 }) ≡ (run s ds s.executions).finishes
ran s ds fits each fs e = fresh_finishes s ds s.executions (fit_passes s true fits) fs each fits.lengths.executions e
