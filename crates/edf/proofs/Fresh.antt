-- A run from totals of nothing: number 8 cannot come, so a set that passes 1 to 4 has its finishes written.
use Rattle.std.specs.Prelude.{Ok}
use Prim.Native.Nat.{ℕ, ◌+◌, ◌≤◌}
use mathlib.Core.Bool.{true, false}
use mathlib.Core.List.{List}
use mathlib.Core.Path.{◌≡◌}
use native.Mathlib.Omega.{arith}
use borrow.Author.Tests.{le-ltb, eq-eqb}
use lib.ListN.{length}
use Rattle.subjobs.specs.Sets.{Subjobs, size}
use Rattle.subjobs.specs.Judging.{judgement}
use Rattle.subjobs.proofs.Fit.{fit}
use Rattle.ticks.specs.Runs.{load, run_of, run}
use Rattle.ticks.proofs.Service.{counters}
use Rattle.ticks.proofs.Ends.{end-horizon, all_ticks}
use Rattle.ticks.proofs.Turns.{horizon_fits}
use Rattle.edf.specs.Answers.{added, above, further_lists, answer, finishes}

module _ (s : Subjobs) (ds asks : List ℕ) (passed : judgement s true ≡ Ok tt) where
  -- All ticks of the run lie before its horizon.
  few_ticks : (run s ds asks).busy + (run s ds asks).idle ≤ 1_128_000_000
  unfolding run_of
  few_ticks =
      let F = fit s true passed in
      omega (
        arith,
        all_ticks (load s ds asks),
        end-horizon (load s ds asks) (counters s ds asks F.few),
        horizon_fits s ds asks F.few (λ i b. ((F.ranges i b).release, (F.ranges i b).execution)),
      )

  not_above : above (added (run s ds asks) (record { busy = 0; idle = 0 })) ≡ false
  not_above =
      let h = few_ticks in
      rw (
        le-ltb 1_000_000_000_000_000_000 (0 + (run s ds asks).busy) (omega arith),
        le-ltb 1_000_000_000_000_000_000 (0 + (run s ds asks).idle) (omega arith),
      )

  pub fresh_finishes :
      (fs : List ℕ)
      → length ds ≡ size s
      → length asks ≡ size s
      → length fs ≡ size s
      → finishes s ds asks fs (record { busy = 0; idle = 0 }) ≡ (run s ds asks).finishes
  unfolding finishes answer
  fresh_finishes fs d a f =
      let further : further_lists s ds asks (length fs) ≡ true = rw (eq-eqb _ _ d, eq-eqb _ _ a, eq-eqb _ _ f) in
      rw (further, passed, not_above)
