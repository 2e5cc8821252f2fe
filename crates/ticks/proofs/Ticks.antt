-- What is promised of the run of a set, whatever its deadlines and asks: a finish for each sub-job, busy is the sum of what
-- is owed, busy plus idle is the end.
use Prim.Native.Nat.{ℕ, ◌+◌, ◌≤◌, ◌<◌}
use mathlib.Core.List.{List}
use mathlib.Core.Path.{◌≡◌, ap, ◌∙◌}
use native.Mathlib.Omega.{arith}
use lib.ListN.{length, get_or, length-map}
use Rattle.lists.specs.Places.{places, weight}
use Rattle.lists.proofs.Members.{in_places, from-length}
use Rattle.lists.proofs.Mapped.{at_map, places_at}
use Rattle.subjobs.specs.Sets.{Subjobs, size, release}
use Rattle.ticks.specs.Runs.{finish, due, load, run_of, run}
use Rattle.ticks.proofs.Service.{counters}
use Rattle.ticks.proofs.Ends.{finish_nothing, busy_owed, all_ticks}
use Rattle.ticks.proofs.Finishes.{LastTick, finish_last}

module _ (s : Subjobs) (ds asks : List ℕ) where
  -- A run writes as many finishes as there are sub-jobs.
  pub run_length : length (run s ds asks).finishes ≡ size s
  unfolding run_of
  run_length = length-map (places (size s)) (finish (load s ds asks)) ∙ from-length 0 (size s)

  pub finish_at : (i : ℕ) → i < size s → get_or (run s ds asks).finishes i 0 ≡ finish (load s ds asks) i
  unfolding run_of
  finish_at i h =
      at_map (finish (load s ds asks)) (places (size s)) i (omega (arith, from-length 0 (size s)))
      ∙ ap (finish (load s ds asks)) (places_at (size s) i h)

  -- The finish of one that is owed nothing is its release.
  pub run_nothing : (i : ℕ) → i < size s → due s asks i ≡ 0 → get_or (run s ds asks).finishes i 0 ≡ release s i
  run_nothing i h z = finish_at i h ∙ finish_nothing (load s ds asks) i z

  -- Busy plus idle is the end.
  pub run_ticks : (run s ds asks).busy + (run s ds asks).idle ≡ (run s ds asks).end
  unfolding run_of
  run_ticks = all_ticks (load s ds asks)

  module _ (few : size s ≤ 128) where
    -- Busy is the sum of what is owed.
    pub run-busy : (run s ds asks).busy ≡ weight (due s asks) (places (size s))
    unfolding run_of
    run-busy = busy_owed (load s ds asks) (counters s ds asks few)

    -- A finish is the end of the last tick served.
    pub run_finish : (i : ℕ) → i < size s → 0 < due s asks i → LastTick (load s ds asks) i (get_or (run s ds asks).finishes i 0)
    run_finish i h l =
        rw (finish_at i h) (finish_last (load s ds asks) (counters s ds asks few) i (in_places (size s) i h) l)
