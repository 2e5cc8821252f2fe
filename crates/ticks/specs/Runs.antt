-- What is read off the core: finishes, the end of a run, its busy and idle ticks.
--
--   sooner d job subtask == the order of service: smallest deadline, ties to the smaller job, then the smaller subtask
--   horizon L            == a moment by which all that is owed has been served (a theorem)
--   finish L i           == the finish moment of place i
--   end L                == the end of the run
--   busy_ticks L, idle_ticks L == its ticks
--   run_of L              == all of these
--   due s asks i         == what place i of a set is owed
--   served_before s ds i j == with deadlines ds, place i is served before place j
--   load_of T o lt xs     == what the core reads of the sub-jobs xs of T, owed o and served in the order lt
--   load s ds asks       == what it reads of a set with deadlines ds and these asks
--   core_at s ds asks t   == the set's core at moment t
--   run s ds asks        == its run: finishes, end, busy and idle ticks
use Rattle.std.specs.Prelude.{ℕ, ◌+◌, min, Bool, cond, List, map, ltb, eqb, get_or}
use Rattle.lists.specs.Places.{places, filter, weight, greatest}
use Rattle.lists.specs.Order.{by, lex}
use Rattle.subjobs.specs.Sets.{Subjobs, size, job, subtask, execution, by_pair}
use Rattle.subjobs.specs.Terms.{Terms, terms}
use Rattle.ticks.specs.Core.{Load, Core, start, after, ended}

-- the one with the smallest deadline; ties go to the smaller job, then the smaller subtask
abbrev pub sooner : (d job subtask : ℕ → ℕ) → ℕ → ℕ → Bool
sooner d job subtask = lex (by d) (by_pair job subtask)

module _ (L : Load) where
  unfoldable pub horizon : ℕ
  horizon = greatest L.release L.on + weight L.owed L.on

  -- the end of the last tick served to it, or its release if it is owed nothing
  unfoldable pub finish : ℕ → ℕ
  finish i = cond (eqb (L.owed i) 0) (L.release i) (ended L horizon i)

  -- The end of the run is the greatest finish among those owed something, 0 if there are none.
  unfoldable pub end : ℕ
  end = greatest finish (filter (λ i. ltb 0 (L.owed i)) L.on)

  -- Busy ticks are those before the end in which something was served; idle ticks are the others before the end.
  unfoldable pub busy_ticks : ℕ
  busy_ticks = (after L end).busy

  unfoldable pub idle_ticks : ℕ
  idle_ticks = (after L end).idle

pub record Run : Type 0 where
  pub finishes : List ℕ
  pub end : ℕ
  pub busy : ℕ
  pub idle : ℕ

-- A finish moment per sub-job, in the order of the places. Who opens a run computes all of it.
unfoldable pub run_of : Load → Run
unfolding start after horizon finish end busy_ticks idle_ticks
run_of L = record { finishes = map (finish L) L.on; end = end L; busy = busy_ticks L; idle = idle_ticks L }

-- A sub-job is owed the smaller of its ask and its execution.
abbrev pub due : Subjobs → List ℕ → ℕ → ℕ
due s asks i = min (get_or asks i 0) (execution s i)

-- In each tick the core serves the one with the smallest of the deadlines handed in.
abbrev pub served_before : Subjobs → List ℕ → ℕ → ℕ → Bool
served_before s ds = sooner (λ i. get_or ds i 0) (job s) (subtask s)

-- What the core reads: of any sub-jobs, and of a set.
abbrev pub load_of : Terms → (ℕ → ℕ) → (ℕ → ℕ → Bool) → List ℕ → Load
load_of T o lt xs = record { release = T.release; owed = o; before = lt; on = xs }

abbrev pub load : Subjobs → (ds asks : List ℕ) → Load
load s ds asks = load_of (terms s) (due s asks) (served_before s ds) (places (size s))

-- the set's core at moment t, and its run
abbrev pub core_at : Subjobs → (ds asks : List ℕ) → ℕ → Core
core_at s ds asks t = after (load s ds asks) t

abbrev pub run : Subjobs → (ds asks : List ℕ) → Run
run s ds asks = run_of (load s ds asks)
