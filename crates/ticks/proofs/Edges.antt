-- Runs on which a wrong core shows, computed tick by tick: asks below, at and above the execution, one that is owed
-- nothing, idle ticks, a sub-job that waits while another is served, and equal deadlines.
use Prim.Native.Nat.{ℕ}
use mathlib.Core.List.{List, [], ◌∷◌}
use mathlib.Core.Path.{◌≡◌, refl}
use Rattle.lists.specs.Places.{from, filter, weight, greatest}
use Rattle.lists.specs.Order.{ahead, choose}
use Rattle.subjobs.specs.Sets.{Subjobs, subjobs}
use Rattle.ticks.specs.Runs.{run_of, run}

-- four jobs with these releases and executions
abbrev four : (rs cs : List ℕ) → Subjobs
four rs cs = subjobs (1 ∷ 2 ∷ 3 ∷ 4 ∷ []) (1 ∷ 1 ∷ 1 ∷ 1 ∷ []) rs cs (99 ∷ 99 ∷ 99 ∷ 99 ∷ []) (0 ∷ 0 ∷ 0 ∷ 0 ∷ [])

-- The first run has asks of all kinds. In the second the second sub-job waits while those released after it, with
-- smaller deadlines, are served. In the third all deadlines are equal, jobs 5 and 2 and then subtasks decide.
pub edges :
    (run (four (0 ∷ 4 ∷ 5 ∷ 6 ∷ []) (2 ∷ 2 ∷ 2 ∷ 1 ∷ [])) (2 ∷ 9 ∷ 8 ∷ 7 ∷ []) (2 ∷ 1 ∷ 0 ∷ 5 ∷ [])
    ≡ record { finishes = 2 ∷ 5 ∷ 5 ∷ 7 ∷ []; end = 7; busy = 4; idle = 3 })
    × (run (four (0 ∷ 4 ∷ 5 ∷ 6 ∷ []) (2 ∷ 2 ∷ 2 ∷ 1 ∷ [])) (2 ∷ 9 ∷ 8 ∷ 7 ∷ []) (9 ∷ 9 ∷ 9 ∷ 9 ∷ [])
    ≡ record { finishes = 2 ∷ 9 ∷ 8 ∷ 7 ∷ []; end = 9; busy = 7; idle = 2 })
    × (run (subjobs (5 ∷ 2 ∷ 2 ∷ []) (1 ∷ 3 ∷ 2 ∷ []) (0 ∷ 0 ∷ 0 ∷ []) (1 ∷ 1 ∷ 1 ∷ []) (9 ∷ 9 ∷ 9 ∷ []) (0 ∷ 0 ∷ 0 ∷ []))
    (4 ∷ 4 ∷ 4 ∷ []) (1 ∷ 1 ∷ 1 ∷ [])
    ≡ record { finishes = 3 ∷ 2 ∷ 1 ∷ []; end = 3; busy = 3; idle = 0 })
unfolding from filter weight greatest ahead choose run_of
edges = (refl, refl, refl)
