-- Sets on which a wrong rule shows, computed by the method: blocks that touch, equal bounds, a negative bound, a bound
-- that is just met and one that is just missed.
use Prim.Native.Nat.{ℕ}
use mathlib.Core.List.{List, [], ◌∷◌}
use mathlib.Core.Path.{◌≡◌, refl}
use lib.ListN.{length, replicate}
use Rattle.lists.specs.Places.{from, filter, weight}
use Rattle.lists.specs.Order.{ahead, choose}
use Rattle.subjobs.specs.Sets.{Subjobs, subjobs}
use Rattle.rules.specs.Method.{insert, arranged, best, base, placed, stuck, steps, method}

-- jobs 1, 2, .. with these releases, executions, deadlines and critical times
abbrev set : (rs cs ds zs : List ℕ) → Subjobs
set rs cs ds zs = subjobs (from 1 (length rs)) (replicate (length rs) 1) rs cs ds zs

-- Two blocks that touch are not joined; of equal bounds the greatest job is taken first, and of one job the greatest
-- subtask, wherever they stand; a bound below zero is not cut off; a bound equal to the completion is met, one below it is not.
pub edges :
    (method (set (0 ∷ 4 ∷ []) (4 ∷ 3 ∷ []) (20 ∷ 10 ∷ []) (0 ∷ 0 ∷ [])) ≡ placed (4 ∷ 7 ∷ []))
    × (method (subjobs (5 ∷ 2 ∷ []) (1 ∷ 2 ∷ []) (0 ∷ 0 ∷ []) (2 ∷ 3 ∷ []) (9 ∷ 9 ∷ []) (0 ∷ 0 ∷ [])) ≡ placed (5 ∷ 3 ∷ []))
    × (method (subjobs (5 ∷ 5 ∷ []) (2 ∷ 1 ∷ []) (0 ∷ 0 ∷ []) (2 ∷ 3 ∷ []) (9 ∷ 9 ∷ []) (0 ∷ 0 ∷ [])) ≡ placed (5 ∷ 3 ∷ []))
    × (method (set (0 ∷ []) (1 ∷ []) (3 ∷ []) (5 ∷ [])) ≡ stuck 0 1)
    × (method (set (0 ∷ []) (1 ∷ []) (1 ∷ []) (0 ∷ [])) ≡ placed (1 ∷ []))
    × (method (set (0 ∷ 1 ∷ []) (3 ∷ 1 ∷ []) (3 ∷ 2 ∷ []) (0 ∷ 0 ∷ [])) ≡ stuck 0 4)
unfolding from filter weight ahead choose insert arranged best base steps method
edges = (refl, refl, refl, refl, refl, refl)
