-- The published conditions on a list of local deadlines d, over a list of places. They speak of all its subsets and of no
-- method.
--
--   completion r c xs == smallest release plus the sum of executions of xs
--   SixAt T d i       == condition (6) for the sub-job at place i
--   Six T d xs        == condition (6) for the sub-jobs xs
--   Seven T d xs      == condition (7) for them
use Rattle.std.specs.Prelude.{ℕ, ◌+◌, ◌≤◌, Bool, ◌≢◌}
use mathlib.Core.List.{List, [], Memᴰ}
use Rattle.lists.specs.Places.{filter, weight, least, greatest}
use Rattle.subjobs.specs.Terms.{Terms}

-- The completion of a non-empty subset is its smallest release plus the sum of its executions.
abbrev pub completion : (r c : ℕ → ℕ) → List ℕ → ℕ
completion r c xs = least r xs + weight c xs

-- (6) release + execution ≤ d ≤ upper bound for each sub-job; d ≤ upper bound is said as d + withheld ≤ deadline
abbrev pub SixAt : Terms → (ℕ → ℕ) → ℕ → Type 0
SixAt T d i = (T.release i + T.execution i ≤ d i) × (d i + T.withheld i ≤ T.deadline i)

abbrev pub Six : Terms → (ℕ → ℕ) → List ℕ → Type 0
Six T d xs = (i : ℕ) → Memᴰ i xs → SixAt T d i

-- (7) for every non-empty subset, greatest d minus smallest release is at least the sum of executions
abbrev pub Seven : Terms → (ℕ → ℕ) → List ℕ → Type 0
Seven T d xs =
    (U : ℕ → Bool)
    → filter U xs ≢ []
    → completion T.release T.execution (filter U xs) ≤ greatest d (filter U xs)
