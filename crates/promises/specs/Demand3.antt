-- What the studio ordered this for. All of it is said of what `assign` answers and leaves, and of the single-tick core that
-- the simulator's contract cites.
--
--   Demand3            == demand 3
--   InTime             == what one sub-job asks never makes another late
--   CheckerAgrees      == the checker accepts every assignment's deadlines
--   FinishIsDeadline   == the table program's finish column equals its deadline column
use Rattle.std.specs.Prelude.{ℕ, ◌<◌, ◌≤◌, List, ◌≡◌, get_or}
use Rattle.subjobs.specs.Sets.{Subjobs, size, execution}
use Rattle.ticks.specs.Runs.{run, due}
use Rattle.checker.specs.Answers as checker
use Rattle.promises.specs.Words.{accepted, Assigned, served, finish}

-- Of an accepted set with its deadlines: whatever each sub-job asks, cut off at its execution time, each has got the
-- smaller of the two by its deadline, and at no moment more; if all ask for all, each ends exactly on its deadline.
abbrev pub Demand3 : Type 0
Demand3 =
    (s : Subjobs) (ds asks : List ℕ)
    → Assigned s ds
    → ((i : ℕ) → i < size s → served s ds asks (get_or ds i 0) i ≡ due s asks i)
    × ((t i : ℕ) → served s ds asks t i ≤ due s asks i)
    × (((i : ℕ) → i < size s → execution s i ≤ get_or asks i 0) → (run s ds asks).finishes ≡ ds)

-- Whatever they ask, all of an accepted set finish by their deadlines: what one sub-job asks never makes another late.
abbrev pub InTime : Type 0
InTime =
    (s : Subjobs) (ds asks : List ℕ) → Assigned s ds → (i : ℕ) → i < size s → finish s ds asks i ≤ get_or ds i 0

-- The checker accepts the deadlines of every assignment.
abbrev pub CheckerAgrees : Type 0
CheckerAgrees = (s : Subjobs) (ds : List ℕ) → Assigned s ds → accepted (checker.values (checker.answer s ds))

-- With every ask equal to execution, the finishes are the deadlines.
abbrev pub FinishIsDeadline : Type 0
FinishIsDeadline = (s : Subjobs) (ds : List ℕ) → Assigned s ds → (run s ds s.executions).finishes ≡ ds
