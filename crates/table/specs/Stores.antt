-- What the private functions hold and hand on. The answer of a table is told without these words.
--
--   pushed s row           == the set s with the sub-job of one more record
--   told p                == what was read, as the functions answer it: the set of the records, or the reason
--   numbers_at s ds fs i   == the numbers of the line of place i, ds the local deadlines and fs the finishes
--   PrintableAt s ds fs i == these stand in the lists, and the local deadline is in time
--   PrintedLine n p l     == l is the line that a refusal with this number and place names
use Rattle.std.specs.Prelude.{ℕ, ◌+◌, ◌-◌, ◌<◌, ◌≤◌, List, [], ◌∷◌, ◌++◌, ◌≡◌, Result, Ok, Err, length, get_or}
use Rattle.subjobs.specs.Sets.{Subjobs, subjobs, job, subtask, deadline, withheld}
use Rattle.subjobs.specs.declared.Reason.{Reason}
use Rattle.table.specs.Format.{Parsed, records, refused}
use Rattle.table.specs.Reading.{set_of}
use Rattle.table.specs.Writing.{line_for}

-- The numbers of a record stand in the header's order.
abbrev pub pushed : Subjobs → List ℕ → Subjobs
pushed s row =
    subjobs (s.jobs ++ (get_or row 0 0 ∷ [])) (s.subtasks ++ (get_or row 1 0 ∷ [])) (s.releases ++ (get_or row 2 0 ∷ []))
    (s.executions ++ (get_or row 3 0 ∷ [])) (s.deadlines ++ (get_or row 4 0 ∷ [])) (s.criticals ++ (get_or row 5 0 ∷ []))

abbrev pub told : Parsed → Result Subjobs Reason
told (records rows) = Ok (set_of rows)
told (refused r) = Err r

-- job, subtask, local deadline, finish, and the slack of a local deadline that is in time
abbrev pub numbers_at : Subjobs → List ℕ → List ℕ → ℕ → List ℕ
numbers_at s ds fs i = job s i ∷ subtask s i ∷ get_or ds i 0 ∷ get_or fs i 0 ∷ (deadline s i - withheld s i - get_or ds i 0) ∷ []

-- The local deadline is at most the upper bound, so that the slack has no sign.
pub record PrintableAt (s : Subjobs) (ds fs : List ℕ) (i : ℕ) : Type 0 where
  pub jobs : i < length s.jobs
  pub subtasks : i < length s.subtasks
  pub deadlines : i < length s.deadlines
  pub criticals : i < length s.criticals
  pub local : i < length ds
  pub finish : i < length fs
  pub in_time : get_or ds i 0 + withheld s i ≤ deadline s i

-- The line that a refusal names, a small number.
pub record PrintedLine (number place line : ℕ) : Type 0 where
  pub is : line ≡ line_for number place
  pub small : line ≤ 131
