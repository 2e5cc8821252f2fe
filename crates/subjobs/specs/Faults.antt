-- Numbers 1 to 4 place by place and with no search: what a set is that passes, and what one is that is refused. A law
-- (`judged_exactly`, `passed_exactly`) says that the judgement is just this. `others` says of the call's further lists that
-- they are as long as the six.
--
--   OneLength s others == all lists are of one length
--   InRange r c dl z   == the fields of one sub-job are in their ranges
--   AllInRange s n     == so are those of the first n sub-jobs
--   Ranged s f i       == the field f of place i is in its range
--   RangedBefore s f i == so are the fields of place i that are looked at before f
--   SamePair s i j     == places i and j have the same pair (job, subtask)
--   NoneTwice s n      == no pair stands twice among the first n sub-jobs
--   Fit s others       == the set passes
--   Faulty s others r  == the set is refused for r
use Rattle.std.specs.Prelude.{ℕ, ◌<◌, ◌≤◌, Bool, true, ◌≡◌, length}
use Rattle.subjobs.specs.declared.Field.{Field}
use Rattle.subjobs.specs.declared.Field.TheVariants.{Release, Execution, Deadline, Critical, Hop}
use Rattle.subjobs.specs.declared.Reason.{Reason}
use Rattle.subjobs.specs.declared.Reason.TheVariants.{Lengths, TooMany, Range, Pair}
use Rattle.subjobs.specs.Sets.{Subjobs, size, job, subtask, release, execution, deadline, critical}

pub record OneLength (s : Subjobs) (others : Bool) : Type 0 where
  pub subtasks : length s.subtasks ≡ size s
  pub releases : length s.releases ≡ size s
  pub executions : length s.executions ≡ size s
  pub deadlines : length s.deadlines ≡ size s
  pub criticals : length s.criticals ≡ size s
  pub further : others ≡ true

pub record InRange (r c dl z : ℕ) : Type 0 where
  pub release : r ≤ 1_000_000_000
  pub some : 1 ≤ c
  pub execution : c ≤ 1_000_000
  pub deadline : dl ≤ 2_000_000_000
  pub critical : z ≤ 1_000_000_000

abbrev pub AllInRange : Subjobs → ℕ → Type 0
AllInRange s n = (i : ℕ) → i < n → InRange (release s i) (execution s i) (deadline s i) (critical s i)

-- no sub-job has a hop delay, so none is out of range
abbrev pub Ranged : Subjobs → Field → ℕ → Type 0
Ranged s Release i = release s i ≤ 1_000_000_000
Ranged s Execution i = (1 ≤ execution s i) × (execution s i ≤ 1_000_000)
Ranged s Deadline i = deadline s i ≤ 2_000_000_000
Ranged s Critical i = critical s i ≤ 1_000_000_000
Ranged s Hop i = Unit {0}

-- in the order release, execution, deadline, critical time
abbrev pub RangedBefore : Subjobs → Field → ℕ → Type 0
RangedBefore s Release i = Unit {0}
RangedBefore s Execution i = Ranged s Release i
RangedBefore s Deadline i = Ranged s Release i × Ranged s Execution i
RangedBefore s Critical i = Ranged s Release i × Ranged s Execution i × Ranged s Deadline i
RangedBefore s Hop i = Unit {0}

abbrev pub SamePair : Subjobs → ℕ → ℕ → Type 0
SamePair s i j = (job s i ≡ job s j) × (subtask s i ≡ subtask s j)

abbrev pub NoneTwice : Subjobs → ℕ → Type 0
NoneTwice s n = (i j : ℕ) → i < j → j < n → job s i ≡ job s j → subtask s i ≡ subtask s j → ⊥

-- All lists are of one length, there are at most 128 sub-jobs, every field of every sub-job is in its range, and no pair
-- (job, subtask) stands twice.
pub record Fit (s : Subjobs) (others : Bool) : Type 0 where
  pub lengths : OneLength s others
  pub few : size s ≤ 128
  pub ranges : AllInRange s (size s)
  pub pairs : NoneTwice s (size s)

pub data Faulty (s : Subjobs) (others : Bool) : Reason → Type 0 where
  -- 1: the lists, results included, are not all of one length
  lengths : (OneLength s others → ⊥) → Faulty s others Lengths
  -- 2, after 1: more than 128 sub-jobs
  many : OneLength s others → 128 < size s → Faulty s others TooMany
  -- 3, after these: a field out of range; the smallest such place, and the first such field
  range :
      (p : ℕ) (f : Field)
      → OneLength s others
      → size s ≤ 128
      → p < size s
      → AllInRange s p
      → RangedBefore s f p
      → (Ranged s f p → ⊥)
      → Faulty s others (Range p f)
  -- 4, after all of these: a pair (job, subtask) seen earlier in the list; the smallest later place
  pair :
      (p j : ℕ)
      → OneLength s others
      → size s ≤ 128
      → AllInRange s (size s)
      → p < size s
      → NoneTwice s p
      → j < p
      → SamePair s j p
      → Faulty s others (Pair p)
