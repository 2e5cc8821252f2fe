-- A set of sub-jobs is six lists of numbers, one place per sub-job. The rules speak of a sub-job
-- through functions of its place.
--
--   size s            == how many sub-jobs the set has
--   rearranged ps s   == the set with all six lists in the order of ps
--   job s i, subtask s i, release s i, execution s i, deadline s i, critical s i == the six fields at place i
--   withheld s i      == what is taken off the deadline of place i for its upper bound
--   by_bound dl z i j  == the upper bound of i, dl i less z i, is below that of j
--   by_pair job subtask i j == i has the smaller job, of equal jobs the smaller subtask
use Rattle.std.specs.Prelude.{ℕ, ◌+◌, Bool, List, ltb, length, get_or}
use Rattle.subjobs.specs.declared.Set.{Set}
use Rattle.lists.specs.Places.{taken}
use Rattle.lists.specs.Order.{by, lex}

-- A sub-job has six unsigned 32-bit numbers, held in six lent lists, one place per sub-job.
pub record Subjobs : Type 0 where
  pub jobs : List ℕ
  pub subtasks : List ℕ
  pub releases : List ℕ
  pub executions : List ℕ
  pub deadlines : List ℕ
  pub criticals : List ℕ

abbrev pub subjobs : List ℕ → List ℕ → List ℕ → List ℕ → List ℕ → List ℕ → Subjobs
subjobs js ks rs cs ds zs =
    record { jobs = js; subtasks = ks; releases = rs; executions = cs; deadlines = ds; criticals = zs }

abbrev pub subjobs_of : Set → Subjobs
subjobs_of s =
    subjobs s.jobs.now s.subtasks.now s.releases.now s.executions.now s.deadlines.now s.criticals.now

abbrev pub size : Subjobs → ℕ
size s = length s.jobs

abbrev pub rearranged : List ℕ → Subjobs → Subjobs
rearranged ps s =
    subjobs (taken ps s.jobs) (taken ps s.subtasks) (taken ps s.releases) (taken ps s.executions)
    (taken ps s.deadlines) (taken ps s.criticals)

abbrev pub job : Subjobs → ℕ → ℕ
job s i = get_or s.jobs i 0

abbrev pub subtask : Subjobs → ℕ → ℕ
subtask s i = get_or s.subtasks i 0

abbrev pub release : Subjobs → ℕ → ℕ
release s i = get_or s.releases i 0

abbrev pub execution : Subjobs → ℕ → ℕ
execution s i = get_or s.executions i 0

abbrev pub deadline : Subjobs → ℕ → ℕ
deadline s i = get_or s.deadlines i 0

abbrev pub critical : Subjobs → ℕ → ℕ
critical s i = get_or s.criticals i 0

-- The upper bound is deadline minus critical time.
abbrev pub withheld : Subjobs → ℕ → ℕ
withheld s = critical s

-- Upper bounds are compared by cross sums, which no sign disturbs: dl i - z i < dl j - z j.
abbrev pub by_bound : (ℕ → ℕ) → (ℕ → ℕ) → ℕ → ℕ → Bool
by_bound dl z i j = ltb (dl i + z j) (dl j + z i)

-- Pairs (job, subtask) go by the job first. Of a set that passes refusal 4 no two places have the same.
abbrev pub by_pair : (job subtask : ℕ → ℕ) → ℕ → ℕ → Bool
by_pair job subtask = lex (by job) (by subtask)
