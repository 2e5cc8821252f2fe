-- What `check` answers, in the numbers of RULES, and what is promised of deadlines that meet (6) and (7).
--
--   CheckSays s ds v == RULES has the checker answer the values v to the proposed deadlines ds
--   CheckAnswers     == it does just that: no other number and no other place
--   ChecksExactly    == of a set that passes 1 to 4 it accepts exactly what meets (6) and (7)
--   SevenOnTheCore   == where (6) holds, (7) holds exactly if no finish is after its deadline
--   KeepsDeadlines   == the core keeps deadlines that meet (6) and (7), whatever is asked
use Rattle.std.specs.Prelude.{ℕ, ◌<◌, ◌≤◌, Bool, true, List, [], ◌∷◌, ◌↔◌, ◌≡◌, eqb, ℤ, pos, length}
use Rattle.subjobs.specs.Sets.{Subjobs, size}
use Rattle.subjobs.specs.Faults.{Fit}
use Rattle.ticks.specs.Runs.{due}
use Rattle.checker.specs.Answers.{answer, values}
use Rattle.promises.specs.Words.{accepted, refusal, Faults, at, Meets, MeetsSix, MeetsSeven, served, finish}

-- The proposed deadlines are the one further list of the call.
abbrev pub proposed_fit : Subjobs → List ℕ → Bool
proposed_fit s ds = eqb (length ds) (size s)

-- With every ask equal to execution, place i finishes by its deadline.
abbrev pub OnTime : Subjobs → List ℕ → ℕ → Type 0
OnTime s ds i = finish s ds s.executions i ≤ at ds i

pub data CheckSays (s : Subjobs) (ds : List ℕ) : List ℤ → Type 0 where
  -- 1 to 4
  faulty : {v : List ℤ} → Faults s (proposed_fit s ds) v → CheckSays s ds v
  -- 6: (6) fails; the smallest such place
  unmet :
      {p : ℕ}
      → Fit s (proposed_fit s ds)
      → p < size s
      → (Meets s ds p → ⊥)
      → ((i : ℕ) → i < p → Meets s ds i)
      → CheckSays s ds (refusal 6 p 0)
  -- 7: (6) holds, but with every ask equal to execution some finish is after its deadline; the smallest such place
  missed :
      {p : ℕ}
      → Fit s (proposed_fit s ds)
      → MeetsSix s ds
      → p < size s
      → (OnTime s ds p → ⊥)
      → ((i : ℕ) → i < p → OnTime s ds i)
      → CheckSays s ds (refusal 7 p 0)
  -- accepted: (6) and (7) hold, whoever proposed them; acceptance carries no further number
  met : Fit s (proposed_fit s ds) → MeetsSix s ds → MeetsSeven s ds → CheckSays s ds (pos 0 ∷ [])

-- The answer is what RULES says, and RULES says nothing else.
abbrev pub CheckAnswers : Type 0
CheckAnswers =
    (s : Subjobs) (ds : List ℕ)
    → CheckSays s ds (values (answer s ds)) × ((v : List ℤ) → CheckSays s ds v → v ≡ values (answer s ds))

-- The checker accepts exactly what meets (6) and (7), whoever proposed it.
abbrev pub ChecksExactly : Type 0
ChecksExactly =
    (s : Subjobs) (ds : List ℕ)
    → Fit s (proposed_fit s ds)
    → accepted (values (answer s ds)) ↔ (MeetsSix s ds × MeetsSeven s ds)

-- Where (6) holds, (7) holds exactly if with every ask equal to execution every finish is at most its deadline.
abbrev pub SevenOnTheCore : Type 0
SevenOnTheCore =
    (s : Subjobs) (ds : List ℕ)
    → Fit s true
    → MeetsSix s ds
    → MeetsSeven s ds ↔ ((i : ℕ) → i < size s → OnTime s ds i)

-- The core keeps deadlines that meet (6) and (7), whatever is asked: at its deadline each sub-job has been served the
-- smaller of its ask and its execution, and it finishes by then.
abbrev pub KeepsDeadlines : Type 0
KeepsDeadlines =
    (s : Subjobs) (ds asks : List ℕ)
    → Fit s true
    → MeetsSix s ds
    → MeetsSeven s ds
    → (i : ℕ)
    → i < size s
    → (served s ds asks (at ds i) i ≡ due s asks i) × (finish s ds asks i ≤ at ds i)
