-- What `simulate` and `run` answer and leave, in the numbers of RULES, and what is promised of a run: its numbers are the
-- single-tick core's own, so none can be invented.
--
--   most              == the most that a total may hold
--   SimulateSays s ds asks fs t v l u == RULES has the simulator answer the values v, leave the finishes l in place of fs
--                                  and the totals u in place of t
--   SimulateAnswers, RunAnswers == both entries do just that: no other number, no other values, list or totals
--   turn s ds asks t  == who is served in tick t
--   FinishIsLastTick  == a finish is the end of the last tick served
--   ServedByFinish    == what is owed has been served at the finish, and not before
--   OwedNothing       == one that is owed nothing finishes at its release
--   BusyIsOwed        == busy is the sum of what is owed
--   TicksAreTheEnd    == busy plus idle is the end
--   RunsAddUp         == two runs' totals add up
--   NeverMore         == nobody is served more than it is owed
use Rattle.std.specs.Prelude.{ℕ, suc, ◌+◌, ◌<◌, ◌≤◌, true, List, [], ◌∷◌, ◌⊎◌, ◌≢◌, ◌≡◌, ℤ, pos, length}
use Rattle.std.proofs.Math.Option.{Option, some}
use Rattle.lists.specs.Places.{places, weight}
use Rattle.subjobs.specs.Sets.{Subjobs, size, release}
use Rattle.subjobs.specs.Faults.{Fit}
use Rattle.ticks.specs.Core.{pick}
use Rattle.ticks.specs.Runs.{due, load, core_at, run}
use Rattle.edf.specs.Answers.{Answer}
use Rattle.edf.specs.declared.Totals.{Totals}
use Rattle.edf.specs.Answers.{further_lists, answer, finishes, totals, values, simulated, Runs}
use Rattle.promises.specs.Words.{accepted, refusal, Faults, served, finish}

abbrev pub most : ℕ
most = 1_000_000_000_000_000_000

pub data SimulateSays (s : Subjobs) (ds asks fs : List ℕ) (t : Totals) : List ℤ → List ℕ → Totals → Type 0 where
  -- 1 to 4; list and totals hold what they held
  faulty :
      {v : List ℤ} → Faults s (further_lists s ds asks (length fs)) v → SimulateSays s ds asks fs t v fs t
  -- 8: after the run, busy or idle total would stand above 1,000,000,000,000,000,000; list and totals hold what they held
  above :
      Fit s (further_lists s ds asks (length fs))
      → (most < t.busy + (run s ds asks).busy) ⊎ (most < t.idle + (run s ds asks).idle)
      → SimulateSays s ds asks fs t (refusal 8 0 0) fs t
  -- accepted: the end of the run; its finishes are written, and its busy and idle ticks are added to the totals
  ran :
      Fit s (further_lists s ds asks (length fs))
      → t.busy + (run s ds asks).busy ≤ most
      → t.idle + (run s ds asks).idle ≤ most
      → SimulateSays s ds asks fs t (pos 0 ∷ pos (run s ds asks).end ∷ []) (run s ds asks).finishes
      (record { busy = t.busy + (run s ds asks).busy; idle = t.idle + (run s ds asks).idle })

-- What `simulate` gives is what RULES says, and RULES says nothing else.
abbrev pub SimulateAnswers : Type 0
SimulateAnswers =
    (s : Subjobs) (ds asks fs : List ℕ) (t : Totals)
    → let r = simulated s ds asks (length fs) t in
    SimulateSays s ds asks fs t (values r.answer) (finishes s ds asks fs t) r.totals
    × ((v : List ℤ) (l : List ℕ) (u : Totals)
    → SimulateSays s ds asks fs t v l u
    → (v ≡ values r.answer) × (l ≡ finishes s ds asks fs t) × (u ≡ r.totals))

-- And so does `run`, of the record of totals that it is lent: what its contract allows is what RULES says.
abbrev pub RunAnswers : Type 0
RunAnswers =
    (s : Subjobs) (ds asks fs fs' : List ℕ) (t t' : Totals) (r : Answer)
    → Runs s ds asks fs t r t' fs'
    → SimulateSays s ds asks fs t (values r) fs' t'
    × ((v : List ℤ) (l : List ℕ) (u : Totals)
    → SimulateSays s ds asks fs t v l u
    → (v ≡ values r) × (l ≡ fs') × (u ≡ t'))

abbrev pub turn : Subjobs → List ℕ → List ℕ → ℕ → Option ℕ
turn s ds asks t = pick (load s ds asks) t (core_at s ds asks t).served

-- The finish of one that is owed something is the end of the last tick served to it: that tick is served to it, and no
-- later one is.
abbrev pub FinishIsLastTick : Type 0
FinishIsLastTick =
    (s : Subjobs) (ds asks : List ℕ)
    → Fit s true
    → (i : ℕ)
    → i < size s
    → 0 < due s asks i
    → (k : ℕ)
    × (suc k ≡ finish s ds asks i)
    × (turn s ds asks k ≡ some i)
    × ((t : ℕ) → finish s ds asks i ≤ t → turn s ds asks t ≢ some i)

-- At its finish a sub-job has been served exactly what it is owed; and one that is owed something, at no earlier moment.
abbrev pub ServedByFinish : Type 0
ServedByFinish =
    (s : Subjobs) (ds asks : List ℕ)
    → Fit s true
    → (i : ℕ)
    → i < size s
    → (served s ds asks (finish s ds asks i) i ≡ due s asks i)
    × (0 < due s asks i → (t : ℕ) → t < finish s ds asks i → served s ds asks t i < due s asks i)

-- The finish of one that is owed nothing is its release.
abbrev pub OwedNothing : Type 0
OwedNothing =
    (s : Subjobs) (ds asks : List ℕ) (i : ℕ) → i < size s → due s asks i ≡ 0 → finish s ds asks i ≡ release s i

-- At no moment has a sub-job been served more than it is owed, whatever the deadlines.
abbrev pub NeverMore : Type 0
NeverMore = (s : Subjobs) (ds asks : List ℕ) → Fit s true → (t i : ℕ) → served s ds asks t i ≤ due s asks i

-- Busy is the sum of what is owed.
abbrev pub BusyIsOwed : Type 0
BusyIsOwed = (s : Subjobs) (ds asks : List ℕ) → Fit s true → (run s ds asks).busy ≡ weight (due s asks) (places (size s))

-- Busy plus idle is the end of the run.
abbrev pub TicksAreTheEnd : Type 0
TicksAreTheEnd =
    (s : Subjobs) (ds asks : List ℕ) → Fit s true → (run s ds asks).busy + (run s ds asks).idle ≡ (run s ds asks).end

-- The totals of two accepted runs, one after the other, hold the ticks of both.
abbrev pub RunsAddUp : Type 0
RunsAddUp =
    (s s' : Subjobs) (ds asks ds' asks' : List ℕ) (n n' : ℕ) (t : Totals)
    → accepted (values (answer s ds asks n t))
    → accepted (values (answer s' ds' asks' n' (totals s ds asks n t)))
    → ◌≡◌ {A = Totals}
    (totals s' ds' asks' n' (totals s ds asks n t))
    (record { busy = t.busy + (run s ds asks).busy + (run s' ds' asks').busy; idle = t.idle + (run s ds asks).idle + (run s' ds' asks').idle })
