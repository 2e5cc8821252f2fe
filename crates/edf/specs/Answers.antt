-- What the simulator answers, and what the finishes and the totals hold afterwards.
--
--   Answer                   == what the simulator answers
--   added r t                == the totals t with the ticks of the run r
--   above t                  == a total stands above what a record may hold
--   answer s ds asks n t     == the answer, for a list of n finishes and a record of totals t
--   values a                 == RULES' number and values of an answer: 0 and the end, or the reason's
--   totals s ds asks n t     == what the record of totals holds afterwards
--   finishes s ds asks fs t  == what the list of finishes holds afterwards, if it held fs before
use Rattle.std.specs.Prelude.{Result, Ok, Err, ℕ, ◌+◌, Bool, cond, ◌&&◌, ◌||◌, List, [], ◌∷◌, ◌≡◌, ltb, eqb, ℤ, pos, length}
use Rattle.subjobs.specs.declared.Reason.{Reason}
use Rattle.subjobs.specs.declared.Reason.TheVariants as reason
use Rattle.subjobs.specs.Reasons as reasons
use Rattle.subjobs.specs.Sets.{Subjobs, size}
use Rattle.subjobs.specs.Judging.{judgement, if_passed}
use Rattle.edf.specs.declared.Totals.{Totals}
use Rattle.edf.specs.declared.Simulated.{Simulated}
use Rattle.edf.specs.declared.Report.{Report}
use Rattle.ticks.specs.Runs.{Run, run}

-- The report, or the reason.
abbrev pub Answer : Type 0
Answer = Result Report Reason

-- Each run adds its own ticks to the record of totals.
abbrev pub added : Run → Totals → Totals
added r t = record { busy = t.busy + r.busy; idle = t.idle + r.idle }

-- Number 8: after the run, busy or idle total would stand above 1,000,000,000,000,000,000.
abbrev pub above : Totals → Bool
above t = ltb 1_000_000_000_000_000_000 t.busy || ltb 1_000_000_000_000_000_000 t.idle

-- the lists beside the six are as long as the first
abbrev pub further_lists : Subjobs → List ℕ → List ℕ → ℕ → Bool
further_lists s ds asks n = eqb (length ds) (size s) && eqb (length asks) (size s) && eqb n (size s)

unfoldable pub answer : Subjobs → List ℕ → List ℕ → ℕ → Totals → Answer
answer s ds asks n t =
    if_passed (judgement s (further_lists s ds asks n))
    (cond (above (added (run s ds asks) t)) (Err reason.Totals) (Ok (record { end = (run s ds asks).end })))
    Err

-- After a refusal the result list and the totals hold what they held before.
abbrev pub if_ran : {A : Type 0} → Answer → A → A → A
if_ran (Ok r) new old = new
if_ran (Err r) new old = old

unfoldable pub totals : Subjobs → List ℕ → List ℕ → ℕ → Totals → Totals
totals s ds asks n t = if_ran (answer s ds asks n t) (added (run s ds asks) t) t

unfoldable pub finishes : Subjobs → List ℕ → List ℕ → List ℕ → Totals → List ℕ
finishes s ds asks fs t = if_ran (answer s ds asks (length fs) t) (run s ds asks).finishes fs

-- the answer, and what the record of totals holds afterwards
abbrev pub simulated : Subjobs → List ℕ → List ℕ → ℕ → Totals → Simulated
simulated s ds asks n t = record { answer = answer s ds asks n t; totals = totals s ds asks n t }

abbrev pub values : Answer → List ℤ
values (Ok r) = pos 0 ∷ pos r.end ∷ []
values (Err r) = reasons.values r

-- What `simulate` is held to: what it gives, and what the list of finishes holds afterwards.
pub record Simulates (s : Subjobs) (ds asks fs : List ℕ) (t : Totals) (r : Simulated) (new : List ℕ) : Type 0 where
  pub gives : r ≡ simulated s ds asks (length fs) t
  pub writes : new ≡ finishes s ds asks fs t

-- What `run` is held to: its answer, and what totals and finishes hold afterwards.
pub record Runs (s : Subjobs) (ds asks fs : List ℕ) (t : Totals) (r : Answer) (sum : Totals) (new : List ℕ) : Type 0 where
  pub gives : r ≡ answer s ds asks (length fs) t
  pub adds : sum ≡ totals s ds asks (length fs) t
  pub writes : new ≡ finishes s ds asks fs t
