-- What the checker answers. Numbers 6 and 7 are those of RULES' table; that together they are the
-- published conditions (6) and (7) over all subsets is a theorem of `promises`.
--
--   judged s ds   == refusals 1 to 4 of the set s, the proposed deadlines ds being one list more
--   six_of T d i   == refusal 6 at place i of the sub-jobs T with deadlines d
--   six, seven    == refusals 6 and 7 at the smallest such place
--   answer s ds   == the answer for the set s and the proposed deadlines ds
--   values a      == RULES' number and values of an answer: 0, or the reason's
use Rattle.std.specs.Prelude.{Err, ℕ, ◌+◌, cond, ◌&&◌, List, ◌≡◌, leb, eqb, ℤ, length, get_or}
use Rattle.subjobs.specs.declared.Reason.TheVariants.{Unmet, Missed}
use Rattle.subjobs.specs.Sets.{Subjobs, size}
use Rattle.subjobs.specs.Terms.{Terms, terms}
use Rattle.subjobs.specs.Judging as judging
use Rattle.subjobs.specs.Judging.{Judgement, passed, or_else, first_refusal}
use Rattle.ticks.specs.Runs.{run}

-- Acceptance carries no further number.
abbrev pub Answer : Type 0
Answer = Judgement

abbrev pub judged : Subjobs → List ℕ → Judgement
judged s ds = judging.judgement s (eqb (length ds) (size s))

-- 6: release + execution ≤ d ≤ upper bound fails
abbrev pub six_at : (place release execution deadline withheld d : ℕ) → Judgement
six_at p r c dl z d = cond (leb (r + c) d && leb (d + z) dl) passed (Err (Unmet p))

abbrev pub six_of : Terms → (ℕ → ℕ) → ℕ → Judgement
six_of T d i = six_at i (T.release i) (T.execution i) (T.deadline i) (T.withheld i) (d i)

abbrev pub six : Subjobs → List ℕ → Judgement
six s ds = first_refusal (six_of (terms s) (λ i. get_or ds i 0)) (size s)

-- 7: with every ask equal to execution some finish is after its deadline
abbrev pub seven_at : (place finish d : ℕ) → Judgement
seven_at p f d = cond (leb f d) passed (Err (Missed p))

abbrev pub seven : Subjobs → List ℕ → Judgement
seven s ds = first_refusal (λ i. seven_at i (get_or (run s ds s.executions).finishes i 0) (get_or ds i 0)) (size s)

unfoldable pub answer : Subjobs → List ℕ → Answer
answer s ds = or_else (judged s ds) (or_else (six s ds) (seven s ds))

abbrev pub values : Answer → List ℤ
values = judging.values

-- What `check` is held to.
abbrev pub Checks : Subjobs → List ℕ → Answer → Type 0
Checks s ds r = r ≡ answer s ds
