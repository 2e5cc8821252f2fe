-- What the assignment answers and what the result list holds afterwards.
--
--   Answer         == what the assignment answers
--   report s d     == what is reported of an accepted set with the local deadlines d
--   outcome s w    == the answer, if the method's outcome is w
--   answer s n     == the answer for the set s and a result list of n places
--   results s out  == what the result list holds afterwards, if it held out before
--   values a       == the number and values of an answer: 0 and the report, or the reason's
--   Assigns s out r out' == answer and result list are these
use Rattle.std.specs.Prelude.{Result, Option, Ok, Err, Some, None, ℕ, List, [], ◌∷◌, ◌≡◌, eqb, ℤ, pos, length, get_or}
use Rattle.lists.specs.Places.{places}
use Rattle.lists.specs.Order.{choose, given}
use Rattle.subjobs.specs.declared.Reason.{Reason}
use Rattle.subjobs.specs.declared.Reason.TheVariants.{Late}
use Rattle.subjobs.specs.Reasons as reasons
use Rattle.subjobs.specs.Sets.{Subjobs, size}
use Rattle.subjobs.specs.Terms.{terms, bound, slack, by_slack}
use Rattle.subjobs.specs.Judging.{judgement, if_passed}
use Rattle.olda.specs.declared.Report.{Report}
use Rattle.rules.specs.Method.{Outcome, placed, stuck, method}

-- The report, none of an empty set; or the reason.
abbrev pub Answer : Type 0
Answer = Result (Option Report) Reason

-- An accepted set reports its least slack and the smallest place that has it. An empty set is accepted with a report
-- of its own, "nothing to place", which carries no slack.
unfoldable pub report : Subjobs → (ℕ → ℕ) → Option Report
report s d =
    given (choose (by_slack (terms s) d) (places (size s))) None (λ p. Some (record { slack = slack (terms s) d p; place = p }))

-- Number 5: the base sub-job's place, with the completion and its upper bound.
abbrev pub outcome : Subjobs → Outcome → Answer
outcome s (placed ds) = Ok (report s (λ i. get_or ds i 0))
outcome s (stuck p m) = Err (Late p m (bound (terms s) p))

unfoldable pub answer : Subjobs → ℕ → Answer
answer s n = if_passed (judgement s (eqb n (size s))) (outcome s (method s)) Err

-- After a refusal the result list holds what it held before. After acceptance the whole result list is written.
abbrev pub written : Outcome → List ℕ → List ℕ
written (placed ds) out = ds
written (stuck p m) out = out

unfoldable pub results : Subjobs → List ℕ → List ℕ
results s out = if_passed (judgement s (eqb (length out) (size s))) (written (method s) out) (λ r. out)

abbrev pub values : Answer → List ℤ
values (Ok (Some r)) = pos 0 ∷ r.slack ∷ pos r.place ∷ []
values (Ok None) = pos 0 ∷ []
values (Err r) = reasons.values r

-- What `assign` is held to: its answer r, and what the result list out holds afterwards.
abbrev pub Assigns : Subjobs → List ℕ → Answer → List ℕ → Type 0
Assigns s out r out' = (r ≡ answer s (length out)) × (out' ≡ results s out)
