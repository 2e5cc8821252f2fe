-- What `assign` answers and leaves, in the numbers of RULES, and what is promised of it.
--
--   Reported s ds p x     == x is the least slack of the set with the deadlines ds, and p the smallest place that has it
--   AssignSays s out v l  == RULES has `assign` answer the values v and leave the list l in place of out
--   AssignAnswers         == it does just that: no other number, no other values, no other list
--   RulesAllowOne         == the rules give a set one outcome
--   ReleaseOrderIsTheSet, TailIsTheBase, TailIsOneRelease == it is enough to look at the tails in release order
--   CompletionsFall, DeadlinesDiffer == completions fall from step to step, so deadlines are all different
--   DeadlinesMeetSixAndSeven == the deadlines of an accepted set meet (6) and (7)
--   SumsAreSigned         == where the rules compare by sums, they compare signed numbers
--   TiesByPair            == the base sub-job is told from others by bound, job and subtask; in a set that passes, from all
use Rattle.std.specs.Prelude.{ℕ, ◌+◌, ◌<◌, ◌≤◌, Bool, true, ◌≢◌, ◌⊎◌, ◌↔◌, ◌≡◌, leb, eqb, ℤ, pos, length}
use mathlib.Core.List.{List, [], ◌∷◌, Memᴰ}
use Rattle.std.specs.Int.Signed.{le_z, lt_z}
use Rattle.lists.specs.Places.{places, filter, without, least, InOrder, Nodup}
use Rattle.subjobs.specs.Sets.{Subjobs, size, by_bound}
use Rattle.subjobs.specs.Terms.{Terms, terms, bound, slack, by_slack, lower, Behind}
use Rattle.subjobs.specs.Faults.{Fit}
use Rattle.subjobs.specs.Conditions.{completion}
use Rattle.rules.specs.Rules.{Base, Turn, Accepted, RefusedAt, LeastSlack}
use Rattle.rules.specs.Method.{in_order, best, base}
use Rattle.olda.specs.Answers.{answer, results, values}
use Rattle.promises.specs.Words.{Faults, Assigned, at, MeetsSix, MeetsSeven}

abbrev pub Reported : Subjobs → List ℕ → ℕ → ℤ → Type 0
Reported s ds p x =
    LeastSlack (terms s) (at ds) (places (size s)) x
    × (p < size s)
    × (slack (terms s) (at ds) p ≡ x)
    × ((i : ℕ) → i < p → slack (terms s) (at ds) i ≢ x)

-- The result list is the one further list of the call.
abbrev pub results_fit : Subjobs → List ℕ → Bool
results_fit s out = eqb (length out) (size s)

pub data AssignSays (s : Subjobs) (out : List ℕ) : List ℤ → List ℕ → Type 0 where
  -- 1 to 4; the result list holds what it held
  faulty : {v : List ℤ} → Faults s (results_fit s out) v → AssignSays s out v out
  -- 5: step 3 fails; the base sub-job's place, with the completion and its upper bound; the list holds what it held
  late :
      {p m : ℕ}
      → Fit s (results_fit s out)
      → RefusedAt s p m
      → AssignSays s out (pos 5 ∷ pos p ∷ pos 0 ∷ pos m ∷ bound (terms s) p ∷ []) out
  -- accepted, nothing to place, which carries no slack
  nothing : Fit s (results_fit s out) → size s ≡ 0 → AssignSays s out (pos 0 ∷ []) []
  -- accepted: the least slack and the smallest place that has it; the whole result list is written
  placed :
      {ds : List ℕ} {p : ℕ} {x : ℤ}
      → Fit s (results_fit s out)
      → length ds ≡ size s
      → Accepted s (at ds)
      → Reported s ds p x
      → AssignSays s out (pos 0 ∷ x ∷ pos p ∷ []) ds

-- The answer and the list are what RULES says, and RULES says nothing else: the outcomes of `assign` are these, and of two
-- that are allowed for one call both numbers and lists are equal.
abbrev pub AssignAnswers : Type 0
AssignAnswers =
    (s : Subjobs) (out : List ℕ)
    → AssignSays s out (values (answer s (length out))) (results s out)
    × ((v : List ℤ) (l : List ℕ) → AssignSays s out v l → (v ≡ values (answer s (length out))) × (l ≡ results s out))

-- Two lists of deadlines that the rules give a set are equal, two refusals are equal, and they never both give deadlines
-- and refuse.
abbrev pub RulesAllowOne : Type 0
RulesAllowOne =
    (s : Subjobs) (others : Bool)
    → Fit s others
    → ((d d' : ℕ → ℕ) → Accepted s d → Accepted s d' → (i : ℕ) → i < size s → d i ≡ d' i)
    × ((p m p' m' : ℕ) → RefusedAt s p m → RefusedAt s p' m' → (p ≡ p') × (m ≡ m'))
    × ((d : ℕ → ℕ) (p m : ℕ) → Accepted s d → RefusedAt s p m → ⊥)

-- All executions of xs are at least 1, as in every set that passes refusal 3.
abbrev pub Executions : (ℕ → ℕ) → List ℕ → Type 0
Executions c xs = (i : ℕ) → Memᴰ i xs → 1 ≤ c i

-- The method puts the places xs into release order: each of them, each once if they are, and no other.
abbrev pub ReleaseOrderIsTheSet : Type 0
ReleaseOrderIsTheSet =
    (r : ℕ → ℕ) (xs : List ℕ)
    → InOrder r (in_order r xs)
    × (Nodup xs → Nodup (in_order r xs))
    × ((i : ℕ) → Memᴰ i (in_order r xs) ↔ Memᴰ i xs)

-- It is enough to look at the tails of the sub-jobs in release order: a subset is the base subset over all subsets
-- exactly if it is the tail that the method finds; so there is one, and no other.
abbrev pub TailIsTheBase : Type 0
TailIsTheBase =
    (T : Terms) (xs : List ℕ)
    → InOrder T.release xs
    → Executions T.execution xs
    → xs ≢ []
    → (U : ℕ → Bool)
    → Base T xs U ↔ (filter U xs ≡ base T.release T.execution xs)

-- That tail is all those released at or after one release, the one at which it starts, and `best` is its completion.
abbrev pub TailIsOneRelease : Type 0
TailIsOneRelease =
    (r c : ℕ → ℕ) (xs : List ℕ)
    → InOrder r xs
    → Executions c xs
    → (filter (λ i. leb (least r (base r c xs)) (r i)) xs ≡ base r c xs)
    × (completion r c (base r c xs) ≡ best r c xs)

-- Completions fall from one turn to the next, in every set and whatever the order of its list.
abbrev pub CompletionsFall : Type 0
CompletionsFall =
    (s : Subjobs) (xs : List ℕ)
    → Executions (terms s).execution xs
    → (b m b' m' : ℕ)
    → Turn (terms s) xs b m
    → Turn (terms s) (without b xs) b' m'
    → m' < m

-- So the deadlines of an accepted set are all different.
abbrev pub DeadlinesDiffer : Type 0
DeadlinesDiffer =
    (s : Subjobs) (ds : List ℕ)
    → Assigned s ds
    → (i j : ℕ)
    → i < size s
    → j < size s
    → i ≢ j
    → at ds i ≢ at ds j

-- The deadlines of an accepted set meet (6) and (7).
abbrev pub DeadlinesMeetSixAndSeven : Type 0
DeadlinesMeetSixAndSeven = (s : Subjobs) (ds : List ℕ) → Assigned s ds → MeetsSix s ds × MeetsSeven s ds

-- Upper bounds are compared with one another, a deadline with an upper bound, slacks with one another as signed numbers.
abbrev pub SumsAreSigned : Type 0
SumsAreSigned =
    (T : Terms) (d : ℕ → ℕ) (i j : ℕ)
    → (by_bound T.deadline T.withheld i j ≡ lt_z (bound T i) (bound T j))
    × (leb (d i + T.withheld i) (T.deadline i) ≡ le_z (pos (d i)) (bound T i))
    × (by_slack T d i j ≡ lt_z (slack T d i) (slack T d j))

-- The order of the base sub-job is the one that is meant, and of two sub-jobs of a set that passes refusals 1 to 4 one
-- stands behind the other, since their pairs differ.
abbrev pub TiesByPair : Type 0
TiesByPair =
    (s : Subjobs) (i j : ℕ)
    → ((lower s i j ≡ true) ↔ Behind s i j)
    × ((others : Bool) → Fit s others → i < size s → j < size s → i ≢ j → Behind s i j ⊎ Behind s j i)
