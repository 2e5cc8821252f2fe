-- Refusals 1 to 4: what is asked of every set before any entry does its work. Checks stand one below the other in the order
-- in which they are made, those of a set in `judgement`, those of one place in `range_at`; a further one is a further line.
-- What the judgement says of a set with no search in it is in Faults.
--
--   Judgement           == what refusals say: it passes, or the reason why not
--   judged a            == an answer as a judgement
--   unless b r          == refused for r unless b holds
--   or_else a b          == a's refusal, and b's judgement if a passes
--   first_refusal J n    == the refusal of the smallest place below n that J refuses
--   if_passed j a f      == a if j passes, f of the reason if it refuses
--   judgement s others  == refusals 1 to 4 in the order of the numbers
--   values j            == number and values of a judgement: 0, or what the reason tells
use Rattle.std.specs.Prelude.{Result, Ok, Err, ℕ, zero, suc, Bool, cond, not, ◌&&◌, List, [], ◌∷◌, ◌≡◌, leb, eqb, ℤ, pos, length}
use Rattle.lists.specs.Search.{some}
use Rattle.subjobs.specs.declared.Field.TheVariants.{Release, Execution, Deadline, Critical}
use Rattle.subjobs.specs.declared.Reason.{Reason}
use Rattle.subjobs.specs.declared.Reason.TheVariants.{Lengths, TooMany, Range, Pair}
use Rattle.subjobs.specs.Reasons as reasons
use Rattle.subjobs.specs.Sets.{Subjobs, size, job, subtask, release, execution, deadline, critical}

-- What refusals say of a set, of a graph or of a room: it passes, or the reason why not.
abbrev pub Judgement : Type 0
Judgement = Result (Unit {0}) Reason

abbrev pub passed : Judgement
passed = Ok tt

-- An answer that carries something where it passes, as a judgement.
abbrev pub judged : {A : Type 0} → Result A Reason → Judgement
judged (Ok a) = passed
judged (Err r) = Err r

abbrev pub unless : Bool → Reason → Judgement
unless b r = cond b passed (Err r)

abbrev pub or_else : Judgement → Judgement → Judgement
or_else (Ok tt) j = j
or_else (Err r) j = Err r

abbrev pub if_passed : {A : Type 0} → Judgement → A → (Reason → A) → A
if_passed (Ok tt) a f = a
if_passed (Err r) a f = f r

-- among the n places from i on
unfoldable pub refusal_from : (ℕ → Judgement) → ℕ → ℕ → Judgement
refusal_from J zero i = passed
refusal_from J (suc n) i = or_else (J i) (refusal_from J n (suc i))

abbrev pub first_refusal : (ℕ → Judgement) → ℕ → Judgement
first_refusal J n = refusal_from J n 0

-- 1: the lists, results included, are not all of one length. `others` says it of the call's further lists.
abbrev pub one_length : Subjobs → Bool → Bool
one_length s others =
    eqb (length s.subtasks) (size s)
    && eqb (length s.releases) (size s)
    && eqb (length s.executions) (size s)
    && eqb (length s.deadlines) (size s)
    && eqb (length s.criticals) (size s)
    && others

-- 3: a field out of range; the first such field in the order release, execution, deadline, critical time
abbrev pub range_at : (place release execution deadline critical : ℕ) → Judgement
range_at p r c dl z =
    or_else (unless (leb r 1_000_000_000) (Range p Release))
    (or_else (unless (leb 1 c && leb c 1_000_000) (Range p Execution))
    (or_else (unless (leb dl 2_000_000_000) (Range p Deadline))
    (unless (leb z 1_000_000_000) (Range p Critical))))

abbrev pub ranges : (r c dl z : ℕ → ℕ) → ℕ → Judgement
ranges r c dl z n = first_refusal (λ i. range_at i (r i) (c i) (dl i) (z i)) n

-- 4: a pair (job, subtask) seen earlier in the list
abbrev pub seen_earlier : (job subtask : ℕ → ℕ) → ℕ → Bool
seen_earlier job subtask i = some (λ j. eqb (job j) (job i) && eqb (subtask j) (subtask i)) i

abbrev pub pair_at : (job subtask : ℕ → ℕ) → ℕ → Judgement
pair_at job subtask p = unless (not (seen_earlier job subtask p)) (Pair p)

abbrev pub pairs : (job subtask : ℕ → ℕ) → ℕ → Judgement
pairs job subtask n = first_refusal (pair_at job subtask) n

-- Checks run in the order of the numbers. 2: more than 128 sub-jobs
unfoldable pub judgement : Subjobs → Bool → Judgement
judgement s others =
    or_else (unless (one_length s others) Lengths)
    (or_else (unless (leb (size s) 128) TooMany)
    (or_else (ranges (release s) (execution s) (deadline s) (critical s) (size s))
    (pairs (job s) (subtask s) (size s))))

-- What `judge` is held to.
abbrev pub Judges : Subjobs → Bool → Judgement → Type 0
Judges s others r = r ≡ judgement s others

abbrev pub values : Judgement → List ℤ
values (Ok tt) = pos 0 ∷ []
values (Err r) = reasons.values r
