-- What is guaranteed, to be read with no proof: begin with Demand3. This file has the words that the others share. The signs:
--
--   ℕ, ℤ, List ℕ   whole numbers from 0, signed whole numbers, lists of numbers; a list's first place is 0
--   (x : ℕ) → P    for every number x, P
--   P → Q          if P then Q
--   P × Q          P and Q
--   P ⊎ Q          P or Q
--   P ↔ Q          P exactly if Q
--   (x : ℕ) × P    there is a number x with P
--   P → ⊥, a ≢ b   not P; a is not b
--   a ≡ b          a equals b
--   λ i. e         the function that gives e for i
--   x ∷ xs, []     the list that starts with x and goes on with xs; the empty list
--
--   Number n v           == the number of an answer with the values v is n
--   accepted v           == it is 0
--   refusal n p f        == the values of a refusal that has no completion and no bound: number, place, field
--   Faults s others v    == numbers 1 to 4 refuse the set s with the values v; others says of the call's further lists that
--                           they are as long as the six
--   Assigned s ds        == `assign` accepts the set s and leaves the deadlines ds
--   at ds                == the deadline that a list holds for a place
--   MeetsSix s ds        == the deadlines ds of the set meet (6)
--   MeetsSeven s ds      == they meet (7)
--   served s ds asks t i == the ticks that the core has served to place i by moment t
--   finish s ds asks i   == the finish moment of place i
use Rattle.std.specs.Prelude.{ℕ, Bool, List, [], ◌∷◌, ◌≡◌, ℤ, pos, length, get_or}
use Rattle.lists.specs.Places.{places}
use Rattle.subjobs.specs.declared.Field.{Field}
use Rattle.subjobs.specs.declared.Reason.TheVariants.{Lengths, TooMany, Range, Pair}
use Rattle.subjobs.specs.Reasons.{field_number}
use Rattle.subjobs.specs.Faults.{Faulty}
use Rattle.subjobs.specs.Sets.{Subjobs, size}
use Rattle.subjobs.specs.Terms.{terms}
use Rattle.subjobs.specs.Conditions.{SixAt, Six, Seven}
use Rattle.olda.specs.Answers as olda
use Rattle.ticks.specs.Runs.{core_at, run}

abbrev pub Number : ℕ → List ℤ → Type 0
Number n [] = ⊥
Number n (m ∷ vs) = m ≡ pos n

abbrev pub accepted : List ℤ → Type 0
accepted v = Number 0 v

-- number, place, field (0 none), completion, bound
abbrev pub refusal : (number place field : ℕ) → List ℤ
refusal n p f = pos n ∷ pos p ∷ pos f ∷ pos 0 ∷ pos 0 ∷ []

-- What each of these says of the set stands at `Faulty`, place by place and with no search.
pub data Faults (s : Subjobs) (others : Bool) : List ℤ → Type 0 where
  lengths : Faulty s others Lengths → Faults s others (refusal 1 0 0)
  many : Faulty s others TooMany → Faults s others (refusal 2 0 0)
  range : {p : ℕ} {f : Field} → Faulty s others (Range p f) → Faults s others (refusal 3 p (field_number f))
  pair : {p : ℕ} → Faulty s others (Pair p) → Faults s others (refusal 4 p 0)

-- After some call of `assign` on the set, whatever the result list held, the number is 0 and the result list holds ds.
abbrev pub Assigned : Subjobs → List ℕ → Type 0
Assigned s ds = (out : List ℕ) × accepted (olda.values (olda.answer s (length out))) × (olda.results s out ≡ ds)

abbrev pub at : List ℕ → ℕ → ℕ
at ds i = get_or ds i 0

-- (6) at one place
abbrev pub Meets : Subjobs → List ℕ → ℕ → Type 0
Meets s ds = SixAt (terms s) (at ds)

abbrev pub MeetsSix : Subjobs → List ℕ → Type 0
MeetsSix s ds = Six (terms s) (at ds) (places (size s))

abbrev pub MeetsSeven : Subjobs → List ℕ → Type 0
MeetsSeven s ds = Seven (terms s) (at ds) (places (size s))

abbrev pub served : Subjobs → List ℕ → List ℕ → ℕ → ℕ → ℕ
served s ds asks t i = get_or (core_at s ds asks t).served i 0

abbrev pub finish : Subjobs → List ℕ → List ℕ → ℕ → ℕ
finish s ds asks i = get_or (run s ds asks).finishes i 0
