-- What a room's call answers and leaves: the assignment's own answers and results, one set after another.
--
--   Room            == what is lent: the six lists and the lengths of the sets; deadlines, numbers and places as found
--   set_at s a n     == the set of n sub-jobs that starts at place a of the six lists
--   answer_at s a n  == what the assignment answers for that set alone
--   results_at s out a n == what it leaves in that set's stretch of the deadlines out
--   number, place   == what is told of a set's answer
--   fitting s ns m k p == lists of one kind are of one length and the lengths add up, for m deadlines, k numbers, p places
--   few k n         == k sets and n places are not too many
--   judgement R     == refusals 1 and 22
--   deadlines_after R, numbers_after R, places_after R == what the three lists hold afterwards
--   Assigns R r out ks ps == what `assign` is held to: the answer r, and these three lists
use Rattle.std.specs.Prelude.{Ok, Err, ℕ, Bool, ◌&&◌, ◌≡◌, leb, eqb, length}
use mathlib.Core.List.{List, flatten}
use Rattle.lists.specs.Places.{total}
use Rattle.subjobs.specs.Judging.{Judgement}
use Rattle.subjobs.specs.declared.Reason.TheVariants.{Lengths, TooLarge}
use Rattle.subjobs.specs.Reasons.{number_of, place_of}
use Rattle.subjobs.specs.Sets.{Subjobs, subjobs, size}
use Rattle.subjobs.specs.Judging.{one_length, unless, or_else, if_passed}
use Rattle.olda.specs.Answers.{Answer}
use Rattle.olda.specs.Answers.{answer, results}
use Rattle.stretches.specs.Stretches.{stretch, each}

-- The sets of a room's cores stand one after another in the same six lists, with a list of their lengths. There is one
-- result list for all, and two further lists with one entry per set.
pub record Room : Type 0 where
  pub sets : Subjobs
  pub lengths : List ℕ
  pub deadlines : List ℕ
  pub numbers : List ℕ
  pub places : List ℕ

abbrev pub room : Subjobs → (lengths deadlines numbers places : List ℕ) → Room
room s ns out ks ps = record { sets = s; lengths = ns; deadlines = out; numbers = ks; places = ps }

abbrev pub set_at : Subjobs → (a n : ℕ) → Subjobs
set_at s a n =
    subjobs (stretch a n s.jobs) (stretch a n s.subtasks) (stretch a n s.releases) (stretch a n s.executions)
    (stretch a n s.deadlines) (stretch a n s.criticals)

-- The outcome equals one call per set, in order. Each set's deadlines go into that set's own stretch of one result list.
abbrev pub answer_at : Subjobs → (a n : ℕ) → Answer
answer_at s a n = answer (set_at s a n) n

abbrev pub results_at : Subjobs → List ℕ → (a n : ℕ) → List ℕ
results_at s out a n = results (set_at s a n) (stretch a n out)

-- its number: 0 or the refusal
abbrev pub number : Answer → ℕ
number (Ok r) = 0
number (Err r) = number_of r

-- and its place: 0 if accepted; counted from the start of that set
abbrev pub place : Answer → ℕ
place (Ok r) = 0
place (Err r) = place_of r

-- 1: lists of one kind differ in length, or the lengths do not add up
abbrev pub fitting : Subjobs → List ℕ → (deadlines numbers places : ℕ) → Bool
fitting s ns m k p =
    one_length s (eqb m (size s)) && eqb k (length ns) && eqb p (length ns) && eqb (total ns) (size s)

-- 22, after 1: more than 32 sets or more than 4,096 places
abbrev pub few : (sets places : ℕ) → Bool
few k n = leb k 32 && leb n 4_096

unfoldable pub judgement : Room → Judgement
judgement R =
    or_else (unless (fitting R.sets R.lengths (length R.deadlines) (length R.numbers) (length R.places)) Lengths)
    (unless (few (length R.lengths) (size R.sets)) TooLarge)

-- both before anything is written; the rest per set. A refused set leaves its stretch as found and does not stop the next.
unfoldable pub deadlines_after : Room → List ℕ
deadlines_after R =
    if_passed (judgement R) (flatten (each (results_at R.sets R.deadlines) 0 R.lengths)) (λ r. R.deadlines)

unfoldable pub numbers_after : Room → List ℕ
numbers_after R = if_passed (judgement R) (each (λ a n. number (answer_at R.sets a n)) 0 R.lengths) (λ r. R.numbers)

unfoldable pub places_after : Room → List ℕ
places_after R = if_passed (judgement R) (each (λ a n. place (answer_at R.sets a n)) 0 R.lengths) (λ r. R.places)

pub record Assigns (R : Room) (r : Judgement) (out ks ps : List ℕ) : Type 0 where
  pub answer : r ≡ judgement R
  pub deadlines : out ≡ deadlines_after R
  pub numbers : ks ≡ numbers_after R
  pub places : ps ≡ places_after R
