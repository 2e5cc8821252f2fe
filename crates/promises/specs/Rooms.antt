-- What a room's call answers and leaves, in the numbers of RULES, and what is promised of it.
--
--   set_of R k            == the set k of the room R
--   stretch_of R k xs     == its stretch of a list that has one entry per sub-job
--   SetSays s out n p l  == one call of `assign` on the set s with the list out gives number n and place p, and leaves l
--   RoomSays R v out ks ps == RULES has `room::assign` answer the values v and leave these deadlines, numbers and places
--   RoomAnswers          == it does just that: no other number, no other list
--   OneCallPerSet        == the outcome is that of one call of `assign` per set: number, place and stretch
--   AcceptedSets         == a set with number 0 is one that `assign` accepts, so what is promised of those holds of it
--   RefusedSetKeeps      == a set with another number keeps its stretch
--   RoomsAgree           == two rooms that agree on one set's stretch agree on its number, place and deadlines
use Rattle.std.specs.Prelude.{ℕ, ◌<◌, List, [], ◌∷◌, ◌≢◌, ◌≡◌, ℤ, pos, length}
use Rattle.subjobs.specs.declared.Reason.TheVariants as reasons
use Rattle.subjobs.specs.Judging.{values}
use Rattle.subjobs.specs.Sets.{Subjobs, size}
use Rattle.olda.specs.Answers as olda
use Rattle.stretches.specs.Stretches.{stretch, start}
use Rattle.stretches.specs.Answers.{Room, set_at, number, place, judgement, deadlines_after, numbers_after, places_after}
use Rattle.stretches.specs.Faults.{Fit, Faulty}
use Rattle.promises.specs.Words.{accepted, refusal, Assigned, at}
use Rattle.promises.specs.Assign.{AssignSays}

-- The sets stand one after another: set k starts behind those before it.
abbrev pub set_of : Room → ℕ → Subjobs
set_of R k = set_at R.sets (start R.lengths k) (at R.lengths k)

abbrev pub stretch_of : Room → ℕ → List ℕ → List ℕ
stretch_of R k xs = stretch (start R.lengths k) (at R.lengths k) xs

pub data SetSays (s : Subjobs) (out : List ℕ) : (n p : ℕ) → List ℕ → Type 0 where
  -- accepted: number 0 and place 0
  placed : {vs : List ℤ} {l : List ℕ} → AssignSays s out (pos 0 ∷ vs) l → SetSays s out 0 0 l
  -- the refusal's number and its place, counted from the start of that set
  refused : {n p : ℕ} {vs : List ℤ} {l : List ℕ} → AssignSays s out (pos n ∷ pos p ∷ vs) l → n ≢ 0 → SetSays s out n p l

-- What each number says of the room stands at `Faulty`.
pub data RoomSays (R : Room) : List ℤ → (out ks ps : List ℕ) → Type 0 where
  -- refused before anything is written
  lengths : Faulty R reasons.Lengths → RoomSays R (refusal 1 0 0) R.deadlines R.numbers R.places
  large : Faulty R reasons.TooLarge → RoomSays R (refusal 22 0 0) R.deadlines R.numbers R.places
  -- read: every set has its number and its place, and in its own stretch what `assign` leaves there
  read :
      {out ks ps : List ℕ}
      → Fit R
      → length out ≡ size R.sets
      → length ks ≡ length R.lengths
      → length ps ≡ length R.lengths
      → ((k : ℕ)
      → k < length R.lengths
      → SetSays (set_of R k) (stretch_of R k R.deadlines) (at ks k) (at ps k) (stretch_of R k out))
      → RoomSays R (pos 0 ∷ []) out ks ps

abbrev pub RoomAnswers : Type 0
RoomAnswers =
    (R : Room)
    → RoomSays R (values (judgement R)) (deadlines_after R) (numbers_after R) (places_after R)
    × ((v : List ℤ) (out ks ps : List ℕ)
    → RoomSays R v out ks ps
    → (v ≡ values (judgement R)) × (out ≡ deadlines_after R) × (ks ≡ numbers_after R) × (ps ≡ places_after R))

-- The outcome equals one call per set, in order, by the answer and the results that `assign`'s contract cites. Each set is
-- as long as its length says, and so is its stretch, so the call is not refused by 1.
abbrev pub OneCallPerSet : Type 0
OneCallPerSet =
    (R : Room) (k : ℕ)
    → accepted (values (judgement R))
    → k < length R.lengths
    → (at (numbers_after R) k ≡ number (olda.answer (set_of R k) (length (stretch_of R k R.deadlines))))
    × (at (places_after R) k ≡ place (olda.answer (set_of R k) (length (stretch_of R k R.deadlines))))
    × (stretch_of R k (deadlines_after R) ≡ olda.results (set_of R k) (stretch_of R k R.deadlines))
    × (size (set_of R k) ≡ at R.lengths k)
    × (length (stretch_of R k R.deadlines) ≡ at R.lengths k)

abbrev pub AcceptedSets : Type 0
AcceptedSets =
    (R : Room) (k : ℕ)
    → accepted (values (judgement R))
    → k < length R.lengths
    → at (numbers_after R) k ≡ 0
    → Assigned (set_of R k) (stretch_of R k (deadlines_after R))

abbrev pub RefusedSetKeeps : Type 0
RefusedSetKeeps =
    (R : Room) (k : ℕ)
    → accepted (values (judgement R))
    → k < length R.lengths
    → at (numbers_after R) k ≢ 0
    → stretch_of R k (deadlines_after R) ≡ stretch_of R k R.deadlines

-- whatever the other sets are, and wherever the set stands
abbrev pub RoomsAgree : Type 0
RoomsAgree =
    (R R' : Room) (k k' : ℕ)
    → accepted (values (judgement R))
    → accepted (values (judgement R'))
    → k < length R.lengths
    → k' < length R'.lengths
    → set_of R k ≡ set_of R' k'
    → stretch_of R k R.deadlines ≡ stretch_of R' k' R'.deadlines
    → (at (numbers_after R) k ≡ at (numbers_after R') k')
    × (at (places_after R) k ≡ at (places_after R') k')
    × (stretch_of R k (deadlines_after R) ≡ stretch_of R' k' (deadlines_after R'))
