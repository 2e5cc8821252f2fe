-- A worked room and some that are at the edge, in numbers.
--
--   worked     == four sets: two sub-jobs, none, two of which the second is late, and one
--   alone ns   == one sub-job, with the lengths ns
--   long       == a set of 129 sub-jobs
--   Cases      == what `assign` says of them and leaves
use Rattle.std.specs.Prelude.{Ok, Err, ℕ, List, [], ◌∷◌, ◌≡◌, length, replicate}
use Rattle.lists.specs.Places.{places}
use Rattle.subjobs.specs.declared.Reason.TheVariants.{Lengths, TooLarge}
use Rattle.subjobs.specs.Sets.{subjobs}
use Rattle.stretches.specs.Answers.{Room, room, judgement, deadlines_after, numbers_after, places_after}

-- The same pairs stand in the first set and in the third.
abbrev pub worked : Room
worked =
    room
    (subjobs (1 ∷ 2 ∷ 1 ∷ 2 ∷ 7 ∷ []) (1 ∷ 1 ∷ 1 ∷ 1 ∷ 1 ∷ []) (0 ∷ 4 ∷ 0 ∷ 0 ∷ 0 ∷ []) (4 ∷ 3 ∷ 2 ∷ 2 ∷ 1 ∷ [])
    (20 ∷ 10 ∷ 9 ∷ 1 ∷ 1 ∷ [])
    (0 ∷ 0 ∷ 0 ∷ 0 ∷ 0 ∷ []))
    (2 ∷ 0 ∷ 2 ∷ 1 ∷ [])
    (90 ∷ 91 ∷ 92 ∷ 93 ∷ 94 ∷ [])
    (80 ∷ 81 ∷ 82 ∷ 83 ∷ [])
    (70 ∷ 71 ∷ 72 ∷ 73 ∷ [])

abbrev pub alone : List ℕ → Room
alone ns =
    room (subjobs (1 ∷ []) (1 ∷ []) (0 ∷ []) (1 ∷ []) (1 ∷ []) (0 ∷ [])) ns (9 ∷ []) (replicate (length ns) 8) (replicate (length ns) 7)

abbrev pub long : Room
long =
    room
    (subjobs (places 129) (places 129) (replicate 129 0) (replicate 129 1) (replicate 129 1_000) (replicate 129 0))
    (129 ∷ [])
    (replicate 129 9)
    (8 ∷ [])
    (7 ∷ [])

pub record Cases : Type 0 where
  pub reads : judgement worked ≡ Ok tt
  pub numbers : numbers_after worked ≡ 0 ∷ 0 ∷ 5 ∷ 0 ∷ []
  -- of the third set its own place 1
  pub places : places_after worked ≡ 0 ∷ 0 ∷ 1 ∷ 0 ∷ []
  -- which keeps its stretch, and the fourth is assigned
  pub deadlines : deadlines_after worked ≡ 4 ∷ 7 ∷ 92 ∷ 93 ∷ 1 ∷ []
  -- lengths that add up to 1 only if the sum is cut off at 32 bits
  pub wraps : judgement (alone (4_294_967_295 ∷ 2 ∷ [])) ≡ Err Lengths
  -- 32 sets are read, 33 are not; and if the lengths do not add up either, it is number 1
  pub thirty_two : numbers_after (alone (1 ∷ replicate 31 0)) ≡ replicate 32 0
  pub thirty_three : judgement (alone (1 ∷ replicate 32 0)) ≡ Err TooLarge
  pub neither : judgement (alone (2 ∷ replicate 32 0)) ≡ Err Lengths
  -- a set of 129 is that set's number 2
  pub too_many : numbers_after long ≡ 2 ∷ []
  pub stays : deadlines_after long ≡ replicate 129 9
