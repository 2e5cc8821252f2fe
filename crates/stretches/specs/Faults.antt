-- What is asked of a room, list by list: what a room is that is read, and what one is that is refused. A law
-- (`read_exactly`, `refused_exactly`) says that the judgement is just this.
--
--   Whole R     == lists of one kind are of one length, and the lengths add up
--   Few R       == at most 32 sets and 4,096 places
--   Fit R       == the room is read
--   Faulty R r  == the room is refused for r
use Rattle.std.specs.Prelude.{◌≤◌, ◌≡◌, eqb, length}
use Rattle.lists.specs.Places.{total}
use Rattle.subjobs.specs.declared.Reason.{Reason}
use Rattle.subjobs.specs.declared.Reason.TheVariants.{Lengths, TooLarge}
use Rattle.subjobs.specs.Faults.{OneLength}
use Rattle.subjobs.specs.Sets.{size}
use Rattle.stretches.specs.Answers.{Room}

pub record Whole (R : Room) : Type 0 where
  pub lists : OneLength R.sets (eqb (length R.deadlines) (size R.sets))
  pub numbers : length R.numbers ≡ length R.lengths
  pub places : length R.places ≡ length R.lengths
  pub sum : total R.lengths ≡ size R.sets

pub record Few (R : Room) : Type 0 where
  pub sets : length R.lengths ≤ 32
  pub places : size R.sets ≤ 4_096

pub record Fit (R : Room) : Type 0 where
  pub whole : Whole R
  pub few : Few R

pub data Faulty (R : Room) : Reason → Type 0 where
  -- 1: lists of one kind differ in length, or the lengths do not add up
  lengths : (Whole R → ⊥) → Faulty R Lengths
  -- 22, after 1: more than 32 sets or more than 4,096 places
  large : Whole R → (Few R → ⊥) → Faulty R TooLarge
