-- A room at the door: what `charoktan_room` returns and leaves, by `charoktan_assign`'s own numbers and bytes, one set after
-- another.
--
--   RoomBytes       == what is lent: records and lengths; deadlines, numbers and places as found
--   lengths_of B     == the lengths that the bytes hold
--   code_at B a n    == what charoktan_assign returns for the set of n records from the a-th on
--   bytes_at B a n   == what it leaves in that set's stretch of the deadlines
--   fitting_room bs ls m k p == the lengths fit, for m bytes of deadlines, k of numbers and p of places
--   roomed B        == what charoktan_room returns
--   deadline_bytes B, number_bytes B, place_bytes B == what the three lists hold afterwards
--   RoomsBytes B r out ks ps == what `charoktan_room` is held to: the number r, and these three lists
--   Stretch, Reads, AllRoomed == what its parts ask and tell
use Rattle.std.specs.Prelude.{ℕ, ◌+◌, ◌*◌, ◌/◌, ◌%◌, ◌≤◌, Bool, cond, ◌&&◌, ◌≡◌, eqb, length}
use mathlib.Core.List.{List, flatten}
use Rattle.lists.specs.Places.{total}
use Rattle.stretches.specs.Stretches.{stretch, each}
use Rattle.stretches.specs.Answers.{few}
use Rattle.charoktan.specs.Records.{count, words, encoded, fitting}
use Rattle.charoktan.specs.Answers.{assigned, assigned_bytes}

pub record RoomBytes : Type 0 where
  pub records : List ℕ
  pub lengths : List ℕ
  pub deadlines : List ℕ
  pub numbers : List ℕ
  pub places : List ℕ

abbrev pub room_bytes : (records lengths deadlines numbers places : List ℕ) → RoomBytes
room_bytes bs ls out ks ps = record { records = bs; lengths = ls; deadlines = out; numbers = ks; places = ps }

-- lengths 4 bytes each
abbrev pub words_of : List ℕ → List ℕ
words_of ls = words ls (length ls / 4)

abbrev pub lengths_of : RoomBytes → List ℕ
lengths_of B = words_of B.lengths

-- The outcome equals one call of charoktan_assign per set, in order.
abbrev pub code_at : List ℕ → (a n : ℕ) → ℕ
code_at bs a n = assigned (stretch (24 * a) (24 * n) bs) (4 * n)

abbrev pub bytes_at : (bs out : List ℕ) → (a n : ℕ) → List ℕ
bytes_at bs out a n = assigned_bytes (stretch (24 * a) (24 * n) bs) (stretch (4 * a) (4 * n) out)

-- 1: a length that does not fit, or lengths that do not add up
abbrev pub fitting_room : (bs ls : List ℕ) → (deadlines numbers places : ℕ) → Bool
fitting_room bs ls m k p =
    fitting bs m && eqb (length ls % 4) 0 && eqb k (length ls) && eqb p (length ls) && eqb (total (words_of ls)) (count bs)

-- 22, after 1
unfoldable pub roomed : RoomBytes → ℕ
roomed B =
    cond (fitting_room B.records B.lengths (length B.deadlines) (length B.numbers) (length B.places))
    (cond (few (length B.lengths / 4) (count B.records)) 0 22)
    1

-- both before anything is written
abbrev pub if_read : RoomBytes → (new old : List ℕ) → List ℕ
if_read B new old = cond (eqb (roomed B) 0) new old

unfoldable pub deadline_bytes : RoomBytes → List ℕ
deadline_bytes B = if_read B (flatten (each (bytes_at B.records B.deadlines) 0 (lengths_of B))) B.deadlines

unfoldable pub number_bytes : RoomBytes → List ℕ
number_bytes B = if_read B (encoded (each (λ a n. code_at B.records a n % 65_536) 0 (lengths_of B))) B.numbers

unfoldable pub place_bytes : RoomBytes → List ℕ
place_bytes B = if_read B (encoded (each (λ a n. code_at B.records a n / 65_536) 0 (lengths_of B))) B.places

pub record RoomsBytes (B : RoomBytes) (r : ℕ) (out ks ps : List ℕ) : Type 0 where
  pub number : r ≡ roomed B
  pub deadlines : out ≡ deadline_bytes B
  pub numbers : ks ≡ number_bytes B
  pub places : ps ≡ place_bytes B

-- The n records from the a-th on.
pub record Stretch (bs out : List ℕ) (a n : ℕ) : Type 0 where
  pub inside : a + n ≤ count bs
  pub few : count bs ≤ 4_096
  pub results : length out ≡ 4 * count bs

-- A room that is read.
pub record Reads (bs ls out ks ps : List ℕ) : Type 0 where
  pub lists : Stretch bs out 0 0
  pub sum : total (words_of ls) ≡ count bs
  pub few : length ls / 4 ≤ 32
  pub numbers : length ks ≡ 4 * (length ls / 4)
  pub places : length ps ≡ 4 * (length ls / 4)

pub record AllRoomed (bs ls out out' ks ps : List ℕ) : Type 0 where
  pub deadlines : out' ≡ flatten (each (bytes_at bs out) 0 (words_of ls))
  pub numbers : ks ≡ encoded (each (λ a n. code_at bs a n % 65_536) 0 (words_of ls))
  pub places : ps ≡ encoded (each (λ a n. code_at bs a n / 65_536) 0 (words_of ls))
