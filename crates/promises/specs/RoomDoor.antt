-- What `charoktan_room` returns and leaves, in the numbers of RULES.
--
--   WholeRoom B         == whole records and lengths, 4 bytes of deadlines for each record, as many bytes of numbers and of
--                          places as of lengths, and lengths that add up
--   SmallRoom B         == at most 32 sets and 4,096 records
--   records_of B k       == the records of set k
--   bytes_of B k ds      == its stretch of the deadlines
--   DoorSetSays bs out n p l == one call of charoktan_assign on the records bs gives number n and place p, and leaves l for out
--   DoorRoomSays B n out ks ps == RULES has it return n and leave these bytes
--   DoorRooms           == it does just that
--   DoorCallPerSet      == number, place and bytes of a set are those of one call of charoktan_assign
--   DoorAcceptedSets    == the bytes of a set with number 0, read back, are deadlines with which `assign` accepts it
--   room_of B            == the room whose lists the bytes hold
--   DoorIsRoom          == what comes of whole bytes, read back, is what `room::assign` makes of these lists
--   DoorRoomsAgree      == two rooms that agree on one set's bytes agree on its number, place and deadlines
use Rattle.std.specs.Prelude.{ℕ, ◌*◌, ◌/◌, ◌%◌, ◌<◌, ◌≤◌, List, ◌∷◌, ◌≢◌, ◌≡◌, ℤ, pos, length}
use Rattle.lists.specs.Places.{total}
use Rattle.subjobs.specs.Judging.{values}
use Rattle.stretches.specs.Stretches.{stretch, start}
use Rattle.stretches.specs.Answers as rooms
use Rattle.stretches.specs.Answers.{Room}
use Rattle.charoktan.specs.Records.{records, encoded}
use Rattle.charoktan.specs.Answers.{assigned, assigned_bytes}
use Rattle.charoktan.specs.Rooms.{RoomBytes, words_of, lengths_of, roomed, deadline_bytes, number_bytes, place_bytes}
use Rattle.promises.specs.Words.{Number, Assigned, at}
use Rattle.promises.specs.Assign.{AssignSays}
use Rattle.promises.specs.Door.{Whole, room}

pub record WholeRoom (B : RoomBytes) : Type 0 where
  pub records : Whole B.records B.deadlines
  pub lengths : length B.lengths % 4 ≡ 0
  pub numbers : length B.numbers ≡ length B.lengths
  pub places : length B.places ≡ length B.lengths
  pub sum : total (lengths_of B) ≡ length B.records / 24

pub record SmallRoom (B : RoomBytes) : Type 0 where
  pub sets : length B.lengths / 4 ≤ 32
  pub places : length B.records / 24 ≤ 4_096

-- Set k starts behind those before it: 24 bytes of records for each sub-job, 4 of deadlines.
abbrev pub records_of : RoomBytes → ℕ → List ℕ
records_of B k = stretch (24 * start (lengths_of B) k) (24 * at (lengths_of B) k) B.records

abbrev pub bytes_of : RoomBytes → ℕ → List ℕ → List ℕ
bytes_of B k ds = stretch (4 * start (lengths_of B) k) (4 * at (lengths_of B) k) ds

pub data DoorSetSays (bs out : List ℕ) : (n p : ℕ) → List ℕ → Type 0 where
  -- a refusal of the assignment on the records: its number, and its place from the start of that set; every byte stays
  refused :
      {n p : ℕ} {vs : List ℤ} {l : List ℕ}
      → AssignSays (records bs) (room bs) (pos n ∷ pos p ∷ vs) l
      → n ≢ 0
      → DoorSetSays bs out n p out
  -- accepted: number 0 and place 0, and every deadline in 4 bytes
  placed : {vs : List ℤ} {ds : List ℕ} → AssignSays (records bs) (room bs) (pos 0 ∷ vs) ds → DoorSetSays bs out 0 0 (encoded ds)

pub data DoorRoomSays (B : RoomBytes) : ℕ → (out ks ps : List ℕ) → Type 0 where
  -- 1: a length that does not fit, or lengths that do not add up; every byte stays
  lengths : (WholeRoom B → ⊥) → DoorRoomSays B 1 B.deadlines B.numbers B.places
  -- 22, after 1: more than 32 sets or more than 4,096 records; every byte stays
  large : WholeRoom B → (SmallRoom B → ⊥) → DoorRoomSays B 22 B.deadlines B.numbers B.places
  -- read: 0; number and place of every set in 4 bytes each, and in its own stretch what comes of it
  read :
      {out : List ℕ} (ks ps : List ℕ)
      → WholeRoom B
      → SmallRoom B
      → length out ≡ length B.deadlines
      → length ks ≡ length B.lengths / 4
      → length ps ≡ length B.lengths / 4
      → ((k : ℕ)
      → k < length B.lengths / 4
      → DoorSetSays (records_of B k) (bytes_of B k B.deadlines) (at ks k) (at ps k) (bytes_of B k out))
      → DoorRoomSays B 0 out (encoded ks) (encoded ps)

abbrev pub DoorRooms : Type 0
DoorRooms =
    (B : RoomBytes)
    → DoorRoomSays B (roomed B) (deadline_bytes B) (number_bytes B) (place_bytes B)
    × ((n : ℕ) (out ks ps : List ℕ)
    → DoorRoomSays B n out ks ps
    → (n ≡ roomed B) × (out ≡ deadline_bytes B) × (ks ≡ number_bytes B) × (ps ≡ place_bytes B))

-- The outcome equals one call of charoktan_assign per set, in order: the number and the place in what it returns.
abbrev pub DoorCallPerSet : Type 0
DoorCallPerSet =
    (B : RoomBytes) (k : ℕ)
    → roomed B ≡ 0
    → k < length B.lengths / 4
    → (at (words_of (number_bytes B)) k ≡ assigned (records_of B k) (length (bytes_of B k B.deadlines)) % 65_536)
    × (at (words_of (place_bytes B)) k ≡ assigned (records_of B k) (length (bytes_of B k B.deadlines)) / 65_536)
    × (bytes_of B k (deadline_bytes B) ≡ assigned_bytes (records_of B k) (bytes_of B k B.deadlines))

-- so what is promised of an accepted set holds of it
abbrev pub DoorAcceptedSets : Type 0
DoorAcceptedSets =
    (B : RoomBytes) (k : ℕ)
    → roomed B ≡ 0
    → k < length B.lengths / 4
    → at (words_of (number_bytes B)) k ≡ 0
    → Assigned (records (records_of B k)) (words_of (bytes_of B k (deadline_bytes B)))

abbrev pub room_of : RoomBytes → Room
room_of B =
    rooms.room (records B.records) (lengths_of B) (words_of B.deadlines) (words_of B.numbers) (words_of B.places)

abbrev pub DoorIsRoom : Type 0
DoorIsRoom =
    (B : RoomBytes)
    → WholeRoom B
    → Number (roomed B) (values (rooms.judgement (room_of B)))
    × (words_of (deadline_bytes B) ≡ rooms.deadlines_after (room_of B))
    × (words_of (number_bytes B) ≡ rooms.numbers_after (room_of B))
    × (words_of (place_bytes B) ≡ rooms.places_after (room_of B))

-- whatever the other sets are, and wherever the set stands
abbrev pub DoorRoomsAgree : Type 0
DoorRoomsAgree =
    (B B' : RoomBytes) (k k' : ℕ)
    → roomed B ≡ 0
    → roomed B' ≡ 0
    → k < length B.lengths / 4
    → k' < length B'.lengths / 4
    → records_of B k ≡ records_of B' k'
    → bytes_of B k B.deadlines ≡ bytes_of B' k' B'.deadlines
    → (at (words_of (number_bytes B)) k ≡ at (words_of (number_bytes B')) k')
    × (at (words_of (place_bytes B)) k ≡ at (words_of (place_bytes B')) k')
    × (bytes_of B k (deadline_bytes B) ≡ bytes_of B' k' (deadline_bytes B'))
