-- What the engine's door returns and leaves, in the numbers of RULES.
--
--   Whole bs ds        == the bytes are whole records of 24, and ds has 4 bytes for each
--   DoorAssignSays bs out n l == RULES has charoktan_assign return n and leave the bytes l in place of out
--   DoorCheckSays bs ds n     == RULES has charoktan_check return n
--   DoorAssigns, DoorChecks   == each does just that
--   ToldApart          == a number that is returned holds number and place of a refusal in its lower 16 bits and above them
--   DoorAgrees         == the door's checker accepts what the door's assignment wrote
use Rattle.std.specs.Prelude.{ℕ, ◌+◌, ◌*◌, ◌/◌, ◌%◌, ◌<◌, List, ◌∷◌, ◌≢◌, ◌≡◌, ℤ, pos, length, replicate}
use Rattle.charoktan.specs.Records.{count, records, encoded, words}
use Rattle.charoktan.specs.Answers.{assigned, assigned_bytes, checked}
use Rattle.promises.specs.Assign.{AssignSays}
use Rattle.promises.specs.Check.{CheckSays}

abbrev pub Whole : (bs ds : List ℕ) → Type 0
Whole bs ds = (length bs % 24 ≡ 0) × (length ds ≡ 4 * (length bs / 24))

-- a result list with a place for each record
abbrev pub room : List ℕ → List ℕ
room bs = replicate (count bs) 0

pub data DoorAssignSays (bs out : List ℕ) : ℕ → List ℕ → Type 0 where
  -- 1: a length that is not a multiple of 24, or results that are not 4 bytes per sub-job; every byte stays
  lengths : (Whole bs out → ⊥) → DoorAssignSays bs out 1 out
  -- a refusal of the assignment on the records: its number plus 65,536 times the place; every byte stays
  refused :
      {n p : ℕ} {vs : List ℤ} {l : List ℕ}
      → Whole bs out
      → AssignSays (records bs) (room bs) (pos n ∷ pos p ∷ vs) l
      → n ≢ 0
      → DoorAssignSays bs out (n + 65_536 * p) out
  -- accepted: 0, and every deadline in 4 bytes
  placed :
      {vs : List ℤ} {ds : List ℕ}
      → Whole bs out
      → AssignSays (records bs) (room bs) (pos 0 ∷ vs) ds
      → DoorAssignSays bs out 0 (encoded ds)

pub data DoorCheckSays (bs ds : List ℕ) : ℕ → Type 0 where
  -- 1, as above
  lengths : (Whole bs ds → ⊥) → DoorCheckSays bs ds 1
  -- a refusal of the checker on the records and the proposed deadlines
  refused :
      {n p : ℕ} {vs : List ℤ}
      → Whole bs ds
      → CheckSays (records bs) (words ds (count bs)) (pos n ∷ pos p ∷ vs)
      → n ≢ 0
      → DoorCheckSays bs ds (n + 65_536 * p)
  -- accepted
  met : {vs : List ℤ} → Whole bs ds → CheckSays (records bs) (words ds (count bs)) (pos 0 ∷ vs) → DoorCheckSays bs ds 0

-- What is returned and left is what RULES says, and RULES says nothing else.
abbrev pub DoorAssigns : Type 0
DoorAssigns =
    (bs out : List ℕ)
    → DoorAssignSays bs out (assigned bs (length out)) (assigned_bytes bs out)
    × ((n : ℕ) (l : List ℕ) → DoorAssignSays bs out n l → (n ≡ assigned bs (length out)) × (l ≡ assigned_bytes bs out))

abbrev pub DoorChecks : Type 0
DoorChecks = (bs ds : List ℕ) → DoorCheckSays bs ds (checked bs ds) × ((n : ℕ) → DoorCheckSays bs ds n → n ≡ checked bs ds)

-- Number and place of a refusal are told apart again, and the place is one of 128.
abbrev pub ToldApart : Type 0
ToldApart =
    (bs ds l : List ℕ) (n p : ℕ) (vs : List ℤ)
    → Whole bs ds
    → n ≢ 0
    → (AssignSays (records bs) (room bs) (pos n ∷ pos p ∷ vs) l
    → (assigned bs (length ds) % 65_536 ≡ n) × (assigned bs (length ds) / 65_536 ≡ p) × (p < 128))
    × (CheckSays (records bs) (words ds (count bs)) (pos n ∷ pos p ∷ vs)
    → (checked bs ds % 65_536 ≡ n) × (checked bs ds / 65_536 ≡ p) × (p < 128))

-- The bytes that an accepted assignment wrote, handed back as proposed deadlines, are accepted.
abbrev pub DoorAgrees : Type 0
DoorAgrees = (bs out : List ℕ) → assigned bs (length out) ≡ 0 → checked bs (assigned_bytes bs out) ≡ 0
