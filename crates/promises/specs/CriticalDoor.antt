-- What `charoktan_critical` returns and leaves, in the numbers of RULES.
--
--   WholeGraph es bs out == es are whole executions of 4 bytes, bs whole arcs of 12, and out has as many bytes as es
--   room es              == a result list with a place for each execution
--   DoorCriticalSays es bs out n l == RULES has it return n and leave the bytes l in place of out
--   DoorFinds            == it does just that
--   GraphToldApart       == a number that is returned holds number and place of a refusal in its lower 16 bits and above them
--   DoorHandsOn          == the bytes that it wrote, read back, are the critical times
use Rattle.std.specs.Prelude.{ℕ, ◌+◌, ◌*◌, ◌/◌, ◌%◌, ◌<◌, List, ◌∷◌, ◌≢◌, ◌≡◌, ℤ, pos, length, replicate}
use Rattle.charoktan.specs.Records.{words, encoded, graph_of}
use Rattle.charoktan.specs.Answers.{found, found_bytes}
use Rattle.promises.specs.Critical.{CriticalSays, Found}

abbrev pub WholeGraph : (es bs out : List ℕ) → Type 0
WholeGraph es bs out = (length es % 4 ≡ 0) × (length bs % 12 ≡ 0) × (length out ≡ length es)

abbrev pub room : List ℕ → List ℕ
room es = replicate (length es / 4) 0

pub data DoorCriticalSays (es bs out : List ℕ) : ℕ → List ℕ → Type 0 where
  -- 1: a length that does not fit; every byte stays
  lengths : (WholeGraph es bs out → ⊥) → DoorCriticalSays es bs out 1 out
  -- a refusal of `critical` on the graph: its number plus 65,536 times the place; every byte stays
  refused :
      {n p : ℕ} {vs : List ℤ} {l : List ℕ}
      → WholeGraph es bs out
      → CriticalSays (graph_of es bs) (room es) (pos n ∷ pos p ∷ vs) l
      → n ≢ 0
      → DoorCriticalSays es bs out (n + 65_536 * p) out
  -- accepted: 0, and every critical time in 4 bytes
  accepted :
      {vs : List ℤ} {ws : List ℕ}
      → WholeGraph es bs out
      → CriticalSays (graph_of es bs) (room es) (pos 0 ∷ vs) ws
      → DoorCriticalSays es bs out 0 (encoded ws)

abbrev pub DoorFinds : Type 0
DoorFinds =
    (es bs out : List ℕ)
    → DoorCriticalSays es bs out (found es bs (length out)) (found_bytes es bs out)
    × ((n : ℕ) (l : List ℕ) → DoorCriticalSays es bs out n l → (n ≡ found es bs (length out)) × (l ≡ found_bytes es bs out))

-- Number and place of a refusal are told apart again, and the place is one of 1,024.
abbrev pub GraphToldApart : Type 0
GraphToldApart =
    (es bs out l : List ℕ) (n p : ℕ) (vs : List ℤ)
    → WholeGraph es bs out
    → n ≢ 0
    → CriticalSays (graph_of es bs) (room es) (pos n ∷ pos p ∷ vs) l
    → (found es bs (length out) % 65_536 ≡ n) × (found es bs (length out) / 65_536 ≡ p) × (p < 1_024)

abbrev pub DoorHandsOn : Type 0
DoorHandsOn =
    (es bs out : List ℕ)
    → found es bs (length out) ≡ 0
    → Found (graph_of es bs) (words (found_bytes es bs out) (length es / 4))
