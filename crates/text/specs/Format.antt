-- Text of numbers as RULES writes it down, with no order of reading in it. That the reader of Reading.antt takes exactly
-- these texts, and finds these values in them, is a theorem.
--
--   Digit b         == b is the byte of a decimal digit
--   value ds        == the value of a run of digits
--   Number ds v     == 1 to 10 decimal digits, leading zeros allowed, of value v at most 4,294,967,295
--   Field w v       == a number, bare or in double quotes
--   Record k w vs   == k fields of the values vs, parted by commas
--   Line w s t      == s begins with the line w, and t is what follows that line
--   First k s vs t  == the first line of s is a record of k fields of the values vs, and t is what follows that line
use Rattle.std.specs.Prelude.{ℕ, suc, ◌+◌, ◌*◌, ◌-◌, ◌≤◌, List, [], ◌∷◌, ◌++◌, ◌⊎◌, ◌≡◌, length}
use Rattle.lists.specs.Places.{Every}

abbrev pub Digit : ℕ → Type 0
Digit b = (48 ≤ b) × (b ≤ 57)

-- after digits of value v
unfoldable pub value_from : ℕ → List ℕ → ℕ
value_from v [] = v
value_from v (d ∷ ds) = value_from (v * 10 + (d - 48)) ds

abbrev pub value : List ℕ → ℕ
value ds = value_from 0 ds

-- A field is 1 to 10 decimal digits, leading zeros allowed, of value at most 4,294,967,295, bare or in double quotes.
pub record Number (ds : List ℕ) (v : ℕ) : Type 0 where
  pub digits : Every Digit ds
  pub some : 1 ≤ length ds
  pub few : length ds ≤ 10
  pub is : value ds ≡ v
  pub small : v ≤ 4_294_967_295

pub data Field : List ℕ → ℕ → Type 0 where
  bare : {ds : List ℕ} {v : ℕ} → Number ds v → Field ds v
  quoted : {ds : List ℕ} {v : ℕ} → Number ds v → Field (34 ∷ (ds ++ (34 ∷ []))) v

pub data Record : ℕ → List ℕ → List ℕ → Type 0 where
  last : {w : List ℕ} {v : ℕ} → Field w v → Record 1 w (v ∷ [])
  more : {k : ℕ} {w s : List ℕ} {v : ℕ} {vs : List ℕ} → Field w v → Record k s vs → Record (suc k) (w ++ (44 ∷ s)) (v ∷ vs)

-- Lines end with CR LF; the last may end with the text instead.
abbrev pub Line : (w s t : List ℕ) → Type 0
Line w s t = (s ≡ w ++ (13 ∷ 10 ∷ t)) ⊎ ((s ≡ w) × (t ≡ []))

pub record First (k : ℕ) (s vs t : List ℕ) : Type 0 where
  pub line : List ℕ
  pub is : Record k line vs
  pub stands : Line line s t
