-- Text as it is read. Definitions go by the place of a byte in the text.
--
--   byte_at text i       == the byte at i; past the end 0, which no record has
--   digits v n i bs     == the digits that bs begins with, after n digits of value v; bs begins at i
--   Cell                == a field's number and where its text ends, if it has one
--   number_at text i     == the number that begins at i
--   field_at text i      == the field that begins at i
--   cell_at n text i     == the same with the comma behind it, if n fields follow it and not none
--   line_end text i      == where the next line begins, if a line ends at i
--   record_at k text i   == the record of k fields that begins at i: the values read and where the next line begins
--   after_line w text    == where the second line begins, if the first is w
--   over vs l           == l with its first numbers put over by vs
--   Recorded ..         == what `record_at` is held to
use Rattle.std.specs.Prelude.{ℕ, zero, suc, ◌+◌, ◌*◌, ◌-◌, Bool, true, false, cond, ◌&&◌, ◌||◌, List, [], ◌∷◌, ◌++◌, ◌≡◌, Option, Some, None, ltb, leb, eqb, length, get_or, drop}

abbrev pub byte_at : List ℕ → ℕ → ℕ
byte_at text i = get_or text i 0

-- A run of decimal digits: its value, how many digits it has, and where it ends.
pub record Digits : Type 0 where
  pub value : ℕ
  pub count : ℕ
  pub end : ℕ

unfoldable pub digits : ℕ → ℕ → ℕ → List ℕ → Digits
digits v n i [] = record { value = v; count = n; end = i }
digits v n i (b ∷ bs) =
    cond (ltb b 48 || ltb 57 b)
    (record { value = v; count = n; end = i })
    (digits (v * 10 + (b - 48)) (n + 1) (i + 1) bs)

-- A field's number and where its text ends.
abbrev pub Cell : Type 0
Cell = Option (ℕ × ℕ)

-- 1 to 10 decimal digits, leading zeros allowed, of value at most 4,294,967,295
unfoldable pub number : Digits → Cell
number r =
    cond (leb 1 r.count && leb r.count 10 && leb r.value 4_294_967_295)
    (Some (r.value, r.end))
    None

abbrev pub number_at : List ℕ → ℕ → Cell
number_at text i = number (digits 0 0 i (drop i text))

-- the same number, if this byte stands behind it
abbrev pub followed : List ℕ → ℕ → Cell → Cell
followed text b (Some (v, i)) = cond (eqb (byte_at text i) b) (Some (v, i + 1)) None
followed text b None = None

-- bare or in double quotes
unfoldable pub field_at : List ℕ → ℕ → Cell
field_at text i = cond (eqb (byte_at text i) 34) (followed text 34 (number_at text (i + 1))) (number_at text i)

unfoldable pub cell_at : ℕ → List ℕ → ℕ → Cell
cell_at n text i = cond (eqb n 0) (field_at text i) (followed text 44 (field_at text i))

-- Lines end with CR LF; the last may end with the text instead.
unfoldable pub line_end : List ℕ → ℕ → Option ℕ
line_end text i =
    cond (leb (length text) i) (Some i)
    (cond (eqb (byte_at text i) 13 && eqb (byte_at text (i + 1)) 10) (Some (i + 2)) None)

-- The values are those before the first field that is malformed; then there is no next line.
pub record Fields : Type 0 where
  pub values : List ℕ
  pub end : Option ℕ

abbrev pub on_cell : Cell → (ℕ → ℕ → Fields) → Fields
on_cell (Some (v, i)) f = f v i
on_cell None f = record { values = []; end = None }

-- Fields, parted by commas.
unfoldable pub record_at : ℕ → List ℕ → ℕ → Fields
record_at zero text i = record { values = []; end = line_end text i }
record_at (suc n) text i =
    on_cell (cell_at n text i) (λ v j. let r = record_at n text j in record { values = v ∷ r.values; end = r.end })

unfoldable pub starts : List ℕ → List ℕ → Bool
starts [] text = true
starts (w ∷ ws) [] = false
starts (w ∷ ws) (b ∷ bs) = cond (eqb b w) (starts ws bs) false

unfoldable pub after_line : List ℕ → List ℕ → Option ℕ
after_line w text = cond (starts w text) (line_end text (length w)) None

abbrev pub over : List ℕ → List ℕ → List ℕ
over vs l = vs ++ drop (length vs) l

-- The end of a record, and what the list of as many numbers as it has fields holds afterwards: the values that were read,
-- and what it held before where none was.
pub record Recorded (text : List ℕ) (at : ℕ) (out : List ℕ) (r : Option ℕ) (out' : List ℕ) : Type 0 where
  pub end : r ≡ (record_at (length out) text at).end
  pub values : out' ≡ over (record_at (length out) text at).values out
