-- The format of a table as RULES tells it. That the reader of Reading.antt finds in every text what is said here, and
-- nothing else, is a theorem.
--
--   header             == the first line
--   fields             == how many fields a record has
--   Rows               == the records of a table, each the list of its numbers in the header's order
--   Parsed             == what a text is read as: all its records, or the reason for which it is refused
--   Records s rows t   == s begins with the lines of these records, and t is what follows them
--   Begins text rows t == a text begins with the header and the lines of these records, and t is what follows them
--   Reads text p       == the text is read as p
use Rattle.std.specs.Prelude.{ℕ, ◌+◌, ◌<◌, ◌≤◌, List, [], ◌∷◌, ◌++◌, ◌≢◌, ◌≡◌, length}
use Rattle.text.specs.Format.{Line, First}
use Rattle.subjobs.specs.declared.Reason.{Reason}
use Rattle.subjobs.specs.declared.Reason.TheVariants as reason

-- job,subtask,release,execution,deadline,critical
abbrev pub header : List ℕ
header =
    106 ∷ 111 ∷ 98 ∷ 44 ∷
    115 ∷ 117 ∷ 98 ∷ 116 ∷ 97 ∷ 115 ∷ 107 ∷ 44 ∷
    114 ∷ 101 ∷ 108 ∷ 101 ∷ 97 ∷ 115 ∷ 101 ∷ 44 ∷
    101 ∷ 120 ∷ 101 ∷ 99 ∷ 117 ∷ 116 ∷ 105 ∷ 111 ∷ 110 ∷ 44 ∷
    100 ∷ 101 ∷ 97 ∷ 100 ∷ 108 ∷ 105 ∷ 110 ∷ 101 ∷ 44 ∷
    99 ∷ 114 ∷ 105 ∷ 116 ∷ 105 ∷ 99 ∷ 97 ∷ 108 ∷ []

-- A record has six fields.
abbrev pub fields : ℕ
fields = 6

abbrev pub Rows : Type 0
Rows = List (List ℕ)

pub data Parsed : Type 0 where
  records : Rows → Parsed
  refused : Reason → Parsed

pub data Records : List ℕ → Rows → List ℕ → Type 0 where
  none : {s : List ℕ} → Records s [] s
  more : {s t u row : List ℕ} {rows : Rows} → Records s rows t → First fields t row u → Records s (rows ++ (row ∷ [])) u

pub record Begins (text : List ℕ) (rows : Rows) (t : List ℕ) : Type 0 where
  pub short : length text ≤ 16_384
  pub rest : List ℕ
  pub first : Line header text rest
  pub read : Records rest rows t

-- Text is judged 10, then 11, then line by line.
pub data Reads : List ℕ → Parsed → Type 0 where
  -- 10: table text over 16,384 bytes
  long : {text : List ℕ} → 16_384 < length text → Reads text (refused reason.TextTooLong)
  -- 11: first line is not the header
  headless : {text : List ℕ} → length text ≤ 16_384 → ((t : List ℕ) → Line header text t → ⊥) → Reads text (refused reason.Header)
  -- 12: the first malformed record; the record at place p is line p + 2
  malformed :
      {text t : List ℕ} {rows : Rows}
      → Begins text rows t
      → length rows < 128
      → t ≢ []
      → ((row u : List ℕ) → First fields t row u → ⊥)
      → Reads text (refused (reason.Malformed (length rows + 2)))
  -- 2: the start of a 129th record, any byte after the 128th one's CR LF, its own text unread
  many : {text t : List ℕ} {rows : Rows} → Begins text rows t → length rows ≡ 128 → t ≢ [] → Reads text (refused reason.TooMany)
  -- a table of these records
  table : {text : List ℕ} {rows : Rows} → Begins text rows [] → length rows ≤ 128 → Reads text (records rows)
