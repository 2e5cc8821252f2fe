-- A table written from any records reads back as those records: each field in a style of its own, and the last line with
-- or without its CR LF.
--
--   lines_text st k rows e == the records from place k on, the record at place k in the styles st k; e says whether the
--                            last line has its CR LF
--   table_text st rows e   == the whole table
--   Fits st k rows        == each record has as many numbers as the header, and they fit their styles
use Prim.Native.Nat.{ℕ, suc, ◌≤◌}
use mathlib.Core.Bool.{Bool, true, false, cond}
use mathlib.Core.List.{List, [], ◌∷◌, ◌++◌, append-nil}
use mathlib.Core.Logic.{inl, inr}
use mathlib.Core.Path.{◌≡◌, refl}
use native.Mathlib.Omega.{arith}
use lib.ListN.{length}
use Rattle.text.specs.Writing.{crlf}
use Rattle.text.specs.Format.{Line, First}
use Rattle.text.proofs.RoundTrip.{Style, record_text, Fit, record_written}
use Rattle.table.specs.Format.{header, fields, Rows, records, Records, none, more, table}
use Rattle.table.specs.Reading.{read}
use Rattle.table.proofs.Exactly.{told_read}

abbrev pub lines_text : (ℕ → ℕ → Style) → ℕ → Rows → Bool → List ℕ
lines_text st k [] e = cond e crlf []
lines_text st k (row ∷ rows) e = 13 ∷ 10 ∷ (record_text (st k) 0 row ++ lines_text st (suc k) rows e)

abbrev pub table_text : (ℕ → ℕ → Style) → Rows → Bool → List ℕ
table_text st rows e = header ++ lines_text st 0 rows e

abbrev pub Fits : (ℕ → ℕ → Style) → ℕ → Rows → Type 0
Fits st k [] = Unit {0}
Fits st k (row ∷ rows) = (length row ≡ fields) × Fit (st k) 0 row × Fits st (suc k) rows

-- What follows a line: the records behind its CR LF.
behind : (ℕ → ℕ → Style) → ℕ → Rows → Bool → List ℕ
behind st k [] e = []
behind st k (row ∷ rows) e = record_text (st k) 0 row ++ lines_text st (suc k) rows e

line_behind : (w : List ℕ) (st : ℕ → ℕ → Style) (k : ℕ) (rows : Rows) (e : Bool) → Line w (w ++ lines_text st k rows e) (behind st k rows e)
unfolding behind
line_behind w st k [] true = inl refl
line_behind w st k [] false = inr (append-nil w, refl)
line_behind w st k (row ∷ rows) e = inl refl

records_cons : {s t u row : List ℕ} {rows : Rows} → First fields s row t → Records t rows u → Records s (row ∷ rows) u
records_cons f none = more none f
records_cons f (more r g) = more (records_cons f r) g

rows_written : (st : ℕ → ℕ → Style) (k : ℕ) (rows : Rows) (e : Bool) → Fits st k rows → Records (behind st k rows e) rows []
unfolding behind
rows_written st k [] e h = none
rows_written st k ((v ∷ vs) ∷ rows) e h =
    let line = record_text (st k) 0 (v ∷ vs) in
    records_cons
    (record { line = line; is = rw h.0 at (record_written (st k) 0 v vs h.1); stands = line_behind line st (suc k) rows e })
    (rows_written st (suc k) rows e h.2)
rows_written st k ([] ∷ rows) e h = absurd (omega (arith, h.0))

-- A table written from any records reads back as those records.
pub reads_back :
    (st : ℕ → ℕ → Style) (rows : Rows) (e : Bool)
    → Fits st 0 rows
    → length rows ≤ 128
    → length (table_text st rows e) ≤ 16_384
    → read (table_text st rows e) ≡ records rows
reads_back st rows e h m l =
    told_read
    (table (record { short = l; rest = behind st 0 rows e; first = line_behind header st 0 rows e; read = rows_written st 0 rows e h }) m)
