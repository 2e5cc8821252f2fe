-- The text of a table, read.
--
--   records_from n rows text i == the rows before i and at most n records from i on
--   read text                 == the records of a text, or why it is refused
--   column k rows             == the k-th field of each record
--   set_of rows                == the set of the sub-jobs that the records tell
use Rattle.std.specs.Prelude.{ℕ, zero, suc, ◌+◌, cond, List, [], ◌∷◌, ◌++◌, Option, Some, None, map, ltb, leb, length, get_or}
use Rattle.text.specs.Reading.{record_at, after_line}
use Rattle.subjobs.specs.declared.Reason.TheVariants as reason
use Rattle.subjobs.specs.Sets.{Subjobs, subjobs}
use Rattle.table.specs.Format.{header, fields, Rows, Parsed, records, refused}

abbrev pub on_end : Option ℕ → Parsed → (ℕ → Parsed) → Parsed
on_end (Some i) p f = f i
on_end None p f = p

-- Line by line: the first malformed record gives 12, and the start of a 129th record gives 2, its own text unread.
unfoldable pub records_from : ℕ → Rows → List ℕ → ℕ → Parsed
records_from zero rows text i = cond (leb (length text) i) (records rows) (refused reason.TooMany)
records_from (suc left) rows text i =
    let r = record_at fields text i in
    cond (leb (length text) i) (records rows)
    (on_end r.end (refused (reason.Malformed (length rows + 2))) (λ j. records_from left (rows ++ (r.values ∷ [])) text j))

-- Text is judged 10, then 11, then line by line.
unfoldable pub read : List ℕ → Parsed
read text =
    cond (ltb 16_384 (length text)) (refused reason.TextTooLong)
    (on_end (after_line header text) (refused reason.Header) (λ i. records_from 128 [] text i))

abbrev pub column : ℕ → Rows → List ℕ
column k rows = map (λ (row : List ℕ). get_or row k 0) rows

-- The header's order.
abbrev pub set_of : Rows → Subjobs
set_of rows = subjobs (column 0 rows) (column 1 rows) (column 2 rows) (column 3 rows) (column 4 rows) (column 5 rows)
