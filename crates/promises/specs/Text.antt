-- What `table` answers to a text, in the numbers of RULES and byte by byte, and what is promised of that text.
--
--   refused_line n l     == the bytes `refused,` n `,` l CR LF
--   printed s ds        == the output for a set with the deadlines ds: the header and one line per sub-job
--   Tabled text rows    == the text is a table of these records
--   TableSays text o    == RULES has the output o for the text
--   TableAnswers        == the output is just that: no other number, no other line, no other byte
--   OneLineEach         == an accepted table's output is the header and one line per sub-job in input order
--   AnswerFits          == no answer is longer than the 7,203 bytes that `table` is lent
use Rattle.std.specs.Prelude.{ℕ, ◌+◌, ◌<◌, ◌≤◌, true, List, [], ◌∷◌, ◌++◌, map, ◌≢◌, ◌≡◌, length}
use Rattle.lists.specs.Places.{places}
use Rattle.subjobs.specs.declared.Field.{Field}
use Rattle.subjobs.specs.declared.Reason.TheVariants.{Range, Pair}
use Rattle.subjobs.specs.Sets.{Subjobs, size, job, subtask}
use Rattle.subjobs.specs.Terms.{terms, slack}
use Rattle.subjobs.specs.Faults.{Fit, Faulty}
use Rattle.rules.specs.Rules.{RefusedAt}
use Rattle.ticks.specs.Runs.{run}
use Rattle.text.specs.Format.{Line, First}
use Rattle.text.specs.Writing.{decimal}
use Rattle.text.specs.Lines.{lines_of}
use Rattle.table.specs.Format.{header, fields, Rows, Begins}
use Rattle.table.specs.Reading.{set_of}
use Rattle.table.specs.Writing.{line_of, out_header}
use Rattle.table.specs.Answers.{joined, answer}
use Rattle.promises.specs.Words.{Assigned, at}

-- the word refused, the number and the line, parted by commas
abbrev pub refused_line : (number line : ℕ) → List ℕ
refused_line n l =
    (114 ∷ 101 ∷ 102 ∷ 117 ∷ 115 ∷ 101 ∷ 100 ∷ 44 ∷ []) ++ ((decimal n ++ (44 ∷ [])) ++ (decimal l ++ (13 ∷ 10 ∷ [])))

-- job, subtask, local deadline, finish when every ask equals execution, slack
abbrev pub printed_line : Subjobs → List ℕ → ℕ → List ℕ
printed_line s ds i =
    line_of (job s i) (subtask s i) (at ds i) (at (run s ds s.executions).finishes i) (slack (terms s) (at ds) i)

abbrev pub printed : Subjobs → List ℕ → List ℕ
printed s ds = out_header ++ joined (printed_line s ds) (places (size s))

abbrev pub Tabled : List ℕ → Rows → Type 0
Tabled text rows = Begins text rows [] × (length rows ≤ 128)

pub data TableSays (text : List ℕ) : List ℕ → Type 0 where
  -- 10: over 16,384 bytes
  long : 16_384 < length text → TableSays text (refused_line 10 0)
  -- 11, after 10: the first line is not the header
  headless : length text ≤ 16_384 → ((t : List ℕ) → Line header text t → ⊥) → TableSays text (refused_line 11 1)
  -- 12, after these and line by line: fewer than 128 records, then a line that is none; the record at place p is line p + 2
  malformed :
      {rows : Rows} {t : List ℕ}
      → Begins text rows t
      → length rows < 128
      → t ≢ []
      → ((row u : List ℕ) → First fields t row u → ⊥)
      → TableSays text (refused_line 12 (length rows + 2))
  -- 2: any byte after the 128th record, whatever it is
  many : {rows : Rows} {t : List ℕ} → Begins text rows t → length rows ≡ 128 → t ≢ [] → TableSays text (refused_line 2 0)
  -- 3 and 4: of the set of the records
  range : {rows : Rows} {p : ℕ} {f : Field} → Tabled text rows → Faulty (set_of rows) true (Range p f) → TableSays text (refused_line 3 (p + 2))
  pair : {rows : Rows} {p : ℕ} → Tabled text rows → Faulty (set_of rows) true (Pair p) → TableSays text (refused_line 4 (p + 2))
  -- 5: step 3 of the assignment fails
  late :
      {rows : Rows} {p m : ℕ}
      → Tabled text rows
      → Fit (set_of rows) true
      → RefusedAt (set_of rows) p m
      → TableSays text (refused_line 5 (p + 2))
  -- accepted: the header and one line per sub-job in input order, with the deadlines that the assignment gives
  accepted : {rows : Rows} {ds : List ℕ} → Tabled text rows → Assigned (set_of rows) ds → TableSays text (printed (set_of rows) ds)

-- The output is what RULES says, and RULES says nothing else.
abbrev pub TableAnswers : Type 0
TableAnswers = (text : List ℕ) → TableSays text (answer text) × ((o : List ℕ) → TableSays text o → o ≡ answer text)

-- Cut at its line ends, an accepted table's output is the header and one line per sub-job, in input order.
abbrev pub OneLineEach : Type 0
OneLineEach =
    (s : Subjobs) (ds : List ℕ)
    → Assigned s ds
    → lines_of (printed s ds) ≡ out_header ∷ map (printed_line s ds) (places (size s))

-- No answer is longer than a header of 35 bytes and 128 lines of 56, which is what `table` is lent.
abbrev pub AnswerFits : Type 0
AnswerFits = (text : List ℕ) → length (answer text) ≤ 7_203
