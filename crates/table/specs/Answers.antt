-- What a table is answered: text in, text out.
--
--   slack_at s ds i         == the slack of place i, ds the local deadlines
--   line_at s ds fs i       == the line of place i, fs the finishes
--   joined f xs            == f of each place of xs, one behind the other
--   accepted s ds          == the whole output for an accepted set
--   tabled s               == the whole output for a set
--   answer text            == the whole output for a text
--   Tables text out r out' == what `table` is held to
--   Counts k l             == k counts bytes at the start of l
use Rattle.std.specs.Prelude.{ℕ, ◌≤◌, List, [], ◌∷◌, ◌++◌, ◌≡◌, ℤ, length, get_or, take, drop, replicate}
use Rattle.lists.specs.Places.{places}
use Rattle.subjobs.specs.Sets.{Subjobs, size, job, subtask}
use Rattle.subjobs.specs.Terms.{terms, slack}
use Rattle.subjobs.specs.Judging.{judged, if_passed}
use Rattle.olda.specs.Answers.{Answer}
use Rattle.olda.specs.Answers as olda
use Rattle.ticks.specs.Runs as ticks
use Rattle.table.specs.Format.{Parsed, records, refused}
use Rattle.table.specs.Reading.{read, set_of}
use Rattle.table.specs.Writing.{line_of, out_header, refusal}

-- The slack is upper bound minus local deadline.
abbrev pub slack_at : Subjobs → List ℕ → ℕ → ℤ
slack_at s ds i = slack (terms s) (λ j. get_or ds j 0) i

-- job, subtask, local deadline, finish, slack
abbrev pub line_at : Subjobs → List ℕ → List ℕ → ℕ → List ℕ
line_at s ds fs i = line_of (job s i) (subtask s i) (get_or ds i 0) (get_or fs i 0) (slack_at s ds i)

unfoldable pub joined : (ℕ → List ℕ) → List ℕ → List ℕ
joined f [] = []
joined f (i ∷ is) = f i ++ joined f is

-- Accepted: a header and one line per sub-job in input order, the finishes those when every ask equals execution.
unfoldable pub accepted : Subjobs → List ℕ → List ℕ
accepted s ds = out_header ++ joined (line_at s ds (ticks.run s ds s.executions).finishes) (places (size s))

-- The deadlines are the assignment's own, and so are the refusals 3, 4 and 5.
unfoldable pub tabled : Subjobs → List ℕ
tabled s = if_passed (judged (olda.answer s (size s))) (accepted s (olda.results s (replicate (size s) 0))) refusal

abbrev pub on_parsed : Parsed → List ℕ
on_parsed (records rows) = tabled (set_of rows)
on_parsed (refused r) = refusal r

unfoldable pub answer : List ℕ → List ℕ
answer text = on_parsed (read text)

-- What `table` is held to: how many bytes the answer has, and that the output holds it in its first bytes and what it
-- held before in the rest.
pub record Tables (text out : List ℕ) (r : ℕ) (out' : List ℕ) : Type 0 where
  pub count : r ≡ length (answer text)
  pub bytes : out' ≡ answer text ++ drop (length (answer text)) out

-- k bytes at the start of a list, which may be lent on by themselves. The second part follows from the first.
abbrev pub Counts : ℕ → List ℕ → Type 0
Counts k l = (k ≤ length l) × (k ≡ length (take k l))
