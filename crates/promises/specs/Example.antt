-- The worked example of RULES, byte by byte, and P3 as the only record of a table.
--
--   example, example_answer == the table of RULES and its output
--   late_example, refused_5_2 == the table of P3 and its output
--   WorkedExample          == these are answered so
use Rattle.std.specs.Prelude.{ℕ, List, [], ◌∷◌, ◌++◌, ◌≡◌}
use Rattle.text.specs.Writing.{crlf}
use Rattle.table.specs.Format.{header}
use Rattle.table.specs.Writing.{out_header}
use Rattle.table.specs.Answers.{answer}

-- 1,1,0,2,35,0 and the next three lines
abbrev pub rows : List ℕ
rows =
    49 ∷ 44 ∷ 49 ∷ 44 ∷ 48 ∷ 44 ∷ 50 ∷ 44 ∷ 51 ∷ 53 ∷ 44 ∷ 48 ∷ 13 ∷ 10 ∷
    50 ∷ 44 ∷ 49 ∷ 44 ∷ 52 ∷ 44 ∷ 50 ∷ 44 ∷ 52 ∷ 50 ∷ 44 ∷ 48 ∷ 13 ∷ 10 ∷
    51 ∷ 44 ∷ 49 ∷ 44 ∷ 53 ∷ 44 ∷ 50 ∷ 44 ∷ 51 ∷ 57 ∷ 44 ∷ 48 ∷ 13 ∷ 10 ∷
    52 ∷ 44 ∷ 49 ∷ 44 ∷ 54 ∷ 44 ∷ 49 ∷ 44 ∷ 51 ∷ 53 ∷ 44 ∷ 48 ∷ 13 ∷ 10 ∷ []

-- 1,1,2,2,33 and the next three lines
abbrev pub deadlines : List ℕ
deadlines =
    49 ∷ 44 ∷ 49 ∷ 44 ∷ 50 ∷ 44 ∷ 50 ∷ 44 ∷ 51 ∷ 51 ∷ 13 ∷ 10 ∷
    50 ∷ 44 ∷ 49 ∷ 44 ∷ 57 ∷ 44 ∷ 57 ∷ 44 ∷ 51 ∷ 51 ∷ 13 ∷ 10 ∷
    51 ∷ 44 ∷ 49 ∷ 44 ∷ 56 ∷ 44 ∷ 56 ∷ 44 ∷ 51 ∷ 49 ∷ 13 ∷ 10 ∷
    52 ∷ 44 ∷ 49 ∷ 44 ∷ 55 ∷ 44 ∷ 55 ∷ 44 ∷ 50 ∷ 56 ∷ 13 ∷ 10 ∷ []

-- 1,1,0,2,1,0
abbrev pub late : List ℕ
late =
    49 ∷ 44 ∷ 49 ∷ 44 ∷ 48 ∷ 44 ∷ 50 ∷ 44 ∷ 49 ∷ 44 ∷ 48 ∷ 13 ∷ 10 ∷ []

-- refused,5,2
abbrev pub refused_5_2 : List ℕ
refused_5_2 =
    114 ∷ 101 ∷ 102 ∷ 117 ∷ 115 ∷ 101 ∷ 100 ∷ 44 ∷ 53 ∷ 44 ∷ 50 ∷ 13 ∷ 10 ∷ []

abbrev pub example : List ℕ
example = header ++ crlf ++ rows

abbrev pub example_answer : List ℕ
example_answer = out_header ++ deadlines

abbrev pub late_example : List ℕ
late_example = header ++ crlf ++ late

-- The example's whole output, and `refused,5,2` for P3.
abbrev pub WorkedExample : Type 0
WorkedExample = (answer example ≡ example_answer) × (answer late_example ≡ refused_5_2)
