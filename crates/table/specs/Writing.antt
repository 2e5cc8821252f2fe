-- The text that comes out. Every output line ends with CR LF.
--
--   signed z           == a signed number, in decimal
--   line_of j k d f z   == the line of a sub-job: job, subtask, local deadline, finish, slack
--   out_header          == the output's first line
--   line_for n p        == the line that a refusal with this number and place names
--   printed_line r      == the line that a refusal names
--   refusal r          == the one line of a refused text
use Rattle.std.specs.Prelude.{ℕ, suc, ◌+◌, cond, ◌&&◌, List, [], ◌∷◌, ◌++◌, leb, ℤ, pos, negsuc}
use Rattle.text.specs.Writing.{decimal, crlf}
use Rattle.subjobs.specs.declared.Reason.{Reason}
use Rattle.subjobs.specs.Reasons.{number_of, place_of}

abbrev pub signed : ℤ → List ℕ
signed (pos n) = decimal n
signed (negsuc n) = 45 ∷ decimal (suc n)

-- a number and a comma
abbrev pub parted : ℕ → List ℕ
parted x = decimal x ++ (44 ∷ [])

-- job, subtask, local deadline, finish when every ask equals execution, slack
unfoldable pub line_of : (job subtask deadline finish : ℕ) → ℤ → List ℕ
line_of j k d f z = parted j ++ (parted k ++ (parted d ++ (parted f ++ (signed z ++ crlf))))

-- job,subtask,deadline,finish,slack
abbrev pub out_header : List ℕ
out_header =
    106 ∷ 111 ∷ 98 ∷ 44 ∷
    115 ∷ 117 ∷ 98 ∷ 116 ∷ 97 ∷ 115 ∷ 107 ∷ 44 ∷
    100 ∷ 101 ∷ 97 ∷ 100 ∷ 108 ∷ 105 ∷ 110 ∷ 101 ∷ 44 ∷
    102 ∷ 105 ∷ 110 ∷ 105 ∷ 115 ∷ 104 ∷ 44 ∷
    115 ∷ 108 ∷ 97 ∷ 99 ∷ 107 ∷ 13 ∷ 10 ∷ []

-- The line for 3, 4 and 5 is that of the record at the place; for the others it is what the table of refusals reports.
abbrev pub line_for : (number place : ℕ) → ℕ
line_for n p = cond (leb 3 n && leb n 5) (p + 2) p

abbrev pub printed_line : Reason → ℕ
printed_line r = line_for (number_of r) (place_of r)

-- the word refused, the number and the line, parted by commas
unfoldable pub refusal : Reason → List ℕ
refusal r = (114 ∷ 101 ∷ 102 ∷ 117 ∷ 115 ∷ 101 ∷ 100 ∷ 44 ∷ []) ++ (parted (number_of r) ++ (decimal (printed_line r) ++ crlf))
