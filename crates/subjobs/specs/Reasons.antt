-- The table of refusals: what each reason tells.
--
--   at n p       == number n and place p, with no further detail
--   tell r       == what the reason r tells: a line of the table
--   number_of r, place_of r == its number and its place
--   field_number f == the number by which number 3 reports a field; a name, which says nothing of the order of looking
--   values r     == all that it tells: number, place, field, completion, bound
use Rattle.std.specs.Prelude.{ℕ, ℤ, pos, List, [], ◌∷◌}
use Rattle.subjobs.specs.declared.Field.{Field}
use Rattle.subjobs.specs.declared.Field.TheVariants.{Release, Execution, Deadline, Critical, Hop}
use Rattle.subjobs.specs.declared.Reason.{Reason}
use Rattle.subjobs.specs.declared.Reason.TheVariants.{Lengths, TooMany, Range, Pair, Late, Unmet, Missed, Totals, TextTooLong, Header, Malformed, Stray, Cycle, TooLarge}
use Rattle.subjobs.specs.declared.Told.{Told}

abbrev pub at : (number place : ℕ) → Told
at n p = record { number = n; place = p; field = 0; completion = 0; bound = pos 0 }

abbrev pub field_number : Field → ℕ
field_number Release = 1
field_number Execution = 2
field_number Deadline = 3
field_number Critical = 4
field_number Hop = 5

abbrev pub tell : Reason → Told
tell Lengths = at 1 0
tell TooMany = at 2 0
tell (Range p f) = record { number = 3; place = p; field = field_number f; completion = 0; bound = pos 0 }
tell (Pair p) = at 4 p
tell (Late p m b) = record { number = 5; place = p; field = 0; completion = m; bound = b }
tell (Unmet p) = at 6 p
tell (Missed p) = at 7 p
tell Totals = at 8 0
tell TextTooLong = at 10 0
tell Header = at 11 1
tell (Malformed l) = at 12 l
tell (Stray a) = at 20 a
tell Cycle = at 21 0
tell TooLarge = at 22 0

abbrev pub number_of : Reason → ℕ
number_of r = (tell r).number

abbrev pub place_of : Reason → ℕ
place_of r = (tell r).place

abbrev pub values : Reason → List ℤ
values r = pos (tell r).number ∷ pos (tell r).place ∷ pos (tell r).field ∷ pos (tell r).completion ∷ (tell r).bound ∷ []
