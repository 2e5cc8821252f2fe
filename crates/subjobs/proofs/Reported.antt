-- What a refusal reports is small: by numbers 1 to 4 a place of the set, so one below 128, and a number of two digits.
use Prim.Native.Nat.{◌≤◌, ◌<◌}
use mathlib.Core.Bool.{Bool}
use mathlib.Core.Path.{◌≡◌}
use native.Mathlib.Omega.{arith}
use Rattle.std.specs.Prelude.{Err}
use Rattle.subjobs.specs.declared.Reason.{Reason}
use Rattle.subjobs.specs.declared.Reason.TheVariants.{Lengths, TooMany, Range, Pair, Late, Unmet, Missed, Totals, TextTooLong, Header, Malformed, Stray, Cycle, TooLarge}
use Rattle.subjobs.specs.Reasons.{number_of, place_of}
use Rattle.subjobs.specs.Sets.{Subjobs}
use Rattle.subjobs.specs.Judging.{judgement}
use Rattle.subjobs.specs.Faults.{Faulty, lengths, many, range, pair}
use Rattle.subjobs.proofs.Fit.{judged_exactly}

faulty_within : (s : Subjobs) (others : Bool) (r : Reason) → Faulty s others r → place_of r < 128
faulty_within s others r (lengths n) = omega arith
faulty_within s others r (many l m) = omega arith
faulty_within s others r (range p f l m b all before n) = omega arith
faulty_within s others r (pair p j l m all b once before same) = omega arith

pub judged_within : (s : Subjobs) (others : Bool) (r : Reason) → judgement s others ≡ Err r → place_of r < 128
judged_within s others r e = faulty_within s others r ((judged_exactly s others r).0 e)

pub number_range : (r : Reason) → (1 ≤ number_of r) × (number_of r ≤ 99)
number_range Lengths = omega arith
number_range TooMany = omega arith
number_range (Range p f) = omega arith
number_range (Pair p) = omega arith
number_range (Late p m b) = omega arith
number_range (Unmet p) = omega arith
number_range (Missed p) = omega arith
number_range Totals = omega arith
number_range TextTooLong = omega arith
number_range Header = omega arith
number_range (Malformed l) = omega arith
number_range (Stray a) = omega arith
number_range Cycle = omega arith
number_range TooLarge = omega arith
