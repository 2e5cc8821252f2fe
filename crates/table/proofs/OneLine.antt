-- The output of an accepted set, cut at its line feeds, is the header and one line per sub-job in input order.
use Prim.Native.Nat.{ℕ, zero, suc, ◌+◌, ◌<◌}
use mathlib.Core.List.{List, ◌∷◌, map}
use mathlib.Core.Path.{◌≡◌, refl, ap, ◌∙◌}
use native.Mathlib.Omega.{arith}
use Rattle.lists.specs.Places.{from, places}
use Rattle.subjobs.specs.Sets.{Subjobs, size}
use Rattle.ticks.specs.Runs as ticks
use Rattle.text.specs.Lines.{cut, lines_of}
use Rattle.text.proofs.Printed.{IsLine, line_first, line_line}
use Rattle.table.specs.Writing.{out_header}
use Rattle.table.specs.Answers.{line_at, joined, accepted}
use Rattle.table.proofs.Printing.{line_at_is}
use Rattle.table.proofs.Outcomes.{Sound, in_time}

joined_lines :
    (f : ℕ → List ℕ) (a n : ℕ) → ((i : ℕ) → i < a + n → IsLine (f i)) → lines_of (joined f (from a n)) ≡ map f (from a n)
unfolding cut joined from
joined_lines f a zero h = refl
joined_lines f a (suc n) h =
    line_first (f a) (joined f (from (suc a) n)) (h a (omega arith))
    ∙ ap (λ (ls : List (List ℕ)). f a ∷ ls) (joined_lines f (suc a) n (λ i l. h i (omega arith)))

-- Cut at its line ends, the output for an accepted set is the header and one line per sub-job, in input order.
pub accepted_lines :
    (s : Subjobs) (ds : List ℕ)
    → Sound s ds
    → lines_of (accepted s ds) ≡ out_header ∷ map (line_at s ds (ticks.run s ds s.executions).finishes) (places (size s))
unfolding accepted cut
accepted_lines s ds w =
    let fs = (ticks.run s ds s.executions).finishes in
    ap (λ (ls : List (List ℕ)). out_header ∷ ls)
    (joined_lines (line_at s ds fs) 0 (size s)
    (λ i l. rw (line_at_is s ds fs i (in_time s ds w i (omega arith))) (line_line _ _)))
