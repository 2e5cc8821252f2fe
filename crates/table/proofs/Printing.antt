-- The lines that the code prints: one behind the other, each from the numbers of a sub-job.
use Prim.Native.Nat.{ℕ, zero, suc, ◌+◌, ◌-◌, ◌≤◌}
use mathlib.Core.List.{List, [], ◌∷◌, ◌++◌, append-nil, append_assoc}
use mathlib.Core.Path.{◌≡◌, sym, ap, ◌∙◌}
use native.Mathlib.Nat.{add-zero, zero-add}
use native.Mathlib.Numerals.{add-one}
use native.Mathlib.Omega.{arith}
use borrow.Author.Tests.{le-ltb}
use lib.IntN.{pos, sub_ℕ, ◌-ℤ◌}
use lib.ListN.{get_or}
use Rattle.lists.specs.Places.{from, places}
use Rattle.subjobs.specs.declared.Reason.{Reason}
use Rattle.subjobs.specs.Reasons.{number_of}
use Rattle.subjobs.specs.Sets.{Subjobs, deadline, withheld}
use Rattle.text.specs.Writing.{decimal, crlf, line_text, Wrote}
use Rattle.text.proofs.Stored.{then}
use Rattle.table.specs.Writing.{line_of, printed_line, refusal}
use Rattle.table.specs.Answers.{line_at, joined}
use Rattle.table.specs.Stores.{numbers_at}

joined_last : (f : ℕ → List ℕ) (i n : ℕ) → joined f (from i (suc n)) ≡ joined f (from i n) ++ f (i + n)
unfolding joined from
joined_last f i zero = append-nil (f i) ∙ ap f (sym (add-zero i))
joined_last f i (suc n) =
    ap (λ (w : List ℕ). f i ++ w) (joined_last f (suc i) n)
    ∙ sym (append_assoc (f i) (joined f (from (suc i) n)) (f (suc i + n)))
    ∙ ap (λ (k : ℕ). f i ++ joined f (from (suc i) n) ++ f k) (omega arith)

-- One more line.
pub line_more :
    (f : ℕ → List ℕ) {l m n w : List ℕ} {at e e' : ℕ} (i : ℕ)
    → Wrote l at (joined f (places i)) m e
    → Wrote m e w n e'
    → f i ≡ w
    → Wrote l at (joined f (places (i + 1))) n e'
line_more f i p q h = rw (add-one i, joined_last f 0 i, zero-add i, h) (then p q)

-- A local deadline that is at most the upper bound has a slack with no sign.
abbrev pub InTime : Subjobs → List ℕ → ℕ → Type 0
InTime s ds i = get_or ds i 0 + withheld s i ≤ deadline s i

slack_is : (dl z d : ℕ) → d + z ≤ dl → sub_ℕ dl z -ℤ pos d ≡ pos (dl - z - d)
slack_is dl z zero h = rw (le-ltb dl z (omega arith)) (ap pos (omega arith))
slack_is dl z (suc d) h = rw (le-ltb dl z (omega arith), le-ltb (dl - z) (suc d) (omega arith))

line_is : (j k d f x : ℕ) → line_of j k d f (pos x) ≡ line_text (j ∷ k ∷ d ∷ f ∷ x ∷ [])
unfolding line_of line_text
line_is j k d f x = rw (append-nil (decimal x ++ crlf))

-- The line of a place is that of a record of five numbers.
pub line_at_is : (s : Subjobs) (ds fs : List ℕ) (i : ℕ) → InTime s ds i → line_at s ds fs i ≡ line_text (numbers_at s ds fs i)
line_at_is s ds fs i e = rw (slack_is (deadline s i) (withheld s i) (get_or ds i 0) e) (line_is _ _ _ _ _)

-- The line of a refusal.
pub refusal_is :
    (r : Reason) → refusal r ≡ (114 ∷ 101 ∷ 102 ∷ 117 ∷ 115 ∷ 101 ∷ 100 ∷ 44 ∷ []) ++ line_text (number_of r ∷ printed_line r ∷ [])
unfolding refusal line_text
refusal_is r = rw (append-nil (decimal (printed_line r) ++ crlf))
