-- The lines that are written: how long they are, and that each is one line of the text that they stand in.
use Prim.Native.Nat.{ℕ, zero, suc, ◌+◌, ◌*◌, ◌/◌, ◌%◌, ◌≤◌}
use mathlib.Core.List.{List, [], ◌∷◌, ◌++◌, append_assoc}
use mathlib.Core.Logic.{◌≢◌}
use mathlib.Core.Path.{◌≡◌, refl, sym, ap, ◌∙◌}
use native.Mathlib.Omega.{arith}
use borrow.Author.Tests.{ne_eqb}
use lib.Dec.{ltb}
use lib.ListN.{length, length-append}
use Rattle.lists.specs.Places.{Every}
use Rattle.lists.proofs.Cases.{test, tests}
use Rattle.lists.proofs.Members.{every_more, every_append}
use Rattle.text.specs.Format.{Digit}
use Rattle.text.specs.Writing.{figures, decimal, crlf, line_text}
use Rattle.text.specs.Lines.{cut, lines_of}

pub figures-length : (p x : ℕ) → length (figures p x) ≤ p
unfolding figures
figures-length zero x = omega arith
figures-length (suc p) x =
    let ih = figures-length p (x / 10) in
    test (ltb x 10) (λ e. rw e (omega arith)) (λ e. rw (e, length-append (figures p (x / 10)) ((48 + x % 10) ∷ [])) (omega arith))

pub line_more : (v u : ℕ) (vs : List ℕ) → line_text (v ∷ u ∷ vs) ≡ decimal v ++ (44 ∷ line_text (u ∷ vs))
unfolding line_text
line_more v u vs = rw (ne_eqb (suc (length vs)) 0 (λ e. omega arith)) (append_assoc (decimal v) (44 ∷ []) _)

-- A field takes at most 11 bytes with its comma, and the end of the line one more.
pub line_length : (vs : List ℕ) → length (line_text vs) ≤ 11 * length vs + 1
unfolding line_text
line_length [] = omega arith
line_length (v ∷ []) = omega (arith, figures-length 10 v, length-append (decimal v) crlf, length-append (decimal v ++ crlf) [])
line_length (v ∷ u ∷ vs) =
    rw (line_more v u vs) (omega (arith, line_length (u ∷ vs), figures-length 10 v, length-append (decimal v) (44 ∷ line_text (u ∷ vs))))

-- Bytes within a line.
abbrev Inside : ℕ → Type 0
Inside b = b ≢ 10

pub figures_digits : (p x : ℕ) → Every Digit (figures p x)
unfolding figures
figures_digits zero x = tt
figures_digits (suc p) x =
    test (ltb x 10) (λ e. rw e ((omega tests, omega tests), tt))
    (λ e. rw e (every_append Digit (figures p (x / 10)) ((48 + x % 10) ∷ []) (figures_digits p (x / 10)) ((omega arith, omega arith), tt)))

decimal_inside : (x : ℕ) → Every Inside (decimal x)
decimal_inside x = every_more Digit Inside (λ b d e. omega arith) (decimal x) (figures_digits 10 x)

cut_line : (w a bs : List ℕ) → Every Inside a → cut w (a ++ (10 ∷ bs)) ≡ (w ++ (a ++ (10 ∷ []))) ∷ cut [] bs
unfolding cut
cut_line w [] bs h = refl
cut_line w (b ∷ a) bs h =
    rw (ne_eqb b 10 h.0)
    (cut_line (w ++ (b ∷ [])) a bs h.1 ∙ ap (λ (l : List ℕ). l ∷ cut [] bs) (append_assoc w (b ∷ []) (a ++ (10 ∷ []))))

-- A line: bytes within it, and a line feed.
abbrev pub IsLine : List ℕ → Type 0
IsLine l = (a : List ℕ) × Every Inside a × (l ≡ a ++ (10 ∷ []))

pub line_first : (l bs : List ℕ) → IsLine l → lines_of (l ++ bs) ≡ l ∷ lines_of bs
line_first l bs (a, h, e) =
    rw e (ap (cut []) (append_assoc a (10 ∷ []) bs) ∙ cut_line [] a bs h)

pub line_line : (v : ℕ) (vs : List ℕ) → IsLine (line_text (v ∷ vs))
unfolding line_text
line_line v [] = (
  decimal v ++ (13 ∷ []),
  every_append Inside (decimal v) (13 ∷ []) (decimal_inside v) (λ e. omega arith, tt),
  simp append_assoc,
)
line_line v (u ∷ vs) =
    let q = line_line u vs in (
      decimal v ++ (44 ∷ q.0),
      every_append Inside (decimal v) (44 ∷ q.0) (decimal_inside v) (λ e. omega arith, q.1),
      line_more v u vs ∙ rw q.2 (sym (append_assoc (decimal v) (44 ∷ q.0) (10 ∷ []))),
    )
