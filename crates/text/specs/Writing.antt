-- Text as it is written into a list of bytes, from a place on.
--
--   decimal x        == a number of at most 10 digits, in decimal
--   cell_text n v     == a field with the comma behind it, if n fields follow it, or with the end of its line, if none
--   line_text vs      == the line of a record of the values vs
--   reach l at n     == the place behind n bytes from at on, as far as l has places
--   Wrote l at w m i == of l, with as much of w as there is room for from at on, there came m; i is the place behind
use Rattle.std.specs.Prelude.{ℕ, zero, suc, ◌+◌, ◌-◌, ◌/◌, ◌%◌, min, cond, List, [], ◌∷◌, ◌++◌, ◌≡◌, ltb, eqb, length}
use Rattle.std.proofs.lemmas.List.Edits.{sets}

-- at most p digits
unfoldable pub figures : ℕ → ℕ → List ℕ
figures zero x = []
figures (suc p) x = cond (ltb x 10) ((48 + x) ∷ []) (figures p (x / 10) ++ ((48 + x % 10) ∷ []))

-- A 32-bit number has at most 10 digits.
abbrev pub decimal : ℕ → List ℕ
decimal x = figures 10 x

abbrev pub crlf : List ℕ
crlf = 13 ∷ 10 ∷ []

abbrev pub cell_text : ℕ → ℕ → List ℕ
cell_text n v = decimal v ++ cond (eqb n 0) crlf (44 ∷ [])

unfoldable pub line_text : List ℕ → List ℕ
line_text [] = []
line_text (v ∷ vs) = cell_text (length vs) v ++ line_text vs

abbrev pub reach : List ℕ → ℕ → ℕ → ℕ
reach l at n = at + min n (length l - at)

pub record Wrote (l : List ℕ) (at : ℕ) (w m : List ℕ) (i : ℕ) : Type 0 where
  pub text : m ≡ sets l at w
  pub next : i ≡ reach l at (length w)
