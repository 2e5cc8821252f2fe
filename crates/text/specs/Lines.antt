-- The lines of a text. Writing does not need them; that an output has one per record does.
--
--   cut w text   == the lines of a text, each with its line feed; w is the part of the first line before the text
--   lines_of text == the lines of a text
use Rattle.std.specs.Prelude.{ℕ, cond, List, [], ◌∷◌, ◌++◌, eqb, length}

unfoldable pub cut : List ℕ → List ℕ → List (List ℕ)
cut w [] = cond (eqb (length w) 0) [] (w ∷ [])
cut w (b ∷ bs) = cond (eqb b 10) ((w ++ (b ∷ [])) ∷ cut [] bs) (cut (w ++ (b ∷ [])) bs)

abbrev pub lines_of : List ℕ → List (List ℕ)
lines_of text = cut [] text
