-- Orders of places and the choice by one. An order is a test `lt i j`, "i comes before j". The base
-- sub-job, the sub-job to serve and the place of the least slack are all chosen by `choose`.
--
--   by f            == the smaller f comes before
--   lex lt lt'      == by lt, and where lt parts neither from the other by lt'
--   reversed lt     == the other way round
--   choose lt xs    == the one of xs that comes before all others, the first of those that tie
--   given q a f     == f of what q has chosen, a if it has chosen none
--   Last lt xs b    == b is in xs and all others of xs come before it
use Rattle.std.specs.Prelude.{ℕ, Bool, true, cond, not, ◌&&◌, ◌||◌, ◌≡◌, ◌⊎◌, ltb}
use mathlib.Core.List.{List, [], ◌∷◌, Memᴰ}
use Rattle.std.proofs.Math.Option.{Option, none, some}

abbrev pub by : (ℕ → ℕ) → ℕ → ℕ → Bool
by f i j = ltb (f i) (f j)

abbrev pub lex : (ℕ → ℕ → Bool) → (ℕ → ℕ → Bool) → ℕ → ℕ → Bool
lex lt lt' i j = lt i j || (not (lt j i) && lt' i j)

abbrev pub reversed : (ℕ → ℕ → Bool) → ℕ → ℕ → Bool
reversed lt i j = lt j i

-- p against all of xs, one after the other
unfoldable pub ahead : (ℕ → ℕ → Bool) → ℕ → List ℕ → ℕ
ahead lt p [] = p
ahead lt p (x ∷ xs) = ahead lt (cond (lt x p) x p) xs

unfoldable pub choose : (ℕ → ℕ → Bool) → List ℕ → Option ℕ
choose lt [] = none
choose lt (x ∷ xs) = some (ahead lt x xs)

abbrev pub given : {A : Type 0} → Option ℕ → A → (ℕ → A) → A
given none a f = a
given (some b) a f = f b

abbrev pub Last : (ℕ → ℕ → Bool) → List ℕ → ℕ → Type 0
Last lt xs b = Memᴰ b xs × ((i : ℕ) → Memᴰ i xs → (i ≡ b) ⊎ (lt i b ≡ true))
