-- Sets one after another in the same lists: which stretch of a list is whose, and what comes of asking set by set.
--
--   stretch a n xs  == the n entries of a list from place a on
--   replaced a n ys xs == the list xs with ys in the place of its stretch
--   start ns k      == where set k starts, if ns are the lengths of the sets: behind all that stand before it
--   each f a ns     == f of start and length, set by set, if the first of them starts at a
use Rattle.std.specs.Prelude.{ℕ, ◌+◌, List, [], ◌∷◌, ◌++◌, take, drop}
use Rattle.lists.specs.Places.{total}

abbrev pub stretch : (a n : ℕ) → List ℕ → List ℕ
stretch a n xs = take n (drop a xs)

abbrev pub replaced : (a n : ℕ) → (ys xs : List ℕ) → List ℕ
replaced a n ys xs = take a xs ++ (ys ++ drop n (drop a xs))

abbrev pub start : List ℕ → ℕ → ℕ
start ns k = total (take k ns)

unfoldable pub each : {A : Type 0} → (ℕ → ℕ → A) → ℕ → List ℕ → List A
each f a [] = []
each f a (n ∷ ns) = f a n ∷ each f (a + n) ns
