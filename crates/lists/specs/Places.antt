-- Groups of sub-jobs. A sub-job is known by its place, a group is a list of places, and a subset of
-- a group is that list filtered by a test. What is said of a sub-job (its release, its execution ..)
-- is a function of its place, so that sums and filters have their laws once, whatever is summed.
--
--   places n      == the places of a set of n sub-jobs: 0, 1, .., n - 1
--   filter U xs   == the subset of xs that U picks
--   without b xs  == xs with b taken out
--   weight f xs   == the sum of f over xs
--   total ns      == the sum of numbers
--   least f xs    == the smallest f in xs, 0 if xs is empty
--   greatest f xs == the greatest f in xs, 0 if xs is empty
--   Every P xs    == P holds of all of xs
--   InOrder f xs  == f never falls along xs
--   Nodup xs      == no place stands in xs twice
--   Rearranges ps n == ps is a rearrangement of the places of a set of n: each stands in it, once, and no other
--   taken ps xs   == the list xs in the order of ps: at each place what xs has where ps says
use Rattle.std.specs.Prelude.{ℕ, zero, suc, ◌+◌, ◌≤◌, ◌<◌, min, max, Bool, cond, not, ◌↔◌, eqb, get_or}
use mathlib.Core.List.{List, [], ◌∷◌, map, Memᴰ}

-- n places from i on
unfoldable pub from : ℕ → ℕ → List ℕ
from i zero = []
from i (suc n) = i ∷ from (suc i) n

-- Places count from 0.
abbrev pub places : ℕ → List ℕ
places n = from 0 n

unfoldable pub filter : (ℕ → Bool) → List ℕ → List ℕ
filter U [] = []
filter U (x ∷ xs) = cond (U x) (x ∷ filter U xs) (filter U xs)

abbrev pub without : ℕ → List ℕ → List ℕ
without b xs = filter (λ i. not (eqb i b)) xs

unfoldable pub weight : (ℕ → ℕ) → List ℕ → ℕ
weight f [] = 0
weight f (x ∷ xs) = f x + weight f xs

abbrev pub total : List ℕ → ℕ
total ns = weight (λ n. n) ns

unfoldable pub least : (ℕ → ℕ) → List ℕ → ℕ
least f [] = 0
least f (x ∷ []) = f x
least f (x ∷ y ∷ ys) = min (f x) (least f (y ∷ ys))

unfoldable pub greatest : (ℕ → ℕ) → List ℕ → ℕ
greatest f [] = 0
greatest f (x ∷ xs) = max (f x) (greatest f xs)

abbrev pub Every : (ℕ → Type 0) → List ℕ → Type 0
Every P [] = Unit {0}
Every P (x ∷ xs) = P x × Every P xs

abbrev pub InOrder : (ℕ → ℕ) → List ℕ → Type 0
InOrder f [] = Unit {0}
InOrder f (x ∷ xs) = Every (λ y. f x ≤ f y) xs × InOrder f xs

abbrev pub Nodup : List ℕ → Type 0
Nodup [] = Unit {0}
Nodup (x ∷ xs) = (Memᴰ x xs → ⊥) × Nodup xs

abbrev pub Rearranges : List ℕ → ℕ → Type 0
Rearranges ps n = Nodup ps × ((i : ℕ) → Memᴰ i ps ↔ (i < n))

abbrev pub taken : List ℕ → List ℕ → List ℕ
taken ps xs = map (λ p. get_or xs p 0) ps
