-- The rules of the assignment, literally: over all subsets of the remaining sub-jobs xs, in any order of their list. T is
-- what the rules read of a place.
--
--   Base T xs U      == U picks the base subset of the remaining xs
--   Turn T xs b m    == steps 1 and 2: b is the base sub-job of xs and m the completion
--   Accepts T d xs   == the rules give the remaining xs the deadlines d
--   Refuses T p m xs == step 3 fails at the base sub-job p with the completion m
--   Remains T xs ys  == after some steps on xs, ys remain
--   Accepted s d     == the rules give the set s the deadlines d
--   RefusedAt s p m  == they refuse it at the base sub-job p with the completion m
--   LeastSlack T d xs x == x is the least slack of the places xs with the deadlines d
use Rattle.std.specs.Prelude.{ℕ, ◌+◌, ◌≤◌, ◌<◌, Bool, true, ◌≢◌, ◌≡◌, ℤ}
use mathlib.Core.List.{List, [], Memᴰ}
use Rattle.std.specs.Int.Signed.{le_z}
use Rattle.lists.specs.Places.{places, filter, without, least}
use Rattle.lists.specs.Order.{Last}
use Rattle.subjobs.specs.Sets.{Subjobs, size}
use Rattle.subjobs.specs.Terms.{Terms, slack, terms}
use Rattle.subjobs.specs.Conditions.{completion}

abbrev pub completion_of : Terms → List ℕ → ℕ
completion_of T xs = completion T.release T.execution xs

-- 1. The base subset is the subset of the remaining sub-jobs with the greatest completion. Of several, take the one
-- whose smallest release is greatest.
pub record Base (T : Terms) (xs : List ℕ) (U : ℕ → Bool) : Type 0 where
  pub filled : filter U xs ≢ []
  pub most : (X : ℕ → Bool) → filter X xs ≢ [] → completion_of T (filter X xs) ≤ completion_of T (filter U xs)
  pub latest :
      (X : ℕ → Bool)
      → filter X xs ≢ []
      → completion_of T (filter X xs) ≡ completion_of T (filter U xs)
      → least T.release (filter X xs) ≤ least T.release (filter U xs)

-- 2. The base sub-job is the one in the base subset that all others of it stand behind.
pub record Turn (T : Terms) (xs : List ℕ) (b m : ℕ) : Type 0 where
  pub subset : ℕ → Bool
  pub is_base : Base T xs subset
  pub is_job : Last T.lower (filter subset xs) b
  pub is_completion : m ≡ completion_of T (filter subset xs)

-- 3. If its upper bound is not below the completion, its local deadline is the completion, and it leaves the set.
pub data Accepts (T : Terms) (d : ℕ → ℕ) : List ℕ → Type 0 where
  over : Accepts T d []
  place :
      {xs : List ℕ} (b : ℕ)
      → Turn T xs b (d b)
      → d b + T.withheld b ≤ T.deadline b
      → Accepts T d (without b xs)
      → Accepts T d xs

-- 3. If its upper bound is below the completion, the whole set is refused.
pub data Refuses (T : Terms) (p m : ℕ) : List ℕ → Type 0 where
  here : {xs : List ℕ} → Turn T xs p m → T.deadline p < m + T.withheld p → Refuses T p m xs
  later :
      {xs : List ℕ} (b k : ℕ)
      → Turn T xs b k
      → k + T.withheld b ≤ T.deadline b
      → Refuses T p m (without b xs)
      → Refuses T p m xs

-- Some steps were taken, and these remain.
pub data Remains (T : Terms) : List ℕ → List ℕ → Type 0 where
  still : {xs : List ℕ} → Remains T xs xs
  after :
      {xs ys : List ℕ} (b m : ℕ)
      → Turn T xs b m
      → m + T.withheld b ≤ T.deadline b
      → Remains T (without b xs) ys
      → Remains T xs ys

-- Of a set: all its places, in any order.
abbrev pub Accepted : Subjobs → (ℕ → ℕ) → Type 0
Accepted s d = Accepts (terms s) d (places (size s))

abbrev pub RefusedAt : Subjobs → ℕ → ℕ → Type 0
RefusedAt s p m = Refuses (terms s) p m (places (size s))

-- The least slack of some places: one has it, and none has less.
abbrev pub LeastSlack : Terms → (ℕ → ℕ) → List ℕ → ℤ → Type 0
LeastSlack T d xs x =
    ((i : ℕ) × Memᴰ i xs × (slack T d i ≡ x)) × ((i : ℕ) → Memᴰ i xs → le_z x (slack T d i) ≡ true)
