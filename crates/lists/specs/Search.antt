-- A search through the places of a list, from the first on.
--
--   some P n == P holds at some place below n
use Rattle.std.specs.Prelude.{ℕ, zero, suc, Bool, false, ◌||◌}

-- at some of the n places from i on
unfoldable pub some_from : (ℕ → Bool) → ℕ → ℕ → Bool
some_from P zero i = false
some_from P (suc n) i = P i || some_from P n (suc i)

abbrev pub some : (ℕ → Bool) → ℕ → Bool
some P n = some_from P n 0
