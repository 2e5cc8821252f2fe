-- From event to event: what a program looks for that jumps over the ticks between. Who puts a heap in place of the search
-- keeps `to_serve`.
--
--   to_serve L n t v      == the place to serve in tick t if v has been served so far, n if there is none
--   next_release r xs t   == the next release of xs after moment t, 0 if there is none
--   stretch left t next  == the ticks from moment t until nothing is left or somebody is released
use Rattle.std.specs.Prelude.{ℕ, ◌-◌, min, cond, List, leb, ltb}
use Rattle.lists.specs.Places.{filter, least}
use Rattle.lists.specs.Order.{given}
use Rattle.ticks.specs.Core.{Load, pick}

abbrev pub to_serve : Load → (n t : ℕ) → List ℕ → ℕ
to_serve L n t v = given (pick L t v) n (λ p. p)

abbrev pub next_release : (ℕ → ℕ) → List ℕ → ℕ → ℕ
next_release r xs t = least r (filter (λ i. ltb t (r i)) xs)

abbrev pub stretch : ℕ → ℕ → ℕ → ℕ
stretch left t next = cond (leb next t) left (min left (next - t))
