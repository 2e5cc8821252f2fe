-- What `critical` answers and leaves, by going through the paths.
--
--   paths g k i       == all paths of at most k arcs from place i
--   critical g i      == the critical time of place i: the greatest weight of its paths
--   cyclic g          == some path comes back to its start
--   judgement g n     == refusals 1, 2, 3 and 20, in this order, with a result list of length n
--   answer g n        == these and 21
--   results g out     == what the result list holds afterwards, if it held out before
--   Finds g out r out' == what `critical` is held to
use Rattle.std.specs.Prelude.{ℕ, zero, suc, Bool, false, not, ◌&&◌, ◌||◌, ◌≡◌, leb, ltb, eqb, length}
use mathlib.Core.List.{List, [], ◌∷◌, map, flat_map}
use Rattle.lists.specs.Places.{places, filter, weight, greatest}
use Rattle.lists.specs.Search.{some}
use Rattle.subjobs.specs.declared.Field.TheVariants.{Execution, Hop}
use Rattle.subjobs.specs.Judging.{Judgement}
use Rattle.subjobs.specs.declared.Reason.TheVariants.{Lengths, TooMany, Range, Stray, Cycle}
use Rattle.subjobs.specs.Judging.{unless, or_else, if_passed, first_refusal}
use Rattle.graph.specs.Graphs.{Graph, size, arcs, execution, before, after, hop, cost, end}

-- the arcs that start at a place
abbrev pub leaving : Graph → ℕ → List ℕ
leaving g i = filter (λ a. eqb (before g a) i) (places (arcs g))

-- the path of no arc, and each arc that leaves with each path from where it leads
unfoldable pub paths : Graph → ℕ → ℕ → List (List ℕ)
paths g zero i = [] ∷ []
paths g (suc k) i = [] ∷ flat_map (λ a. map (λ p. a ∷ p) (paths g k (after g a))) (leaving g i)

-- For each sub-job the greatest sum along any path of its successors. Where no path comes back, none has as many arcs as
-- there are places.
abbrev pub critical : Graph → ℕ → ℕ
critical g i = greatest (λ w. w) (map (weight (cost g)) (paths g (size g) i))

-- a path of one arc or more that ends where it started
abbrev pub comes_back : Graph → ℕ → List ℕ → Bool
comes_back g i [] = false
comes_back g i (a ∷ p) = eqb (end g (after g a) p) i

unfoldable pub any_of : (List ℕ → Bool) → List (List ℕ) → Bool
any_of P [] = false
any_of P (p ∷ ps) = P p || any_of P ps

unfoldable pub cyclic : Graph → Bool
cyclic g = some (λ i. any_of (comes_back g i) (paths g (size g) i)) (size g)

-- 1: executions and results, or the arcs' lists, differ in length
abbrev pub one_length : Graph → ℕ → Bool
one_length g n = eqb n (size g) && eqb (length g.afters) (arcs g) && eqb (length g.hops) (arcs g)

-- 2: more than 128 sub-jobs, or more than 1,024 arcs
abbrev pub few : Graph → Bool
few g = leb (size g) 128 && leb (arcs g) 1_024

-- 3: the first execution out of range
abbrev pub execution_at : Graph → ℕ → Judgement
execution_at g i = unless (leb 1 (execution g i) && leb (execution g i) 1_000_000) (Range i Execution)

-- 3, then: the first hop delay out of range, with its arc's index as place
abbrev pub hop_at : Graph → ℕ → Judgement
hop_at g a = unless (leb (hop g a) 100_000) (Range a Hop)

-- 20: the first arc that names no sub-job
abbrev pub arc_at : Graph → ℕ → Judgement
arc_at g a = unless (ltb (before g a) (size g) && ltb (after g a) (size g)) (Stray a)

unfoldable pub judgement : Graph → ℕ → Judgement
judgement g n =
    or_else (unless (one_length g n) Lengths)
    (or_else (unless (few g) TooMany)
    (or_else (first_refusal (execution_at g) (size g))
    (or_else (first_refusal (hop_at g) (arcs g))
    (first_refusal (arc_at g) (arcs g)))))

-- 21: exactly for a cycle
unfoldable pub answer : Graph → ℕ → Judgement
answer g n = or_else (judgement g n) (unless (not (cyclic g)) Cycle)

-- A refused call changes nothing.
unfoldable pub results : Graph → List ℕ → List ℕ
results g out = if_passed (answer g (length out)) (map (critical g) (places (size g))) (λ r. out)

abbrev pub Finds : Graph → List ℕ → Judgement → List ℕ → Type 0
Finds g out r out' = (r ≡ answer g (length out)) × (out' ≡ results g out)
