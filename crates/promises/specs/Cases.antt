-- The cases P1 to P12 of RULES, one table under one statement over the rules themselves.
--
--   old s               == a result list for the set s that holds 99s
--   lent                == a record of totals that holds ticks of an earlier run
--   assigned s v ds     == the assignment answers with the numbers v, and the result list then holds ds
--   based s xs m        == the first base subset of s is xs, its completion m
--   ran s ds as v fs b i == the simulator answers with the numbers v, the result list then holds the finishes fs, and b
--                          busy and i idle ticks have been added to the totals
--   checked s ds v      == the checker answers with the numbers v
--   Holds rows          == every row holds
use Rattle.std.specs.Prelude.{ℕ, ◌+◌, List, [], ◌∷◌, map, ◌≡◌, ℤ, pos, neg_ℤ, length, replicate}
use Rattle.lists.specs.Places.{from, places}
use Rattle.subjobs.specs.Sets.{Subjobs, subjobs, size, release, execution}
use Rattle.rules.specs.Method.{in_order, best, base}
use Rattle.olda.specs.Answers as olda
use Rattle.edf.specs.declared.Totals.{Totals}
use Rattle.edf.specs.Answers as edf
use Rattle.checker.specs.Answers as checker

-- (r, C, UB) stands for a sub-job with critical time 0; jobs count 1, 2, ..
pub data Subjob : Type 0 where
  sub : ℕ → ℕ → ℕ → Subjob

abbrev pub release_of : Subjob → ℕ
release_of (sub r c u) = r

abbrev pub execution_of : Subjob → ℕ
execution_of (sub r c u) = c

abbrev pub upper_of : Subjob → ℕ
upper_of (sub r c u) = u

abbrev pub set_of : List Subjob → Subjobs
set_of js =
    subjobs (from 1 (length js)) (replicate (length js) 1) (map release_of js) (map execution_of js) (map upper_of js)
    (replicate (length js) 0)

pub data Row : Type 0 where
  assigned : Subjobs → List ℤ → List ℕ → Row
  based : Subjobs → List ℕ → ℕ → Row
  ran : Subjobs → List ℕ → List ℕ → List ℤ → List ℕ → ℕ → ℕ → Row
  checked : Subjobs → List ℕ → List ℤ → Row

-- Before the call the result list holds 99s, which no row gives: what an accepted call leaves unwritten shows, and what a
-- refused one clears.
abbrev pub old : Subjobs → List ℕ
old s = replicate (size s) 99

-- Nor are the totals zero: a run adds its ticks to them.
abbrev pub lent : Totals
lent = record { busy = 3; idle = 5 }

abbrev pub HoldsAt : Row → Type 0
HoldsAt (assigned s v ds) =
    (olda.values (olda.answer s (length (old s))) ≡ v) × (olda.results s (old s) ≡ ds)
HoldsAt (based s xs m) =
    (base (release s) (execution s) (in_order (release s) (places (size s))) ≡ xs)
    × (best (release s) (execution s) (in_order (release s) (places (size s))) ≡ m)
HoldsAt (ran s ds asks v fs b i) =
    (edf.values (edf.answer s ds asks (length (old s)) lent) ≡ v)
    × (edf.finishes s ds asks (old s) lent ≡ fs)
    × (edf.totals s ds asks (length (old s)) lent ≡ record { busy = lent.busy + b; idle = lent.idle + i })
HoldsAt (checked s ds v) = checker.values (checker.answer s ds) ≡ v

abbrev pub Holds : List Row → Type 0
Holds [] = Unit {0}
Holds (x ∷ xs) = HoldsAt x × Holds xs

-- 0, least slack, its place
abbrev pub least_slack : ℕ → ℕ → List ℤ
least_slack slack place = pos 0 ∷ pos slack ∷ pos place ∷ []

-- 0, the end of the run
abbrev pub ended : ℕ → List ℤ
ended end = pos 0 ∷ pos end ∷ []

-- number, place, field (none), completion, bound
abbrev pub refused : ℕ → ℕ → ℕ → ℤ → List ℤ
refused number place completion bound = pos number ∷ pos place ∷ pos 0 ∷ pos completion ∷ bound ∷ []

-- number, place, field of a refusal that has no completion and no bound
abbrev pub field : ℕ → ℕ → ℕ → List ℤ
field number place f = pos number ∷ pos place ∷ pos f ∷ pos 0 ∷ pos 0 ∷ []

abbrev pub p4 : Subjobs
p4 = set_of (sub 0 2 35 ∷ sub 4 2 42 ∷ sub 5 2 39 ∷ sub 6 1 35 ∷ [])

abbrev pub p5 : Subjobs
p5 = set_of (sub 0 4 20 ∷ sub 4 3 10 ∷ [])

-- of jobs 5 and 2
abbrev pub p6 : Subjobs
p6 = subjobs (5 ∷ 2 ∷ []) (1 ∷ 1 ∷ []) (0 ∷ 0 ∷ []) (2 ∷ 3 ∷ []) (9 ∷ 9 ∷ []) (0 ∷ 0 ∷ [])

abbrev pub p8 : Subjobs
p8 = set_of (sub 0 3 3 ∷ sub 1 1 2 ∷ [])

abbrev pub table : List Row
table =
    -- P1 empty set: nothing to place
    assigned (set_of []) (pos 0 ∷ []) []
    -- P2
    ∷ assigned (set_of (sub 0 1 1 ∷ [])) (least_slack 0 0) (1 ∷ [])
    -- P3
    ∷ assigned (set_of (sub 0 2 1 ∷ [])) (refused 5 0 2 (pos 1)) (99 ∷ [])
    -- P4
    ∷ assigned p4 (least_slack 28 3) (2 ∷ 9 ∷ 8 ∷ 7 ∷ [])
    ∷ based p4 (1 ∷ 2 ∷ 3 ∷ []) 9
    -- P5
    ∷ assigned p5 (least_slack 3 1) (4 ∷ 7 ∷ [])
    -- P6
    ∷ assigned p6 (least_slack 4 0) (5 ∷ 3 ∷ [])
    -- P7, with deadline 3 and critical time 5
    ∷ assigned (subjobs (1 ∷ []) (1 ∷ []) (0 ∷ []) (1 ∷ []) (3 ∷ []) (5 ∷ [])) (refused 5 0 1 (neg_ℤ (pos 2))) (99 ∷ [])
    -- P8
    ∷ assigned p8 (refused 5 0 4 (pos 3)) (99 ∷ 99 ∷ [])
    -- P9
    ∷ assigned (set_of (sub 1_000_000_000 1_000_000 2_000_000_000 ∷ [])) (least_slack 999_000_000 0) (1_001_000_000 ∷ [])
    -- P10
    ∷ ran p4 (2 ∷ 9 ∷ 8 ∷ 7 ∷ []) (2 ∷ 1 ∷ 0 ∷ 5 ∷ []) (ended 7) (2 ∷ 5 ∷ 5 ∷ 7 ∷ []) 4 3
    -- P11
    ∷ checked p5 (7 ∷ 7 ∷ []) (pos 0 ∷ [])
    ∷ checked p5 (3 ∷ 7 ∷ []) (refused 6 0 0 (pos 0))
    -- P12
    ∷ checked p8 (3 ∷ 2 ∷ []) (refused 7 0 0 (pos 0))
    -- execution 0 at place 0 and equal pairs at 1 and 2
    ∷ assigned (subjobs (1 ∷ 2 ∷ 2 ∷ []) (1 ∷ 1 ∷ 1 ∷ []) (0 ∷ 0 ∷ 0 ∷ []) (0 ∷ 1 ∷ 1 ∷ []) (9 ∷ 9 ∷ 9 ∷ []) (0 ∷ 0 ∷ 0 ∷ [])) (field 3 0 2) (99 ∷ 99 ∷ 99 ∷ [])
    ∷ []
