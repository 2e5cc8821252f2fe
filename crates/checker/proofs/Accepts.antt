-- What the checker's answer says: it accepts exactly the deadlines that meet (6) and (7), and otherwise refuses by 1 to 4,
-- names the smallest place that fails (6) or, where all meet (6), the smallest that the core finishes late.
--
--   Meets s ds i   == place i meets (6)
--   OnTime s ds i  == with every ask equal to execution place i finishes by its deadline
--   Unmets, Misses == what numbers 6 and 7 say
use Prim.Native.Nat.{ℕ, ◌+◌, ◌≤◌, ◌<◌}
use mathlib.Core.Bool.{Bool, true, false, ◌&&◌}
use mathlib.Core.List.{List}
use mathlib.Core.Logic.{◌⊎◌, ◌↔◌}
use mathlib.Core.Path.{◌≡◌}
use native.Mathlib.Omega.{arith}
use borrow.Author.Tests.{le-leb}
use lib.Dec.{leb, eqb}
use lib.ListN.{length, get_or}
use Rattle.lists.specs.Places.{places}
use Rattle.lists.proofs.Cases.{clash, tests, both}
use Rattle.lists.proofs.Members.{places_in, in_places}
use Rattle.subjobs.specs.declared.Reason.{Reason}
use Rattle.subjobs.specs.declared.Reason.TheVariants.{Unmet, Missed}
use Rattle.subjobs.specs.Sets.{Subjobs, size}
use Rattle.subjobs.specs.Terms.{Terms, terms}
use Rattle.subjobs.specs.Judging.{or_else}
use Rattle.subjobs.specs.Faults.{Fit, Faulty}
use Rattle.subjobs.specs.Conditions.{SixAt, Six, Seven}
use Rattle.subjobs.proofs.Exactly.{Exactly, exactly_unless, exactly_or, exactly_first}
use Rattle.subjobs.proofs.Fit as subjobs
use Rattle.ticks.specs.Runs.{due, served_before, run}
use Rattle.ticks.proofs.Service.{counters}
use Rattle.ticks.proofs.Ticks.{finish_at}
use Rattle.ticks.proofs.Keeps.{met}
use Rattle.ticks.proofs.Converse.{met_seven}
use Rattle.checker.specs.Answers.{judged, six, seven}

-- (6) at one place, as a test.
module _ (T : Terms) (d : ℕ → ℕ) (i : ℕ) where
  abbrev six_test : Bool
  six_test = leb (T.release i + T.execution i) (d i) && leb (d i + T.withheld i) (T.deadline i)

  six_yes : six_test ≡ true → SixAt T d i
  six_yes e =
      let h = both {a = leb (T.release i + T.execution i) (d i)} {b = leb (d i + T.withheld i) (T.deadline i)} e in
      let a = h.0 in
      let b = h.1 in
      (omega tests, omega tests)

  six_no : six_test ≡ false → SixAt T d i → ⊥
  six_no e m = clash (rw (le-leb _ _ m.0, le-leb _ _ m.1)) e

module _ (s : Subjobs) (ds : List ℕ) where
  abbrev proposed : ℕ → ℕ
  proposed i = get_or ds i 0

  abbrev finish_of : ℕ → ℕ
  finish_of i = get_or (run s ds s.executions).finishes i 0

  abbrev pub Meets : ℕ → Type 0
  Meets = SixAt (terms s) proposed

  abbrev pub OnTime : ℕ → Type 0
  OnTime i = finish_of i ≤ proposed i

  abbrev pub All : (ℕ → Type 0) → Type 0
  All P = (i : ℕ) → i < size s → P i

  abbrev pub Unmets : Reason → Type 0
  Unmets r = (p : ℕ) × (p < size s) × ((i : ℕ) → i < p → Meets i) × ((r ≡ Unmet p) × (Meets p → ⊥))

  abbrev pub Misses : Reason → Type 0
  Misses r = (p : ℕ) × (p < size s) × ((i : ℕ) → i < p → OnTime i) × ((r ≡ Missed p) × (OnTime p → ⊥))

  -- Where (6) holds, (7) holds exactly if with every ask equal to execution every finish is at most its deadline.
  pub seven_finishes :
      {others : Bool}
      → Fit s others
      → Six (terms s) proposed (places (size s))
      → Seven (terms s) proposed (places (size s)) ↔ ((i : ℕ) → i < size s → OnTime i)
  seven_finishes F six = (
    λ seven i b. met s ds s.executions F.few seven i b (omega (arith, (six i (in_places (size s) i b)).0)),
    λ by.
        met_seven (terms s) (due s s.executions) proposed (served_before s ds) (places (size s))
        (counters s ds s.executions F.few)
        (λ i m.
        let b = places_in (size s) i m in
        (omega arith, omega (arith, (F.ranges i b).some), omega (arith, by i b, finish_at s ds s.executions i b))),
  )

  -- 6 and 7, each by itself.
  pub six_exactly : Exactly (six s ds) (All Meets) Unmets
  six_exactly =
      exactly_first _ _ _
      (λ i.
      exactly_unless (six_test (terms s) proposed i) (Unmet i) (six_yes (terms s) proposed i) (six_no (terms s) proposed i)
      (λ m n. n m))
      (size s)

  pub seven_exactly : Exactly (seven s ds) (All OnTime) Misses
  seven_exactly =
      exactly_first _ OnTime (λ i r. (r ≡ Missed i) × (OnTime i → ⊥))
      (λ i.
      exactly_unless (leb (finish_of i) (proposed i)) (Missed i) (λ e. omega tests) (λ e h. omega tests) (λ m n. n m))
      (size s)

  -- All that the checker judges: 1 to 4, then 6, then 7.
  pub checked :
      Exactly (or_else (judged s ds) (or_else (six s ds) (seven s ds)))
      (Fit s (eqb (length ds) (size s)) × (All Meets × All OnTime))
      (λ r.
      Faulty s (eqb (length ds) (size s)) r ⊎ (Fit s (eqb (length ds) (size s)) × (Unmets r ⊎ (All Meets × Misses r))))
  checked = exactly_or (subjobs.judged s (eqb (length ds) (size s))) (exactly_or six_exactly seven_exactly)
