-- Demand 3 holds: the first half by (6) and (7), which the deadlines of an accepted set meet, the second by the exact finish.
use Prim.Native.Nat.{ℕ}
use mathlib.Core.Bool.{true}
use mathlib.Core.List.{List}
use mathlib.Core.Path.{◌≡◌}
use native.Mathlib.Omega.{arith}
use borrow.Author.Tests.{eq-eqb}
use lib.Dec.{eqb}
use lib.ListN.{length}
use Rattle.subjobs.specs.Sets.{Subjobs, size}
use Rattle.subjobs.specs.Faults.{Fit}
use Rattle.promises.specs.Words.{Assigned}
use Rattle.promises.specs.Demand3.{Demand3, InTime, CheckerAgrees, FinishIsDeadline}
use Rattle.promises.proofs.Assign.{assigned_rules, deadlines_meet_six_and_seven}
use Rattle.promises.proofs.Simulate.{never_more}
use Rattle.promises.proofs.Check.{keeps_deadlines, checks_exactly}
use Rattle.promises.proofs.Exact.{exactly_on_the_deadline}

-- An accepted set fits, whatever further lists are as long as its own.
fits : (s : Subjobs) (ds : List ℕ) → Assigned s ds → Fit s true
fits s ds h = let w = assigned_rules s ds h in rw w.0.lengths.further at w.0

pub demand_3 : Demand3
demand_3 s ds asks h =
    let m = deadlines_meet_six_and_seven s ds h in
    let w = assigned_rules s ds h in
    let f = fits s ds h in (
      λ i b. (keeps_deadlines s ds asks f m.0 m.1 i b).0,
      never_more s ds asks f,
      λ whole. exactly_on_the_deadline s true f ds asks w.2 whole w.1,
    )

pub in_time : InTime
in_time s ds asks h i b =
    let m = deadlines_meet_six_and_seven s ds h in
    (keeps_deadlines s ds asks (fits s ds h) m.0 m.1 i b).1

pub checker_agrees : CheckerAgrees
checker_agrees s ds h =
    let l : eqb (length ds) (size s) ≡ true = eq-eqb _ _ (assigned_rules s ds h).1 in
    (checks_exactly s ds (rw l (fits s ds h))).1 (deadlines_meet_six_and_seven s ds h)

pub finish_is_deadline : FinishIsDeadline
finish_is_deadline s ds h = (demand_3 s ds s.executions h).2 (λ i b. omega arith)
