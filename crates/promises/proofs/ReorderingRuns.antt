-- What is promised of rearranged lists holds of the simulator and of the checker: the run of a rearranged set is the
-- rearranged run.
use Prim.Native.Nat.{ℕ}
use mathlib.Core.Bool.{true, ◌&&◌}
use mathlib.Core.List.{List}
use mathlib.Core.Path.{◌≡◌, refl, sym, ap, ◌∙◌}
use native.Mathlib.Omega.{arith}
use borrow.Author.Tests.{eq-eqb}
use lib.Dec.{eqb}
use lib.IntN.{pos}
use lib.ListN.{length, get_or}
use Rattle.lists.specs.Places.{Rearranges, taken}
use Rattle.lists.proofs.Cases.{split, test, both}
use Rattle.lists.proofs.Members.{in_places, places_in}
use Rattle.lists.proofs.Taken.{standing, taken-length}
use Rattle.subjobs.specs.Judging.{Judgement}
use Rattle.subjobs.specs.declared.Reason.{Reason}
use Rattle.subjobs.specs.Reasons.{number_of}
use Rattle.subjobs.specs.Sets.{Subjobs, size, rearranged}
use Rattle.subjobs.specs.Judging.{or_else}
use Rattle.subjobs.specs.Faults.{OneLength, Fit, Faulty}
use Rattle.subjobs.proofs.Exactly.{SameNumber, pass, refuse, same_or, same_exactly}
use Rattle.subjobs.proofs.Fit as fit
use Rattle.subjobs.proofs.Rearranging.{rearranged-size, rearranged_alike, rearranged_fit, rearranged_judged, alike_back, alike_inside, taken_there, taken_back}
use Rattle.rules.proofs.Renaming.{renamed_six}
use Rattle.rules.proofs.Rearranging.{alike_renamed}
use Rattle.edf.specs.declared.Totals.{Totals}
use Rattle.edf.specs.Answers as edf
use Rattle.edf.specs.Answers.{further_lists, added, above}
use Rattle.ticks.specs.Runs.{Run, run}
use Rattle.ticks.proofs.Rearranging.{moved_run, run_moved}
use Rattle.checker.specs.Answers as checker
use Rattle.checker.proofs.Accepts.{six_exactly, seven_exactly}
use Rattle.promises.specs.Words.{Number, at}
use Rattle.promises.specs.Check.{proposed_fit}
use Rattle.promises.specs.Reordering as says
use Rattle.promises.specs.Reordering.{SimulateMoves, SimulateReorders, CheckReorders}
use Rattle.promises.proofs.Simulate.{refused_leaves, above_leaves, ran_leaves}
use Rattle.promises.proofs.Reordering.{faulty_moves}

-- The simulator: the run of the rearranged set is the rearranged run.
module _ (s : Subjobs) (ps ds asks fs fs' : List ℕ) (t : Totals) (r : Rearranges ps (size s)) (e : length fs' ≡ length fs) where
  abbrev ds' : List ℕ
  ds' = taken ps ds

  abbrev asks' : List ℕ
  asks' = taken ps asks

  abbrev Moved : Type 0
  Moved =
      SimulateMoves ps fs'
      (edf.values (edf.answer s ds asks (length fs) t)) (edf.finishes s ds asks fs t) (edf.totals s ds asks (length fs) t)
      (edf.values (edf.answer (rearranged ps s) ds' asks' (length fs') t)) (edf.finishes (rearranged ps s) ds' asks' fs' t)
      (edf.totals (rearranged ps s) ds' asks' (length fs') t)

  module _ (l : OneLength s (further_lists s ds asks (length fs))) where
    further_alike : further_lists (rearranged ps s) ds' asks' (length fs') ≡ further_lists s ds asks (length fs)
    further_alike =
        let n = size s in
        let last : eqb (length fs) n ≡ true =
        (both {a = eqb (length ds) n && eqb (length asks) n} {b = eqb (length fs) n} l.further).1
        in
        let all : further_lists (rearranged ps s) ds' asks' (length fs') ≡ true =
        rw (e, rearranged-size ps s r, taken-length ps n r ds, taken-length ps n r asks, eq-eqb n n refl, last)
        in
        all ∙ sym l.further

    -- Refused by 1 to 4.
    refused_moves : (q : Reason) → Faulty s (further_lists s ds asks (length fs)) q → Moved
    refused_moves q h =
        let w = faulty_moves s ps r (further_lists s ds asks (length fs)) q l h in
        let a = refused_leaves s ds asks fs t ((fit.judged_exactly s (further_lists s ds asks (length fs)) q).1 h) in
        let b = refused_leaves (rearranged ps s) ds' asks' fs' t {r = w.0} (rw further_alike w.1) in
        let v = w.2 in
        rw (a.0, a.1, a.2, b.0, b.1, b.2, v.5, v.6) (says.faulty v.7 v.8)

    -- The run is accepted, or refused by 8: by its ticks, which are the same.
    module _ (f : Fit s (further_lists s ds asks (length fs))) where
      fit_alike : Fit (rearranged ps s) (further_lists (rearranged ps s) ds' asks' (length fs'))
      fit_alike = rw further_alike (rearranged_fit ps s r f)

      moved : run (rearranged ps s) ds' asks' ≡ moved_run ps (run s ds asks)
      moved = run_moved ps s r ds asks f

      above_alike : above (added (run (rearranged ps s) ds' asks') t) ≡ above (added (run s ds asks) t)
      above_alike = ap (λ (R : Run). above (added R t)) moved

      run_moves : Moved
      run_moves =
          test (above (added (run s ds asks) t))
          (λ y.
          let a = above_leaves s ds asks fs t f y in
          let b = above_leaves (rearranged ps s) ds' asks' fs' t fit_alike (above_alike ∙ y) in
          rw (a.0, a.1, a.2, b.0, b.1, b.2) says.above)
          (λ n.
          let a = ran_leaves s ds asks fs t f n in
          let b = ran_leaves (rearranged ps s) ds' asks' fs' t fit_alike (above_alike ∙ n) in
          rw (a.0, a.1, a.2, b.0, b.1, b.2, moved) says.ran)

pub simulate_reorders : SimulateReorders
simulate_reorders s ps ds asks fs fs' t l e r =
    split (fit.judged s (further_lists s ds asks (length fs))).holds
    (λ f. run_moves s ps ds asks fs fs' t r e l f)
    (λ q. refused_moves s ps ds asks fs fs' t r e l q.0 q.1)

-- The checker: 1 to 4 as above, then 6 and 7, each for some place exactly if it is for some place.
module _ (s : Subjobs) (ps ds : List ℕ) (l : OneLength s (proposed_fit s ds)) (r : Rearranges ps (size s)) where
  abbrev new : Subjobs
  new = rearranged ps s

  abbrev proposed : List ℕ
  proposed = taken ps ds

  proposed_alike : proposed_fit new proposed ≡ proposed_fit s ds
  proposed_alike =
      let n = size s in
      let all : proposed_fit new proposed ≡ true = rw (rearranged-size ps s r, taken-length ps n r ds, eq-eqb n n refl) in
      all ∙ sym l.further

  six_alike : SameNumber (checker.six s ds) (checker.six new proposed)
  six_alike =
      let e = rearranged_alike ps s r in
      same_exactly 6 (six_exactly s ds) (six_exactly new proposed)
      (λ h i b.
      renamed_six (alike_renamed (alike_back e)) (at ds) (at proposed) (taken_back ps s r ds) (λ j m. h j (places_in (size s) j m)) i
      (in_places (size new) i b))
      (λ h i b.
      renamed_six (alike_renamed e) (at proposed) (at ds) (taken_there ps s r ds) (λ j m. h j (places_in (size new) j m)) i
      (in_places (size s) i b))
      (λ q w. ap number_of w.3.0) (λ q w. ap number_of w.3.0)

  seven_alike : Fit s (proposed_fit s ds) → SameNumber (checker.seven s ds) (checker.seven new proposed)
  seven_alike f =
      let e = rearranged_alike ps s r in
      let F : List ℕ = (run s ds s.executions).finishes in
      let G : List ℕ = (run new proposed new.executions).finishes in
      let same : G ≡ taken ps F = ap (λ (R : Run). R.finishes) (run_moved ps s r ds s.executions f) in
      same_exactly 7 (seven_exactly s ds) (seven_exactly new proposed)
      (λ h i b.
      let m = in_places (size new) i b in
      omega (
        arith,
        ap (λ (xs : List ℕ). get_or xs i 0) same,
        taken_there ps s r F i m,
        taken_there ps s r ds i m,
        h (get_or ps i 0) (alike_inside e i b),
      ))
      (λ h i b.
      let m = in_places (size s) i b in
      omega (
        arith,
        ap (λ (xs : List ℕ). get_or xs (standing ps i) 0) same,
        taken_back ps s r F i m,
        taken_back ps s r ds i m,
        h (standing ps i) (alike_inside (alike_back e) i b),
      ))
      (λ q w. ap number_of w.3.0) (λ q w. ap number_of w.3.0)

  checked_alike :
      SameNumber (or_else (checker.judged s ds) (or_else (checker.six s ds) (checker.seven s ds)))
      (or_else (checker.judged new proposed) (or_else (checker.six new proposed) (checker.seven new proposed)))
  checked_alike =
      same_or {a' = checker.judged new proposed} (rw proposed_alike (rearranged_judged ps s r (proposed_fit s ds) l))
      (λ p. same_or six_alike (λ q. seven_alike (fit.fit s (proposed_fit s ds) p)))

-- An answer's number is that of its judgement.
number_alike :
    {j j' : Judgement} (n : ℕ)
    → SameNumber j j'
    → Number n (checker.values j)
    → Number n (checker.values j')
number_alike n pass h = h
number_alike n (refuse e) h = ap pos (sym e) ∙ h

pub check_reorders : CheckReorders
unfolding checker.answer
check_reorders s ps ds l r n h = number_alike n (checked_alike s ps ds l r) h
