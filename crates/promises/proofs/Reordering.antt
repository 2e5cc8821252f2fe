-- What is promised of rearranged lists holds: refusals 1 to 4 keep their number, and the renaming laws of the rules and of
-- the core carry the rest.
use Rattle.std.specs.Prelude.{Err}
use Prim.Native.Nat.{ℕ, ◌≤◌}
use mathlib.Core.Bool.{Bool}
use mathlib.Core.List.{List}
use mathlib.Core.Path.{◌≡◌, refl, ◌∙◌, subst}
use native.Mathlib.Omega.{arith}
use lib.IntN.{ℤ}
use lib.ListN.{length, get_or}
use Rattle.lists.specs.Places.{places, Rearranges, taken}
use Rattle.lists.proofs.Cases.{split}
use Rattle.lists.proofs.Members.{in_places, places_in, places-nil}
use Rattle.lists.proofs.Choice.{choose_cases}
use Rattle.lists.proofs.Taken.{standing, taken-length}
use Rattle.subjobs.specs.declared.Reason.{Reason}
use Rattle.subjobs.specs.Reasons as reasons
use Rattle.subjobs.specs.Reasons.{number_of, field_number}
use Rattle.subjobs.specs.Sets.{Subjobs, size, rearranged}
use Rattle.subjobs.specs.Terms.{terms, bound, slack, by_slack}
use Rattle.subjobs.specs.Judging.{judgement}
use Rattle.subjobs.specs.Faults as subjobs
use Rattle.subjobs.specs.Faults.{OneLength, Fit, Faulty}
use Rattle.subjobs.proofs.Exactly.{same_refused}
use Rattle.subjobs.proofs.Fit as fit
use Rattle.subjobs.proofs.Rearranging.{Alike, rearranged-size, rearranged_alike, rearranged_lengths, rearranged_fit, rearranged_judged, rearranged_stands, alike_back, taken_back}
use Rattle.rules.specs.Method.{Outcome, placed, stuck, method}
use Rattle.rules.proofs.Obeys.{method-placed}
use Rattle.rules.proofs.Slack.{least_slack_one}
use Rattle.rules.proofs.Renaming.{renamed_least_slack}
use Rattle.rules.proofs.Rearranging.{alike_renamed, method_moved, method_stays}
use Rattle.olda.specs.Answers.{answer, results, values}
use Rattle.olda.proofs.Results.{fit_inside}
use Rattle.promises.specs.Words.{refusal, at}
use Rattle.promises.specs.Assign.{Reported, results_fit}
use Rattle.promises.specs.Reordering as says
use Rattle.promises.specs.Reordering.{AssignMoves, AssignReorders}
use Rattle.promises.proofs.Assign.{nil, report_none, report-some, chosen_reported, refused_answer, placed-answer, stuck-answer}

-- What is refused by 1 to 4 has the values of such a refusal, and not number 1 where the lists are of one length.
told :
    {s : Subjobs} {others : Bool} {r : Reason}
    → OneLength s others
    → Faulty s others r
    → (p f : ℕ) × (reasons.values r ≡ refusal (number_of r) p f) × (2 ≤ number_of r) × (number_of r ≤ 4)
told l (subjobs.lengths n) = absurd (n l)
told l (subjobs.many _ m) = (0, 0, refl, omega arith, omega arith)
told l (subjobs.range p f _ _ _ _ _ _) = (p, field_number f, refl, omega arith, omega arith)
told l (subjobs.pair p _ _ _ _ _ _ _ _) = (p, 0, refl, omega arith, omega arith)

module _ (s : Subjobs) (ps : List ℕ) (r : Rearranges ps (size s)) where
  abbrev s' : Subjobs
  s' = rearranged ps s

  -- Both are refused by 2, 3 or 4, with the values of such a refusal.
  pub faulty_moves :
      (others : Bool) (q : Reason)
      → OneLength s others
      → Faulty s others q
      → (q' : Reason)
      × (judgement s' others ≡ Err q')
      × ((n p f p' f' : ℕ) × (reasons.values q ≡ refusal n p f) × (reasons.values q' ≡ refusal n p' f') × (2 ≤ n) × (n ≤ 4))
  faulty_moves others q l h =
      let w = same_refused (rearranged_judged ps s r others l) ((fit.judged_exactly s others q).1 h) in
      let a = told l h in
      let b = told (rearranged_lengths ps s r l.further) ((fit.judged_exactly s' others w.0).0 w.1) in (
        w.0,
        w.1,
        (number_of q, a.0, a.1, b.0, b.1, a.2, rw w.2 b.2, a.3, a.4),
      )

  -- Where the old places stand now.
  abbrev back : Alike (standing ps) (λ i. get_or ps i 0) s s'
  back = alike_back (rearranged_alike ps s r)

  module _ (out out' : List ℕ) (e : length out' ≡ length out) where
    fits_alike : results_fit s' out' ≡ results_fit s out
    fits_alike = rw (e, rearranged-size ps s r)

    abbrev Moves : Type 0
    Moves = AssignMoves s ps out' (values (answer s (length out))) (results s out) (values (answer s' (length out'))) (results s' out')

    module _ (f : Fit s (results_fit s out)) where
      fit_moved : Fit s' (results_fit s' out')
      fit_moved = rw fits_alike (rearranged_fit ps s r f)

      late_moves : (p m : ℕ) → method s ≡ stuck p m → Moves
      late_moves p m q =
          let h = fit_inside s f p m q in
          let k = in_places (size s) p h in
          let a = stuck-answer s out f p m q in
          let b = stuck-answer s' out' fit_moved (standing ps p) m (method_stays ps s r f p m q) in
          let same : bound (terms s') (standing ps p) ≡ bound (terms s) p = rw (back.deadline p k, back.critical p k) in
          let now = rearranged_stands ps s r p h in
          rw (a.0, a.1, b.0, b.1, same) (says.late {p' = standing ps p} now.0 now.1)

      placed_moves : (ds : List ℕ) → method s ≡ placed ds → Moves
      placed_moves ds q =
          let a = placed-answer s out f ds q in
          let b = placed-answer s' out' fit_moved (taken ps ds) (method_moved ps s r f ds q) in
          split (choose_cases (by_slack (terms s) (at ds)) (places (size s)))
          (λ w.
          let z = places-nil (size s) w.0 in
          let z' = rearranged-size ps s r ∙ z in
          rw (
            a.0,
            a.1,
            b.0,
            b.1,
            report_none s ds z,
            report_none s' (taken ps ds) z',
            nil (taken ps ds) (taken-length ps (size s) r ds ∙ z),
            nil ds (((method-placed s f ds).0 q).0 ∙ z),
          ) says.nothing)
          (λ w.
          split (choose_cases (by_slack (terms s') (at (taken ps ds))) (places (size s')))
          (λ w'. absurd (omega (arith, places-nil (size s') w'.0, rearranged-size ps s r, places_in (size s) w.0 w.1)))
          (λ w'.
          let c = chosen_reported s' (taken ps ds) w'.2 in
          let same : slack (terms s') (at (taken ps ds)) w'.0 ≡ slack (terms s) (at ds) w.0 =
          least_slack_one (terms s') (at (taken ps ds)) (places (size s')) c.0
          (renamed_least_slack (alike_renamed back) (at ds) (at (taken ps ds)) (taken_back ps s r ds) _ (chosen_reported s ds w.2).0)
          in
          rw (a.0, a.1, b.0, b.1, report-some s ds w.0 w.2, report-some s' (taken ps ds) w'.0 w'.2, same)
          (says.placed (subst (λ (x : ℤ). Reported s' (taken ps ds) w'.0 x) same c))))

pub assign_reorders : AssignReorders
assign_reorders s ps out out' l e r =
    split (fit.judged s (results_fit s out)).holds
    (λ f. by_method f (method s) refl)
    (λ q.
    let w = faulty_moves s ps r (results_fit s out) q.0 l q.1 in
    let a = refused_answer s out ((fit.judged_exactly s (results_fit s out) q.0).1 q.1) in
    let b = refused_answer (rearranged ps s) out' {r = w.0} (rw (fits_alike s ps r out out' e) w.1) in
    let v = w.2 in
    rw (a.0, a.1, b.0, b.1, v.5, v.6) (says.faulty v.7 v.8))
  where
    by_method :
        Fit s (results_fit s out)
        → (w : Outcome)
        → method s ≡ w
        → Moves s ps r out out' e
    by_method f (stuck p m) q = late_moves s ps r out out' e f p m q
    by_method f (placed ds) q = placed_moves s ps r out out' e f ds q
