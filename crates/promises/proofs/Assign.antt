-- What is promised of `assign` holds: its answers are those of RULES, by the laws of the rules and of refusals 1 to 4.
use Rattle.std.specs.Prelude.{Ok, Err, Some, None}
use Prim.Native.Nat.{ℕ, ◌+◌}
use mathlib.Core.Bool.{true}
use mathlib.Core.List.{List, [], ◌∷◌}
use mathlib.Core.Logic.{inl, inr}
use mathlib.Core.Option.{some}
use mathlib.Core.Path.{◌≡◌, refl, sym, ap, ◌∙◌}
use native.Mathlib.Omega.{arith}
use lib.Dec.{ltb}
use lib.IntN.{ℤ, pos}
use lib.ListN.{length}
use lib.Signed.{lt_z}
use Rattle.lists.specs.Places.{places, from}
use Rattle.lists.specs.Order.{choose}
use Rattle.lists.proofs.Cases.{split, test, clash, tests}
use Rattle.lists.proofs.Members.{in_nil, in_places, places_in, places-nil}
use Rattle.lists.proofs.Choice.{choose_cases, chosen_in, chosen_earliest}
use Rattle.subjobs.specs.declared.Reason.{Reason}
use Rattle.subjobs.specs.declared.Reason.TheVariants.{Late}
use Rattle.subjobs.specs.Sets.{Subjobs, size}
use Rattle.subjobs.specs.Terms.{terms, bound, slack, by_slack, lower}
use Rattle.subjobs.specs.Judging.{judgement}
use Rattle.subjobs.specs.Faults.{Fit}
use Rattle.subjobs.proofs.Fit.{fit_passes}
use Rattle.subjobs.proofs.Bounds.{bound_order, bound_less, bound_met, slack_less, lower_order, lower_total, lower_says}
use Rattle.rules.specs.Method.{Outcome, placed, stuck, method}
use Rattle.rules.specs.Rules.{over, Accepted}
use Rattle.rules.proofs.Tails.{attained, base_threshold}
use Rattle.rules.proofs.ReleaseOrder.{inorder_arranged, nodup_arranged, arranged_in, in_arranged}
use Rattle.rules.proofs.Rules.{tail_base, base_tail, turn_falls}
use Rattle.rules.proofs.Obeys.{fit_ones, method-placed, method-stuck, accepted_one, refused_one, accepted_refused}
use Rattle.rules.proofs.Accepted.{accepted_six, accepted_seven, accepted_apart}
use Rattle.rules.proofs.Slack.{chosen_slack, least_slack_one}
use Rattle.olda.specs.Answers.{report, answer, results, values}
use Rattle.promises.specs.Words.{accepted, Assigned, at}
use Rattle.promises.specs.Assign as says
use Rattle.promises.specs.Assign.{Reported, results_fit, AssignSays, AssignAnswers, RulesAllowOne, ReleaseOrderIsTheSet, TailIsTheBase, TailIsOneRelease, CompletionsFall, DeadlinesDiffer, DeadlinesMeetSixAndSeven, SumsAreSigned, TiesByPair}
use Rattle.promises.proofs.Faulted.{faulted, judged_cases, refused_number}

-- Nobody is placed in an empty set.
empty : (s : Subjobs) (d : ℕ → ℕ) → size s ≡ 0 → Accepted s d
unfolding from
empty s d z = rw z over

-- The report of deadlines ds: nothing for an empty set, and otherwise the least slack and the smallest place that has it.
module _ (s : Subjobs) (ds : List ℕ) where
  pub report_none : size s ≡ 0 → report s (at ds) ≡ None
  unfolding report
  report_none z =
      split (choose_cases (by_slack (terms s) (at ds)) (places (size s)))
      (λ w. rw w.1)
      (λ w. absurd (omega (arith, places_in (size s) w.0 w.1)))

  pub report-some :
      (p : ℕ)
      → choose (by_slack (terms s) (at ds)) (places (size s)) ≡ some p
      → report s (at ds) ≡ Some (record { slack = slack (terms s) (at ds) p; place = p })
  unfolding report
  report-some p e = rw e

  -- Of two slacks of one size neither is below the other.
  no_less : (p q : ℕ) → slack (terms s) (at ds) p ≡ slack (terms s) (at ds) q → by_slack (terms s) (at ds) q p ≡ true → ⊥
  no_less p q e h =
      clash h
      (slack_less (terms s) (at ds) q p
      ∙ ap (λ (x : ℤ). lt_z (slack (terms s) (at ds) q) x) e
      ∙ sym (slack_less (terms s) (at ds) q q)
      ∙ (bound_order (terms s).deadline (λ i. (terms s).withheld i + at ds i)).irrefl q)

  -- The place that is chosen is reported ..
  pub chosen_reported :
      {p : ℕ} → choose (by_slack (terms s) (at ds)) (places (size s)) ≡ some p → Reported s ds p (slack (terms s) (at ds) p)
  chosen_reported {p} e =
      let o = bound_order (terms s).deadline (λ i. (terms s).withheld i + at ds i) in
      let w = chosen_slack (terms s) (at ds) (places (size s)) e in
      let h = places_in (size s) p (chosen_in (by_slack (terms s) (at ds)) (places (size s)) e) in (
        w,
        h,
        refl,
        λ i l q. no_less i p q (chosen_earliest (by_slack (terms s) (at ds)) o (size s) p i e (omega arith) l),
      )

  -- .. and what is reported was chosen.
  reported_chosen : {p : ℕ} {x : ℤ} → Reported s ds p x → choose (by_slack (terms s) (at ds)) (places (size s)) ≡ some p
  reported_chosen {p} {x} h =
      split (choose_cases (by_slack (terms s) (at ds)) (places (size s)))
      (λ w. in_nil (rw w.0 at (in_places (size s) p h.1)))
      (λ w.
      let q : ℕ = w.0 in
      let c = chosen_reported w.2 in
      let same : slack (terms s) (at ds) q ≡ x = least_slack_one (terms s) (at ds) (places (size s)) c.0 h.0 in
      test (ltb p q)
      (λ l. absurd (c.3 p (omega tests) (h.2 ∙ sym same)))
      (λ l.
      test (ltb q p)
      (λ m. absurd (h.3 q (omega tests) same))
      (λ m. let e : q ≡ p = omega tests in w.2 ∙ ap some e)))

-- A report is an acceptance.
pub report-accepted : (s : Subjobs) (ds : List ℕ) → accepted (values (Ok (report s (at ds))))
report-accepted s ds =
    split (choose_cases (by_slack (terms s) (at ds)) (places (size s)))
    (λ w. rw (report_none s ds (places-nil (size s) w.0)) refl)
    (λ w. rw (report-some s ds w.0 w.2) refl)

pub nil : (l : List ℕ) → length l ≡ 0 → l ≡ []
nil [] e = refl
nil (x ∷ l) e = absurd (omega arith)

-- What `assign` answers and leaves, by what the judgement and the method say.
module _ (s : Subjobs) (out : List ℕ) where
  pub refused_answer : {r : Reason} → judgement s (results_fit s out) ≡ Err r → (answer s (length out) ≡ Err r) × (results s out ≡ out)
  unfolding answer results
  refused_answer e = (rw e, rw e)

  module _ (f : Fit s (results_fit s out)) where
    passed : judgement s (results_fit s out) ≡ Ok tt
    passed = fit_passes s (results_fit s out) f

    pub placed-answer : (ds : List ℕ) → method s ≡ placed ds → (answer s (length out) ≡ Ok (report s (at ds))) × (results s out ≡ ds)
    unfolding answer results
    placed-answer ds q = (rw (passed, q), rw (passed, q))

    pub stuck-answer : (p m : ℕ) → method s ≡ stuck p m → (answer s (length out) ≡ Err (Late p m (bound (terms s) p))) × (results s out ≡ out)
    unfolding answer results
    stuck-answer p m q = (rw (passed, q), rw (passed, q))

    by_method : (w : Outcome) → method s ≡ w → AssignSays s out (values (answer s (length out))) (results s out)
    by_method (stuck p m) q =
        let a = stuck-answer p m q in
        rw (a.0, a.1) (says.late f ((method-stuck s f p m).0 q))
    by_method (placed ds) q =
        let a = placed-answer ds q in
        let b = (method-placed s f ds).0 q in
        split (choose_cases (by_slack (terms s) (at ds)) (places (size s)))
        (λ w.
        let z = places-nil (size s) w.0 in
        rw (a.0, a.1, report_none s ds z, nil ds (b.0 ∙ z)) (says.nothing f z))
        (λ w. rw (a.0, a.1, report-some s ds w.0 w.2) (says.placed f b.0 b.1 (chosen_reported s ds w.2)))

  says_so : AssignSays s out (values (answer s (length out))) (results s out)
  says_so =
      split (judged_cases s (results_fit s out))
      (λ w. let a = refused_answer w.1 in rw (a.0, a.1) (says.faulty w.2))
      (λ f. by_method f (method s) refl)

  -- What RULES says is what `assign` answers.
  only : {v : List ℤ} {l : List ℕ} → AssignSays s out v l → (v ≡ values (answer s (length out))) × (l ≡ results s out)
  only (says.faulty h) =
      let w = faulted s (results_fit s out) h in
      let a = refused_answer w.1 in
      (w.2 ∙ sym (ap values a.0), sym a.1)
  only (says.late {p} {m} f h) =
      let a = stuck-answer f p m ((method-stuck s f p m).1 h) in
      (sym (ap values a.0), sym a.1)
  only (says.nothing f z) =
      let a = placed-answer f [] ((method-placed s f []).1 (sym z, empty s (at []) z)) in
      (sym (ap values (a.0 ∙ ap Ok (report_none s [] z))), sym a.1)
  only (says.placed {ds} {p} {x} f l h r) =
      let a = placed-answer f ds ((method-placed s f ds).1 (l, h)) in
      let c = report-some s ds p (reported_chosen s ds r) in
      (ap (λ (y : ℤ). pos 0 ∷ y ∷ pos p ∷ []) (sym r.2) ∙ sym (ap values (a.0 ∙ ap Ok c)), sym a.1)

pub assign_answers : AssignAnswers
assign_answers s out = (says_so s out, λ v l h. only s out h)

-- A refusal leaves the list.
pub assign_keeps : (s : Subjobs) (out : List ℕ) {v : List ℤ} {l : List ℕ} → AssignSays s out v l → (accepted v → ⊥) → l ≡ out
assign_keeps s out (says.faulty f) n = refl
assign_keeps s out (says.late f h) n = refl
assign_keeps s out (says.nothing f z) n = absurd (n refl)
assign_keeps s out (says.placed f l h r) n = absurd (n refl)

pub rules_allow_one : RulesAllowOne
rules_allow_one s o f =
    (λ d d' a a'. accepted_one s f a a', λ p m p' m' h h'. refused_one s f h h', λ d p m a h. accepted_refused s f a h)

pub release_order_is_the_set : ReleaseOrderIsTheSet
release_order_is_the_set r xs =
    (inorder_arranged r xs, nodup_arranged r xs, λ i. ((λ m. arranged_in r xs m), λ m. in_arranged r xs m))

pub tail_is_the_base : TailIsTheBase
tail_is_the_base T xs s ones n U = (base_tail T xs s ones U, tail_base T xs s ones U n)

pub tail_is_one_release : TailIsOneRelease
tail_is_one_release r c xs s ones = (sym (base_threshold r c xs s ones), attained r c xs s)

pub completions_fall : CompletionsFall
completions_fall s xs ones b m b' m' t t' = turn_falls (terms s) (lower_order s) xs ones t t'

pub ties_by_pair : TiesByPair
ties_by_pair s i j = (
  lower_says s i j,
  λ o f a b n.
      test (lower s i j)
      (λ y. inl ((lower_says s i j).0 y))
      (λ y.
      test (lower s j i)
      (λ z. inr ((lower_says s j i).0 z))
      (λ z. absurd (n (lower_total s f.pairs i j (in_places (size s) i a) (in_places (size s) j b) y z)))),
)

pub sums_are_signed : SumsAreSigned
sums_are_signed T d i j = (bound_less T i j, bound_met T (d i) i, slack_less T d i j)

-- An accepted set passed refusals 1 to 4, and the rules gave it the deadlines that were left.
module _ (s : Subjobs) (ds : List ℕ) (h : Assigned s ds) where
  abbrev lent : List ℕ
  lent = h.0

  taken :
      {v : List ℤ} {l : List ℕ} → accepted v → AssignSays s lent v l → Fit s (results_fit s lent) × (length l ≡ size s) × Accepted s (at l)
  taken a (says.faulty f) = let w = faulted s (results_fit s lent) f in absurd (refused_number w.0 (rw w.2 at a))
  taken a (says.late f r) = let z : ◌≡◌ {A = ℕ} 5 0 = cc in absurd (omega arith)
  taken a (says.nothing f z) = (f, sym z, empty s (at []) z)
  taken a (says.placed f l r q) = (f, l, r)

  pub assigned_rules : Fit s (results_fit s lent) × (length ds ≡ size s) × Accepted s (at ds)
  assigned_rules = rw h.2 at (taken h.1 (says_so s lent))

pub deadlines_meet_six_and_seven : DeadlinesMeetSixAndSeven
deadlines_meet_six_and_seven s ds h =
    let w = assigned_rules s ds h in
    (accepted_six (terms s) (places (size s)) w.2, accepted_seven (terms s) (places (size s)) w.2)

pub deadlines_differ : DeadlinesDiffer
deadlines_differ s ds h i j p q =
    let w = assigned_rules s ds h in
    accepted_apart (terms s) (lower_order s) (places (size s)) (fit_ones s w.0) w.2
    (in_places (size s) i p) (in_places (size s) j q)
