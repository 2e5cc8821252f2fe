-- What is promised of the simulator holds: its answers are those of RULES, and a run's numbers are the single-tick core's.
use Rattle.std.specs.Prelude.{Ok, Err}
use Prim.Native.Nat.{ℕ, ◌+◌, ◌<◌, ◌≤◌}
use mathlib.Core.Bool.{Bool, true, false}
use mathlib.Core.List.{List}
use mathlib.Core.Logic.{◌⊎◌, inl, inr, ◌↔◌}
use mathlib.Core.Path.{◌≡◌, refl, sym, ap, ◌∙◌}
use native.Mathlib.Omega.{arith}
use borrow.Author.Tests.{lt-ltb, le-ltb}
use lib.Dec.{ltb, eqb}
use lib.IntN.{ℤ}
use lib.ListN.{length}
use Rattle.lists.proofs.Cases.{split, test, tests}
use Rattle.lists.proofs.Members.{in_places}
use Rattle.subjobs.specs.declared.Reason.{Reason}
use Rattle.subjobs.specs.declared.Reason.TheVariants as reason
use Rattle.subjobs.specs.Sets.{Subjobs, size}
use Rattle.subjobs.specs.Judging.{judgement}
use Rattle.subjobs.specs.Faults.{Fit}
use Rattle.subjobs.proofs.Fit.{fit_passes}
use Rattle.ticks.specs.Runs.{due, load, run}
use Rattle.ticks.proofs.Service.{counters, served_most}
use Rattle.ticks.proofs.Finishes.{finish_by}
use Rattle.ticks.proofs.Ticks.{finish_at, run_nothing, run_ticks, run-busy, run_finish}
use Rattle.edf.specs.Answers.{Answer}
use Rattle.edf.specs.declared.Totals.{Totals}
use Rattle.edf.specs.Answers.{added, above, further_lists, answer, totals, finishes, values}
use Rattle.promises.specs.Words.{accepted, served, finish}
use Rattle.promises.specs.Simulate as says
use Rattle.promises.specs.Simulate.{most, SimulateSays, SimulateAnswers, RunAnswers, FinishIsLastTick, ServedByFinish, OwedNothing, NeverMore, BusyIsOwed, TicksAreTheEnd, RunsAddUp}
use Rattle.promises.proofs.Faulted.{faulted, judged_cases, refused_number}

-- What the simulator answers and leaves, by what the judgement and the totals say.
module _ (s : Subjobs) (ds asks fs : List ℕ) (t : Totals) where
  abbrev pub further : Bool
  further = further_lists s ds asks (length fs)

  -- The answer with the list and the totals that are left.
  abbrev pub Leaves : Answer → List ℕ → Totals → Type 0
  Leaves r l u =
      (answer s ds asks (length fs) t ≡ r) × (finishes s ds asks fs t ≡ l) × (totals s ds asks (length fs) t ≡ u)

  pub refused_leaves : {r : Reason} → judgement s further ≡ Err r → Leaves (Err r) fs t
  unfolding answer finishes totals
  refused_leaves e = (rw e, rw e, rw e)

  module _ (f : Fit s further) where
    passed : judgement s further ≡ Ok tt
    passed = fit_passes s further f

    pub above_leaves : above (added (run s ds asks) t) ≡ true → Leaves (Err reason.Totals) fs t
    unfolding answer finishes totals
    above_leaves e = (rw (passed, e), rw (passed, e), rw (passed, e))

    pub ran_leaves :
        above (added (run s ds asks) t) ≡ false
        → Leaves (Ok (record { end = (run s ds asks).end })) (run s ds asks).finishes (added (run s ds asks) t)
    unfolding answer finishes totals
    ran_leaves e = (rw (passed, e), rw (passed, e), rw (passed, e))

    too_many : (most < t.busy + (run s ds asks).busy) ⊎ (most < t.idle + (run s ds asks).idle) → above (added (run s ds asks) t) ≡ true
    too_many h =
        split h
        (λ b. rw (lt-ltb most (t.busy + (run s ds asks).busy) b))
        (λ i.
        test (ltb most (t.busy + (run s ds asks).busy)) (λ y. rw y) (λ n. rw (n, lt-ltb most (t.idle + (run s ds asks).idle) i)))

  says_so : SimulateSays s ds asks fs t (values (answer s ds asks (length fs) t)) (finishes s ds asks fs t) (totals s ds asks (length fs) t)
  says_so =
      split (judged_cases s further)
      (λ w. let a = refused_leaves w.1 in rw (a.0, a.1, a.2) (says.faulty w.2))
      (λ f.
      test (ltb most (t.busy + (run s ds asks).busy))
      (λ y. let a = above_leaves f (rw y) in rw (a.0, a.1, a.2) (says.above f (inl (omega tests))))
      (λ n.
      test (ltb most (t.idle + (run s ds asks).idle))
      (λ y. let a = above_leaves f (rw (n, y)) in rw (a.0, a.1, a.2) (says.above f (inr (omega tests))))
      (λ m. let a = ran_leaves f (rw (n, m)) in rw (a.0, a.1, a.2) (says.ran f (omega tests) (omega tests)))))

  -- What RULES says is what the simulator answers.
  only :
      {v : List ℤ} {l : List ℕ} {u : Totals}
      → SimulateSays s ds asks fs t v l u
      → (v ≡ values (answer s ds asks (length fs) t)) × (l ≡ finishes s ds asks fs t) × (u ≡ totals s ds asks (length fs) t)
  only (says.faulty h) =
      let w = faulted s further h in
      let a = refused_leaves w.1 in
      (w.2 ∙ sym (ap values a.0), sym a.1, sym a.2)
  only (says.above f h) =
      let a = above_leaves f (too_many f h) in
      (sym (ap values a.0), sym a.1, sym a.2)
  only (says.ran f b i) =
      let a = ran_leaves f (rw (le-ltb most (t.busy + (run s ds asks).busy) b, le-ltb most (t.idle + (run s ds asks).idle) i)) in
      (sym (ap values a.0), sym a.1, sym a.2)

pub simulate_answers : SimulateAnswers
simulate_answers s ds asks fs t = (says_so s ds asks fs t, λ v l u h. only s ds asks fs t h)

pub run_answers : RunAnswers
run_answers s ds asks fs fs' t t' r h =
    rw (h.gives, h.adds, h.writes) (says_so s ds asks fs t, λ v l u q. only s ds asks fs t q)

pub finish_is_last_tick : FinishIsLastTick
finish_is_last_tick s ds asks f i h o =
    let w = run_finish s ds asks f.few i h o in
    (w.tick, w.ends, w.served, w.last)

pub owed_nothing : OwedNothing
owed_nothing s ds asks i h z = run_nothing s ds asks i h z

pub never_more : NeverMore
never_more s ds asks f t i = served_most (load s ds asks) (counters s ds asks f.few) t i

pub served_by_finish : ServedByFinish
served_by_finish s ds asks f i h =
    let L = load s ds asks in
    let K = counters s ds asks f.few in
    let most : (t : ℕ) → served s ds asks t i ≤ due s asks i = λ t. served_most L K t i in
    let by : 0 < due s asks i → (t : ℕ) → (finish s ds asks i ≤ t) ↔ (served s ds asks t i ≡ due s asks i) =
    λ o. rw (finish_at s ds asks i h) (finish_by L K i (in_places (size s) i h) o)
    in (
      test (eqb (due s asks i) 0)
          (λ z. omega (tests, most (finish s ds asks i)))
          (λ n. (by (omega tests) (finish s ds asks i)).0 (omega arith)),
      λ o t b.
          test (ltb (served s ds asks t i) (due s asks i)) (λ y. omega tests)
          (λ n. absurd (omega (tests, (by o t).1 (omega (tests, most t))))),
    )

pub busy_is_owed : BusyIsOwed
busy_is_owed s ds asks f = run-busy s ds asks f.few

pub ticks_are_the_end : TicksAreTheEnd
ticks_are_the_end s ds asks f = run_ticks s ds asks

-- An accepted run adds its ticks to the totals, and so two runs' totals add up.
ran_adds :
    (s : Subjobs) (ds asks : List ℕ) (n : ℕ) (t : Totals) (r : Answer)
    → answer s ds asks n t ≡ r
    → accepted (values r)
    → totals s ds asks n t ≡ added (run s ds asks) t
unfolding totals
ran_adds s ds asks n t (Ok p) e a = rw e
ran_adds s ds asks n t (Err r) e a = absurd (refused_number r a)

pub runs_add_up : RunsAddUp
runs_add_up s s' ds asks ds' asks' n n' t a a' =
    ran_adds s' ds' asks' n' (totals s ds asks n t) _ refl a' ∙ ap (added (run s' ds' asks')) (ran_adds s ds asks n t _ refl a)
