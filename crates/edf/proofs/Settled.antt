-- The answer to a run that was served out: number 8, or the run with its ticks added to the totals.
--
--   read_off L e  == the run that is read off the core e of L
use Rattle.std.specs.Prelude.{Ok, Err}
use Prim.Native.Nat.{ℕ, ◌+◌, ◌-◌, ◌≤◌}
use mathlib.Core.Bool.{Bool, true, false}
use mathlib.Core.List.{List, [], ◌∷◌, map, Memᴰ}
use mathlib.Core.Path.{◌≡◌, refl, sym, ap, ◌∙◌}
use native.Mathlib.Omega.{arith}
use borrow.Author.Tests.{eqb-true}
use lib.Dec.{ltb}
use lib.ListN.{length}
use Rattle.lists.specs.Places.{filter, greatest}
use Rattle.lists.proofs.Members.{filter_in}
use Rattle.lists.proofs.Cases.{test, tests, both}
use Rattle.subjobs.specs.declared.Reason.{Reason}
use Rattle.subjobs.specs.declared.Reason.TheVariants as reason
use Rattle.subjobs.specs.Sets.{Subjobs, subjobs_of, size}
use Rattle.subjobs.specs.Judging.{judgement}
use Rattle.ticks.specs.Core.{Load, after, ended}
use Rattle.ticks.specs.Runs.{Run, horizon, finish, end, busy_ticks, idle_ticks, run_of, run}
use Rattle.ticks.proofs.Service.{Counters, counters}
use Rattle.ticks.proofs.Counted.{busy_done, done_horizon}
use Rattle.ticks.proofs.Ends.{finish-owed, busy_owed, all_ticks}
use Rattle.ticks.proofs.Ticks.{run_ticks}
use Rattle.edf.specs.declared.Totals.{Totals}
use Rattle.edf.specs.declared.Simulated.{Simulated}
use Rattle.edf.specs.declared.runs.Core.{Core}
use Rattle.edf.specs.declared.work.Work.{Work}
use Rattle.edf.specs.Answers.{added, above, further_lists, answer, totals, finishes, Simulates}
use Rattle.edf.specs.Parts.{load_of, finish_in, end_in, RanOut, settled, written, Settles}

-- What is read off the core when all is served is the run.
abbrev read_off : Load → Core → Run
read_off L e =
    record {
      finishes = map (finish_in L e.finish) L.on;
      end = end_in L e.finish;
      busy = e.busy;
      idle = end_in L e.finish - e.busy;
    }

greatest_same :
    (f g : ℕ → ℕ) (xs : List ℕ) → ((i : ℕ) → Memᴰ i xs → f i ≡ g i) → greatest f xs ≡ greatest g xs
unfolding greatest
greatest_same f g [] h = refl
greatest_same f g (x ∷ xs) h =
    rw (h x (Memᴰ.head refl), greatest_same f g xs (λ i m. h i (Memᴰ.tail m)))

module _ (L : Load) (K : Counters L) where
  end_is : greatest (ended L (horizon L)) (filter (λ i. ltb 0 (L.owed i)) L.on) ≡ end L
  unfolding end
  end_is =
      let U : ℕ → Bool = λ i. ltb 0 (L.owed i) in
      greatest_same (ended L (horizon L)) (finish L) (filter U L.on)
      (λ i m. let u = (filter_in U L.on m).1 in sym (finish-owed L i (omega tests)))

  busy_is : (after L (horizon L)).busy ≡ busy_ticks L
  busy_is = busy_done L K (horizon L) (done_horizon L K) ∙ sym (busy_owed L K)

  idle_is : end L - busy_ticks L ≡ idle_ticks L
  idle_is = omega (arith, all_ticks L)

module _ (w : Work) (e : Core) (R : RanOut w e) where
  pub run_is : read_off (load_of w) e ≡ run_of (load_of w)
  unfolding run_of finish
  run_is =
      let L = load_of w in
      let K = counters (subjobs_of w.fit.set) w.local.now w.asks.now w.fit.fit.few in
      rw (R.finish, R.busy, end_is L K, busy_is L K, idle_is L K)

  pub busy_first : e.busy ≤ end_in (load_of w) e.finish
  busy_first =
      omega (
        arith,
        ap (λ (r : Run). r.end) run_is,
        ap (λ (r : Run). r.busy) run_is,
        run_ticks (subjobs_of w.fit.set) w.local.now w.asks.now,
      )

  -- The totals after it, with m for its end,
  module _ (t : Totals) (m : ℕ) (is : m ≡ end_in (load_of w) e.finish) (old : List ℕ) where
    abbrev pub after_it : Totals
    after_it = record { busy = t.busy + e.busy; idle = t.idle + (m - e.busy) }

    -- are left alone by a refusal, as the list is,
    pub settled_refused : above after_it ≡ true → Settles w old t (record { answer = Err reason.Totals; totals = t }) old
    settled_refused a =
        let b : above (added (read_off (load_of w) e) t) ≡ true = rw is at a in
        let g : record { answer = Err reason.Totals; totals = t } ≡ settled (read_off (load_of w) e) t = rw b in
        let k : old ≡ written (read_off (load_of w) e) t old = rw b in
        record { gives = g ∙ ap (λ (r : Run). settled r t) run_is; writes = k ∙ ap (λ (r : Run). written r t old) run_is }

    -- and otherwise hold its ticks too.
    pub settled_ran :
        above after_it ≡ false
        → (new : List ℕ) → new ≡ map (finish_in (load_of w) e.finish) (load_of w).on
        → Settles w old t (record { answer = Ok (record { end = m }); totals = after_it }) new
    settled_ran a new q =
        let b : above (added (read_off (load_of w) e) t) ≡ false = rw is at a in
        let g : record { answer = Ok (record { end = m }); totals = after_it } ≡ settled (read_off (load_of w) e) t = rw (is, b) in
        let k : new ≡ written (read_off (load_of w) e) t old = rw b q in
        record { gives = g ∙ ap (λ (r : Run). settled r t) run_is; writes = k ∙ ap (λ (r : Run). written r t old) run_is }

-- The simulator's answer by what refusals 1 to 4 say.
module _ (s : Subjobs) (ds asks : List ℕ) (t : Totals) (fs : List ℕ) where
  pub simulated_refused :
      (why : Reason) → judgement s (further_lists s ds asks (length fs)) ≡ Err why
      → Simulates s ds asks fs t (record { answer = Err why; totals = t }) fs
  unfolding answer totals finishes
  simulated_refused why e = record { gives = rw e; writes = rw e }

  pub simulated_ran :
      judgement s (further_lists s ds asks (length fs)) ≡ Ok tt
      → (got : Simulated) (new : List ℕ)
      → got ≡ settled (run s ds asks) t → new ≡ written (run s ds asks) t fs
      → Simulates s ds asks fs t got new
  unfolding answer totals finishes
  simulated_ran p got new g w =
      test (above (added (run s ds asks) t))
      (λ a. record { gives = g ∙ rw (p, a); writes = w ∙ rw (p, a) })
      (λ a. record { gives = g ∙ rw (p, a); writes = w ∙ rw (p, a) })

-- The further lists are as long as the six.
pub further : (s : Subjobs) (ds asks : List ℕ) (n : ℕ) → further_lists s ds asks n ≡ true → (length ds ≡ size s) × (length asks ≡ size s) × (n ≡ size s)
further s ds asks n h =
    let a = both h in
    let b = both a.0 in
    (eqb-true _ _ b.0, eqb-true _ _ b.1, eqb-true _ _ a.1)
