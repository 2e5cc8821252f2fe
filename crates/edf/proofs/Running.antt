-- The events of a run of the work w, in the numbers that the program holds.
--
--   Served w v f b t p m == m ticks more are served to p, and all of it fits
use Prim.Native.Nat.{ℕ, ◌+◌, ◌-◌, ◌≤◌, ◌<◌}
use mathlib.Core.List.{List}
use mathlib.Core.Option as found
use mathlib.Core.Path.{◌≡◌, refl, sym, ap, ◌∙◌}
use native.Mathlib.Omega.{arith}
use lib.Dec.{ltb, eqb}
use lib.ListN.{get_or, set}
use Rattle.std.specs.Prelude.{Option, Some, None, unwrap_or}
use Rattle.lists.proofs.Cases.{test, tests}
use Rattle.lists.proofs.Members.{places_in}
use Rattle.ticks.specs.Core.{pick}
use Rattle.ticks.specs.Events.{to_serve, next_release, stretch}
use Rattle.ticks.proofs.Service.{Counters, counters}
use Rattle.ticks.proofs.Turns.{Reached, events_left, reached_busy, served_for, waited, over, horizon_fits, to_serve_lem}
use Rattle.edf.specs.declared.runs.Core.{Core}
use Rattle.edf.specs.declared.work.Work.{Work}
use Rattle.subjobs.specs.Sets.{subjobs_of}
use Rattle.edf.specs.Parts.{load_of, size_of, chosen, released, RanOut}

chosen_some : (n k p : ℕ) → Some p ≡ chosen n k → (p < n) × (p ≡ k)
chosen_some n k p e = test (ltb k n) (λ l. let z : Some p ≡ Some k = e ∙ rw l in let y : p ≡ k = cc in (omega (tests, y), y)) (λ l. let z : Some p ≡ None = e ∙ rw l in cc)

chosen_none : (n k : ℕ) → None ≡ chosen n k → n ≤ k
chosen_none n k e = test (ltb k n) (λ l. let z : None ≡ Some k = e ∙ rw l in cc) (λ l. omega tests)

released_number : (r : ℕ) → unwrap_or (released r) 0 ≡ r
released_number r = test (eqb r 0) (λ e. rw e (omega tests)) (λ e. rw e)

pub record Served (w : Work) (v f : List ℕ) (b t p m : ℕ) : Type 0 where
  pub busy : b + m ≤ 1_128_000_000
  pub moment : t + m ≤ 1_128_000_000
  pub holds : Reached (load_of w) (set v p (get_or v p 0 + m)) (set f p (t + m)) (b + m) (t + m)
  pub fewer : events_left (load_of w) (t + m) (set v p (get_or v p 0 + m)) < events_left (load_of w) t v

-- At moment t the program holds what the core of single ticks has: v served, f ended, b busy; q is to be served, and u is the
-- next release.
module _
    (w : Work) {v f : List ℕ} {b t : ℕ} {q u : Option ℕ}
    (R : Reached (load_of w) v f b t)
    (serves : q ≡ chosen (size_of w) (to_serve (load_of w) (size_of w) t v))
    (follows : u ≡ released (next_release (load_of w).release (load_of w).on t))
  where
    abbrev next : ℕ
    next = next_release (load_of w).release (load_of w).on t

    next_is : next ≡ unwrap_or u 0
    next_is = sym (released_number next) ∙ ap (λ (o : Option ℕ). unwrap_or o 0) (sym follows)

    picks :
        (p : ℕ) → p ≡ to_serve (load_of w) (size_of w) t v
        → (p < size_of w → pick (load_of w) t v ≡ found.some p) × (size_of w ≤ p → pick (load_of w) t v ≡ found.none)
    picks = to_serve_lem (load_of w) (size_of w) t v (λ i m. places_in (size_of w) i m)

    picks_some : (p : ℕ) → q ≡ Some p → pick (load_of w) t v ≡ found.some p
    picks_some p e = let h = chosen_some _ _ p (sym e ∙ serves) in (picks p h.1).0 h.0

    picks_none : q ≡ None → pick (load_of w) t v ≡ found.none
    picks_none e = (picks _ refl).1 (chosen_none _ _ (sym e ∙ serves))

    counted : Counters (load_of w)
    counted = counters (subjobs_of w.fit.set) w.local.now w.asks.now w.fit.fit.few

    -- The one to serve is owed what it has not got,
    pub owing : (p o : ℕ) → q ≡ Some p → o ≡ (load_of w).owed p → get_or v p 0 ≤ o
    owing p o h e = omega (arith, (served_for (load_of w) v f b t R counted p (picks_some p h)).0)

    -- and is served for a stretch;
    pub serves_on :
        (p o m : ℕ) → q ≡ Some p → o ≡ (load_of w).owed p → m ≡ stretch (o - get_or v p 0) t (unwrap_or u 0)
        → Served w v f b t p m
    serves_on p o m h e l =
        let s = served_for (load_of w) v f b t R counted p (picks_some p h) in
        let fits = horizon_fits (subjobs_of w.fit.set) w.local.now w.asks.now w.fit.fit.few (λ i h. ((w.fit.fit.ranges i h).release, (w.fit.fit.ranges i h).execution)) in
        rw (l, e, ← next_is)
        (record {
          busy = omega (arith, s.1.soon, reached_busy (load_of w) _ _ _ _ s.1);
          moment = omega (arith, s.1.soon);
          holds = s.1;
          fewer = s.2;
        })

    -- if there is none, the core waits for the next release,
    pub waits_on :
        (r : ℕ) → q ≡ None → u ≡ Some r
        → Reached (load_of w) v f b r × (events_left (load_of w) r v < events_left (load_of w) t v)
    waits_on r h e =
        let z : next ≡ r = next_is ∙ rw e in
        rw (← z)
        (waited (load_of w) v f b t R (picks_none h)
        (λ o. let y : released next ≡ None = rw o in let x : None ≡ Some r = sym y ∙ sym follows ∙ e in cc))

    -- and if there is none of these either, all is served.
    pub ends_here : q ≡ None → u ≡ None → (e : Core) → e.finish ≡ f → e.busy ≡ b → RanOut w e
    ends_here h z e i j =
        let all = over (load_of w) v f b t R (picks_none h) (next_is ∙ rw z) in
        record { finish = i ∙ all.0; busy = j ∙ all.1 }
