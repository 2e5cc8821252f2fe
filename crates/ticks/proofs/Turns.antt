-- From event to event. At an event somebody is served until nothing is left for it or somebody is released, or nobody can
-- be served and the core waits for the next release. Each event finishes a sub-job or reaches a release, so a run of n
-- sub-jobs has at most 2n events, however many ticks they span.
--
--   Reached L v f b t  == at moment t, no later than the horizon, v is served, f are the ends of the last ticks, b ticks were busy
--   events_left L t v   == how many are not yet released, and how many still owed something
--   Next r xs t        == the next release after moment t, and whose it is
use Prim.Native.Nat.{ℕ, ◌+◌, ◌-◌, ◌*◌, ◌≤◌, ◌<◌}
use mathlib.Core.Bool.{Bool, cond}
use mathlib.Core.List.{List, [], ◌∷◌, Memᴰ}
use mathlib.Core.Option.{Option, none, some}
use mathlib.Core.Path.{◌≡◌, refl, sym, ap, ◌∙◌}
use mathlib.Core.Logic.{◌≢◌, ◌⊎◌, inl, inr}
use native.Mathlib.Nat.{suc-mul}
use native.Mathlib.Omega.{arith}
use borrow.Author.Tests.{lt-ltb, le-ltb, le-leb, lt-leb}
use lib.Dec.{eqb, ltb, leb}
use lib.ListN.{length, get_or, set, replicate}
use lib.Seq.{get_or-set_same, get_or-set_other}
use Rattle.lists.specs.Places.{places, filter, weight, least}
use Rattle.lists.specs.Order.{given}
use Rattle.lists.proofs.Cases.{split, test, tests, eqb_no}
use Rattle.lists.proofs.Members.{filter_in, in_filter, in_filled, or_filled, places_in, from-length}
use Rattle.lists.proofs.Sums.{weight_le, least_in, least_le, greatest_ge, greatest_le}
use Rattle.subjobs.specs.Sets.{Subjobs, size, release, execution}
use Rattle.ticks.specs.Core.{Load, start, pick, after, turn}
use Rattle.ticks.specs.Runs.{horizon, due, load}
use Rattle.ticks.specs.Events.{to_serve, next_release, stretch}
use Rattle.ticks.proofs.Service.{On, Counters, after_add, lengths, pick_cases, pick_active, idle_none}
use Rattle.ticks.proofs.Jumps.{Quiet, rested, jumped, jump, wait}
use Rattle.ticks.proofs.Counted.{Done, weight_lt, busy-idle, done_rests, jump_horizon}

pub record Reached (L : Load) (v f : List ℕ) (b t : ℕ) : Type 0 where
  pub served : (after L t).served ≡ v
  pub finish : (after L t).finish ≡ f
  pub busy : (after L t).busy ≡ b
  pub soon : t ≤ horizon L

-- What the next release says, 0 standing for none.
module _ (r : ℕ → ℕ) (xs : List ℕ) (t : ℕ) where
  pub record Next : Type 0 where
    pub place : ℕ
    pub among : Memᴰ place xs
    pub is : next_release r xs t ≡ r place
    pub later : t < next_release r xs t
    pub first : (i : ℕ) → Memᴰ i xs → (r i ≤ t) ⊎ (next_release r xs t ≤ r i)

  next_cases : ((next_release r xs t ≡ 0) × ((i : ℕ) → Memᴰ i xs → r i ≤ t)) ⊎ Next
  unfolding least
  next_cases =
      let U : ℕ → Bool = λ i. ltb t (r i) in
      split (or_filled (filter U xs))
      (λ e. inl (rw e, λ i m. test (U i) (λ u. absurd (in_filled (in_filter U xs m u) e)) (λ u. omega tests)))
      (λ e.
      let w = least_in r (filter U xs) e in
      let h = filter_in U xs w.1 in
      let u = h.1 in
      let q = w.2 in
      inr
      (record {
        place = w.0;
        among = h.0;
        is = w.2;
        later = omega tests;
        first = λ i m. test (U i) (λ l. inr (least_le r (filter U xs) (in_filter U xs m l))) (λ l. inl (omega tests));
      }))

-- A mark stands where a number is below another. It falls where that ends, and does not rise where it does not begin.
abbrev mark : ℕ → ℕ → ℕ
mark a b = cond (ltb a b) 1 0

mark_le : (a b c d : ℕ) → (c < d → a < b) → mark c d ≤ mark a b
mark_le a b c d h =
    test (ltb c d) (λ e. rw (e, lt-ltb a b (h (omega tests))) (omega arith)) (λ e. rw e (omega arith))

mark_lt : (a b c d : ℕ) → a < b → d ≤ c → mark c d < mark a b
mark_lt a b c d h l = rw (lt-ltb a b h, le-ltb c d l) (omega arith)

module _ (L : Load) where
  abbrev unreleased : ℕ → ℕ → ℕ
  unreleased t i = mark t (L.release i)

  abbrev unserved : List ℕ → ℕ → ℕ
  unserved v i = mark (get_or v i 0) (L.owed i)

  abbrev pub events_left : ℕ → List ℕ → ℕ
  events_left t v = weight (unreleased t) L.on + weight (unserved v) L.on

  -- Somebody is released between two moments, or gets the last of what it is owed: an event less is left.
  fewer :
      (t u : ℕ) (v w : List ℕ) → t ≤ u → ((i : ℕ) → get_or v i 0 ≤ get_or w i 0) → {p : ℕ} → On L p
      → ((t < L.release p) × (L.release p ≤ u)) ⊎ ((get_or v p 0 < L.owed p) × (L.owed p ≤ get_or w p 0))
      → events_left u w < events_left t v
  fewer t u v w b g {p} m e =
      let later : (i : ℕ) → On L i → unreleased u i ≤ unreleased t i =
      λ i n. mark_le t (L.release i) u (L.release i) (λ a. omega arith)
      in
      let more : (i : ℕ) → On L i → unserved w i ≤ unserved v i =
      λ i n. mark_le (get_or v i 0) (L.owed i) (get_or w i 0) (L.owed i) (λ a. omega (arith, g i))
      in
      split e
      (λ q.
      omega (
        arith,
        weight_le (unserved w) (unserved v) L.on more,
        weight_lt (unreleased u) (unreleased t) L.on later m (mark_lt t (L.release p) u (L.release p) q.0 q.1),
      ))
      (λ q.
      omega (
        arith,
        weight_le (unreleased u) (unreleased t) L.on later,
        weight_lt (unserved w) (unserved v) L.on more m
            (mark_lt (get_or v p 0) (L.owed p) (get_or w p 0) (L.owed p) q.0 q.1),
      ))

  pub reached_start : Reached L (replicate 128 0) (replicate 128 0) 0 0
  unfolding after start
  reached_start = record { served = refl; finish = refl; busy = refl; soon = omega arith }

  module _ (v f : List ℕ) (b t : ℕ) (R : Reached L v f b t) where
    abbrev next : ℕ
    next = next_release L.release L.on t

    pub reached_busy : b ≤ t
    reached_busy = omega (arith, R.busy, busy-idle L t)

    -- Nobody can be served and nobody is released later: all is served, as it stands at the horizon.
    pub over : pick L t v ≡ none → next ≡ 0 → (f ≡ (after L (horizon L)).finish) × (b ≡ (after L (horizon L)).busy)
    over e z =
        let nobody : turn L t ≡ none = rw R.served e in
        let h = horizon L in
        let d : Done L t =
        λ i m.
        split (next_cases L.release L.on t)
        (λ w. idle_none L t nobody m (w.1 i m))
        (λ N. let l = N.later in absurd (omega arith))
        in
        let w : h ≡ t + (h - t) = omega (arith, R.soon) in
        let same : after L h ≡ rested (h - t) (after L t) = ap (after L) w ∙ done_rests L t d (h - t) in
        (rw same (sym R.finish), rw same (sym R.busy))

    -- The core waits for the next release.
    pub waited : pick L t v ≡ none → next ≢ 0 → Reached L v f b next × (events_left next v < events_left t v)
    unfolding horizon
    waited e n =
        split (next_cases L.release L.on t) (λ w. absurd (n w.0))
        (λ N.
        let nobody : turn L t ≡ none = rw R.served e in
        let l = N.later in
        let w : next ≡ t + (next - t) = omega arith in
        let quiet : Quiet L t (next - t) = λ i m. split (N.first i m) (λ a. inl a) (λ a. inr (omega arith)) in
        let same : after L next ≡ rested (next - t) (after L t) =
        ap (after L) w ∙ after_add L t (next - t) ∙ wait L t (after L t) (next - t) quiet nobody (next - t) (omega arith)
        in (
          record {
            served = rw same R.served;
            finish = rw same R.finish;
            busy = rw same R.busy;
            soon = omega (arith, N.is, greatest_ge L.release L.on N.among);
          },
          fewer t next v v (omega arith) (λ i. omega arith) N.among (inl (omega (arith, N.is), omega (arith, N.is))),
        ))

    -- Somebody is served for a stretch.
    module _ (K : Counters L) (p : ℕ) (e : pick L t v ≡ some p) where
      abbrev long : ℕ
      long = stretch (L.owed p - get_or v p 0) t next

      -- the service after m ticks more to p
      abbrev more : ℕ → List ℕ
      more m = set v p (get_or v p 0 + m)

      -- what is known of a stretch of m ticks: it ends the service of p, or at the next release
      record Stretch (m : ℕ) : Type 0 where
        some : 0 < m
        room : get_or v p 0 + m ≤ L.owed p
        quiet : Quiet L t m
        ends : (get_or v p 0 + m ≡ L.owed p) ⊎ ((t + m ≡ next) × Next L.release L.on t)

      long_is : Stretch long
      long_is =
          let h = (pick_active L t v e).2 in
          split (next_cases L.release L.on t)
          (λ w.
          rw (le-leb next t (omega (arith, w.0)))
          (record { some = omega arith; room = omega arith; quiet = λ i m. inl (w.1 i m); ends = inl (omega arith) }))
          (λ N.
          let l = N.later in
          rw (lt-leb next t l)
          (record {
            some = omega arith;
            room = omega arith;
            quiet = λ i m. split (N.first i m) (λ a. inl a) (λ a. inr (omega arith));
            ends = test (leb (L.owed p - get_or v p 0) (next - t)) (λ q. inl (omega tests)) (λ q. inr (omega tests, N));
          }))

      picked : turn L t ≡ some p
      picked = rw R.served e

      inside : p < length (after L t).served
      inside = omega (arith, lengths L t, K.small p (pick_active L t v e).0)

      -- it is served to p
      stretched : (m : ℕ) → Stretch m → after L (t + m) ≡ jumped t p m (after L t)
      stretched m s =
          after_add L t m ∙ jump L t (after L t) m s.quiet p inside picked (rw R.served s.room) m s.some (omega arith)

      raised : (m i : ℕ) → get_or v i 0 ≤ get_or (more m) i 0
      raised m i =
          test (eqb i p)
          (λ q.
          let z : i ≡ p = omega tests in
          rw (z, get_or-set_same v p (get_or v p 0 + m) 0 (rw R.served at inside)) (omega arith))
          (λ q. omega (arith, get_or-set_other v p i (get_or v p 0 + m) 0 (eqb_no i p q)))

      passed : (m : ℕ) → Stretch m → events_left (t + m) (more m) < events_left t v
      passed m s =
          let a = pick_active L t v e in
          let full = get_or-set_same v p (get_or v p 0 + m) 0 (rw R.served at inside) in
          split s.ends
          (λ q. fewer t (t + m) v (more m) (omega arith) (raised m) a.0 (inr (a.2, omega arith)))
          (λ q.
          let N = q.1 in
          fewer t (t + m) v (more m) (omega arith) (raised m) N.among (inl (omega (arith, N.is, N.later), omega (arith, N.is, q.0))))

      pub served_for :
          (get_or v p 0 + long ≤ L.owed p)
          × Reached L (more long) (set f p (t + long)) (b + long) (t + long)
          × (events_left (t + long) (more long) < events_left t v)
      served_for = (
        long_is.room,
        record {
          served = rw (stretched long long_is, R.served);
          finish = rw (stretched long long_is, R.finish);
          busy = rw (stretched long long_is, R.busy);
          soon = jump_horizon L K t long p long_is.quiet picked (rw R.served long_is.room) long_is.some;
        },
        passed long long_is,
      )

  -- The place to serve, read as a number: below n it is the pick, and n says that there is none.
  pub to_serve_lem :
      (n t : ℕ) (v : List ℕ) → ((i : ℕ) → On L i → i < n) → (p : ℕ) → p ≡ to_serve L n t v
      → (p < n → pick L t v ≡ some p) × (n ≤ p → pick L t v ≡ none)
  to_serve_lem n t v small p is =
      split (pick_cases L t v)
      (λ e. let z = is ∙ ap (λ (q : Option ℕ). given q n (λ i. i)) e in (λ h. absurd (omega arith), λ h. e))
      (λ q.
      let z : p ≡ q.0 = is ∙ ap (λ (q : Option ℕ). given q n (λ i. i)) q.1 in
      (λ h. q.1 ∙ ap some (sym z), λ h. absurd (omega (arith, small q.0 (pick_active L t v q.1).0))))

weight_by : (f : ℕ → ℕ) (k : ℕ) (xs : List ℕ) → ((i : ℕ) → Memᴰ i xs → f i ≤ k) → weight f xs ≤ length xs * k
unfolding weight
weight_by f k [] h = omega arith
weight_by f k (x ∷ xs) h =
    rw (suc-mul (length xs) k) (omega (arith, h x (Memᴰ.head refl), weight_by f k xs (λ i m. h i (Memᴰ.tail m))))

-- The moments of a set with releases and executions in their ranges fit 32 bits.
pub horizon_fits :
    (s : Subjobs) (ds asks : List ℕ) → size s ≤ 128
    → ((i : ℕ) → i < size s → (release s i ≤ 1_000_000_000) × (execution s i ≤ 1_000_000))
    → horizon (load s ds asks) ≤ 1_128_000_000
unfolding horizon
horizon_fits s ds asks few ranges =
    omega (
      arith,
      from-length 0 (size s),
      greatest_le (release s) 1_000_000_000 (places (size s)) (λ i m. (ranges i (places_in (size s) i m)).0),
      weight_by (due s asks) 1_000_000 (places (size s)) (λ i m. omega (arith, (ranges i (places_in (size s) i m)).1)),
    )
