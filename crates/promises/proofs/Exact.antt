-- Demand 3's second half: with the deadlines that the method gives, and asks that reach the executions, the core finishes
-- every sub-job exactly on its deadline.
use Prim.Native.Nat.{ℕ, ◌≤◌, ◌<◌}
use mathlib.Core.Bool.{Bool, true, not}
use mathlib.Core.List.{List, Memᴰ}
use mathlib.Core.Logic.{inl, inr}
use mathlib.Core.Path.{◌≡◌, sym, ◌∙◌}
use native.Mathlib.Omega.{arith}
use lib.Dec.{eqb}
use lib.ListN.{length, get_or}
use lib.Seq.{ext_get_or}
use Rattle.lists.specs.Places.{places, InOrder}
use Rattle.lists.proofs.Cases.{test, tests}
use Rattle.lists.proofs.Members.{in_without, inorder_filter, places_in, in_places}
use Rattle.lists.proofs.Choice.{Order}
use Rattle.subjobs.specs.Sets.{Subjobs, size, job, subtask, release, execution}
use Rattle.subjobs.specs.Terms.{Terms, terms}
use Rattle.subjobs.specs.Faults.{Fit}
use Rattle.subjobs.proofs.Bounds.{lower_order}
use Rattle.rules.specs.Method.{in_order}
use Rattle.rules.specs.Rules.{Accepts, over, place, Accepted}
use Rattle.rules.proofs.Tails.{base_in}
use Rattle.rules.proofs.ReleaseOrder.{inorder_in_order, nodup_in_order, same_in_order, in_order-below, below_in_order}
use Rattle.rules.proofs.Rules.{Ones, ones_without, turn_step, same_accepts}
use Rattle.rules.proofs.Accepted.{accepted_falls}
use Rattle.lists.proofs.Rearranged.{same_sym}
use Rattle.ticks.specs.Core.{served}
use Rattle.ticks.specs.Runs.{due, served_before, load, finish, run}
use Rattle.ticks.proofs.Service.{counters, served_is_active, served_most}
use Rattle.ticks.proofs.Finishes.{finish_by}
use Rattle.ticks.proofs.Ticks.{run_length, finish_at}
use Rattle.ticks.proofs.Sooner.{sooner_order, sooner_by, sooner_total}
use Rattle.ticks.proofs.Alone.{served_alike}
use Rattle.promises.proofs.Peel.{Peel, bare, peel, core, Ready, exact}

-- What the rules give is peeled in every order in which a smaller deadline comes before a greater: one of the base,
-- placed at the best, has a greater deadline than all that are left.
module _ (T : Terms) (o : Order T.lower) (d : ℕ → ℕ) (lt : ℕ → ℕ → Bool) (before : (i j : ℕ) → d i < d j → lt i j ≡ true) where
  peeled : {xs : List ℕ} → InOrder T.release xs → Ones T.execution xs → Accepts T d xs → Peel T lt d xs
  peeled s ones over = bare
  peeled {xs} s ones (place b t h a) =
      let w = turn_step T xs s ones t in
      peel b (
        w.0.0,
        λ i m.
            test (eqb i b)
            (λ y. inl (omega tests))
            (λ y.
            inr
            (before i b
            (accepted_falls T o xs b ones t a (in_without b xs (base_in T.release T.execution xs m) (λ q. omega tests))))),
      )
      w.1 (peeled (inorder_filter T.release (λ i. not (eqb i b)) xs s) (ones_without T.execution b xs ones) a)

-- A set that passes 1 to 4, deadlines that the rules give it, and asks of at least the execution each.
module _
    (s : Subjobs)
    (o : Bool)
    (fit : Fit s o)
    (ds asks : List ℕ)
    (accepted : Accepted s (λ i. get_or ds i 0))
    (whole : (i : ℕ) → i < size s → execution s i ≤ get_or asks i 0) where
  abbrev d : ℕ → ℕ
  d i = get_or ds i 0

  abbrev sorted : List ℕ
  sorted = in_order (release s) (places (size s))

  below : {i : ℕ} → Memᴰ i sorted → i < size s
  below m = in_order-below (release s) (size s) m

  ready : Ready (terms s) (served_before s ds) sorted
  ready =
      let total = sooner_total d s fit.pairs in
      record {
        ones = λ i m. (fit.ranges i (below m)).some;
        sorted = inorder_in_order (release s) (size s);
        counters = record { small = λ i m. omega (arith, below m, fit.few); once = nodup_in_order (release s) (size s) };
        total = λ i j p q. total i j (in_places (size s) i (below p)) (in_places (size s) j (below q));
      }

  ends : Peel (terms s) (served_before s ds) d sorted
  ends =
      peeled (terms s) (lower_order s) d (served_before s ds) (sooner_by d (job s) (subtask s)) (inorder_in_order (release s) (size s))
      ready.ones
      (same_accepts (terms s) (places (size s)) sorted (same_sym sorted (places (size s)) (same_in_order (release s) (size s))) accepted)

  -- The core does not hang on its list's order, and owes each its whole execution.
  alike : (t i : ℕ) → i < size s → served (core (terms s) (served_before s ds) sorted) t i ≡ served (load s ds asks) t i
  alike t i h =
      served_alike (core (terms s) (served_before s ds) sorted) (due s asks) (places (size s)) (counters s ds asks fit.few)
      ready.counters (sooner_order d (job s) (subtask s)) ready.total
      (λ j q. below_in_order (release s) (size s) j (places_in (size s) j q))
      (λ j q. omega (arith, whole j (places_in (size s) j q)))
      (λ u b e. inl (in_places (size s) b (below (served_is_active (core (terms s) (served_before s ds) sorted) u e).0)))
      t i (in_places (size s) i h)

  finish_is : (i : ℕ) → i < size s → finish (load s ds asks) i ≡ d i
  finish_is i h =
      let L = load s ds asks in
      let K = counters s ds asks fit.few in
      let w = whole i h in
      let one = (fit.ranges i h).some in
      let f = finish L i in
      let over = finish_by L K i (in_places (size s) i h) (omega arith) in
      let on = exact (terms s) (served_before s ds) d (sooner_order d (job s) (subtask s)) ready ends i (below_in_order (release s) (size s) i h) in
      let most = served_most L K (d i) i in
      omega (
        arith,
        (over (d i)).1 (omega (arith, alike (d i) i h, (on (d i)).0 (omega arith))),
        (on f).1 (omega (arith, alike f i h, (over f).0 (omega arith))),
      )

  -- Every sub-job finishes exactly on its deadline.
  pub exactly_on_the_deadline : length ds ≡ size s → (run s ds asks).finishes ≡ ds
  exactly_on_the_deadline l =
      ext_get_or 0 (run s ds asks).finishes ds (run_length s ds asks ∙ sym l)
      (λ i h. let k : i < size s = omega (arith, run_length s ds asks) in finish_at s ds asks i k ∙ finish_is i k)
