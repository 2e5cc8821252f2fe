-- Peeling and ending agree. Peeling is the method without step 3's test and in any order: the last of the base subset
-- gets the completion and leaves, until nobody is left. A core that serves in that order is done with each sub-job
-- exactly from the moment on that peeling gave it. Nothing here speaks of deadlines or bounds: they are only one order.
--
--   core T lt xs     == a core with xs, each owed its whole execution, served in the order lt
--   Peel T lt d xs   == peeling xs in the order lt gives d
--   Ends T lt xs d i == on that core i is done from d i on and not before
--   Ready T lt xs    == what is asked of the sub-jobs xs
use Prim.Native.Nat.{ℕ, zero, suc, ◌-◌, ◌≤◌, ◌<◌}
use mathlib.Core.Bool.{Bool, true, not}
use mathlib.Core.List.{List, [], Memᴰ}
use mathlib.Core.Logic.{◌≢◌, inl, inr, ◌↔◌}
use mathlib.Core.Option.{some}
use mathlib.Core.Path.{◌≡◌, refl, sym, subst}
use native.Mathlib.Omega.{arith}
use borrow.Author.Tests.{le-leb}
use lib.Dec.{ltb, leb, eqb}
use Rattle.lists.specs.Places.{without, weight, least, InOrder}
use Rattle.lists.specs.Order.{Last}
use Rattle.lists.proofs.Cases.{split, test, clash, tests, tested}
use Rattle.lists.proofs.Members.{in_nil, in_filter, in_without, without_in, nodup_filter, inorder_filter}
use Rattle.lists.proofs.Sums.{least_le}
use Rattle.lists.proofs.Choice.{Order, Total}
use Rattle.subjobs.specs.Terms.{Terms}
use Rattle.rules.proofs.Tails.{base_in, base_threshold, late_room}
use Rattle.rules.proofs.Gap.{gap, early_room}
use Rattle.rules.proofs.Rules.{best_of, base_of}
use Rattle.ticks.specs.Core.{Load, served, turn}
use Rattle.ticks.specs.Runs.{load_of}
use Rattle.ticks.proofs.Service.{Counters, served-start, served_is_active, served_first, tick_cases, served_grows}
use Rattle.ticks.proofs.Groups.{since, Leads, leads_tended, group_done, done_later}
use Rattle.ticks.proofs.Alone.{served_alike}
use Rattle.ticks.proofs.Converse.{served_since}

pub data Peel (T : Terms) (lt : ℕ → ℕ → Bool) (d : ℕ → ℕ) : List ℕ → Type 0 where
  bare : Peel T lt d []
  peel : {xs : List ℕ} (b : ℕ) → Last lt (base_of T xs) b → d b ≡ best_of T xs → Peel T lt d (without b xs) → Peel T lt d xs

abbrev pub core : Terms → (ℕ → ℕ → Bool) → List ℕ → Load
core T lt xs = load_of T T.execution lt xs

abbrev pub Ends : Terms → (ℕ → ℕ → Bool) → List ℕ → (ℕ → ℕ) → ℕ → Type 0
Ends T lt xs d i = (t : ℕ) → (d i ≤ t) ↔ (T.execution i ≤ served (core T lt xs) t i)

pub record Ready (T : Terms) (lt : ℕ → ℕ → Bool) (xs : List ℕ) : Type 0 where
  pub ones : (i : ℕ) → Memᴰ i xs → 1 ≤ T.execution i
  pub sorted : InOrder T.release xs
  pub counters : Counters (core T lt xs)
  pub total : Total lt xs

module _ (T : Terms) (lt : ℕ → ℕ → Bool) where
  -- the least release of the base subset
  abbrev begins : List ℕ → ℕ
  begins xs = least T.release (base_of T xs)

  ready_without : (b : ℕ) (xs : List ℕ) → Ready T lt xs → Ready T lt (without b xs)
  ready_without b xs g =
      let U : ℕ → Bool = λ i. not (eqb i b) in
      record {
        ones = λ i m. g.ones i (without_in b xs m).0;
        sorted = inorder_filter T.release U xs g.sorted;
        counters = record {
          small = λ i m. g.counters.small i (without_in b xs m).0;
          once = nodup_filter U xs g.counters.once;
        };
        total = λ i j p q. g.total i j (without_in b xs p).0 (without_in b xs q).0;
      }

  module _ (ord : Order lt) (xs : List ℕ) (g : Ready T lt xs) where
    -- A group that leads and has room until D is done from D on.
    done_from :
        (h : ℕ → Bool) (D : ℕ)
        → ((t : ℕ) → t < D → Leads (core T lt xs) h t)
        → ((a : ℕ) → weight T.execution (since (core T lt xs) h a) ≤ D - a)
        → (t i : ℕ)
        → Memᴰ i xs
        → h i ≡ true
        → D ≤ t
        → T.execution i ≤ served (core T lt xs) t i
    done_from h D leads fits t i m u k =
        let L = core T lt xs in
        let e = group_done L h g.counters D (λ v l. leads_tended L h ord v (leads v l)) fits i m u in
        omega (arith, done_later L g.counters D t i k (omega arith))

    -- Everybody is done at the best.
    all_by : (t i : ℕ) → Memᴰ i xs → best_of T xs ≤ t → T.execution i ≤ served (core T lt xs) t i
    all_by t i m h =
        done_from (λ j. true) (best_of T xs) (λ u l a b p q y n. clash y n) (λ a. late_room T.release T.execution a xs) t i m
        refl h

    -- Those released before the base are done when it starts.
    early : (t i : ℕ) → Memᴰ i xs → T.release i < begins xs → begins xs ≤ t → T.execution i ≤ served (core T lt xs) t i
    early t i m k h =
        done_from (λ j. ltb (T.release j) (begins xs)) (begins xs)
        (λ u l a b p q y n z. absurd (omega tests))
        (early_room T.release T.execution xs g.sorted g.ones) t i m (omega tested) h

    -- The base is served one tick a tick, from its start on.
    got : (t : ℕ) → weight (served (core T lt xs) t) (base_of T xs) ≤ t - begins xs
    got t =
        subst (λ (ys : List ℕ). weight (served (core T lt xs) t) ys ≤ t - least T.release ys)
        (sym (base_threshold T.release T.execution xs g.sorted g.ones))
        (served_since (core T lt xs) g.counters (λ i. leb (begins xs) (T.release i)) t)

    module _ (b : ℕ) (l : Last lt (base_of T xs) b) where
      member : Memᴰ b xs
      member = base_in T.release T.execution xs l.0

      -- When the last of the base is served, nobody else is active.
      alone :
          (t : ℕ)
          → turn (core T lt xs) t ≡ some b
          → (i : ℕ)
          → Memᴰ i xs
          → i ≢ b
          → T.release i ≤ t
          → T.execution i ≤ served (core T lt xs) t i
      alone t e i m n h =
          let a = (served_is_active (core T lt xs) t e).1 in
          let s = least_le T.release (base_of T xs) l.0 in
          test (ltb (T.release i) (begins xs))
          (λ y. early t i m (omega tests) (omega arith))
          (λ y.
          split (l.1 i (late i m (omega tests)))
          (λ q. absurd (n q))
          (λ before.
          test (ltb (served (core T lt xs) t i) (T.execution i))
          (λ k. clash before (served_first (core T lt xs) ord t e m h (omega tests)))
          (λ k. omega tests)))
        where
          late : (i : ℕ) → Memᴰ i xs → begins xs ≤ T.release i → Memᴰ i (base_of T xs)
          late i m h =
              rw (base_threshold T.release T.execution xs g.sorted g.ones)
              (in_filter (λ j. leb (begins xs) (T.release j)) xs m (le-leb (begins xs) (T.release i) h))

      -- The last of the base is not done before the best.
      last : (t : ℕ) → T.execution b ≤ served (core T lt xs) t b → best_of T xs ≤ t
      last zero h = absurd (omega (arith, served-start (core T lt xs) b, g.ones b member))
      last (suc t) h =
          split (tick_cases (core T lt xs) g.counters t b)
          (λ q.
          let s = least_le T.release (base_of T xs) l.0 in
          let a = (served_is_active (core T lt xs) t q.0).1 in
          gap T.release T.execution xs g.sorted (served (core T lt xs) (suc t)) (suc t) (omega arith)
          (got (suc t))
          (λ i m k.
          test (eqb i b)
          (λ y. let z : i ≡ b = omega tests in rw z h)
          (λ y.
          omega (
            arith,
            alone t q.0 i (base_in T.release T.execution xs m) (λ z. omega tests) (omega arith),
            served_grows (core T lt xs) g.counters t i,
          ))))
          (λ q. omega (arith, last t (omega arith)))

      -- Taking it out changes nobody else's service.
      out : (t i : ℕ) → Memᴰ i (without b xs) → served (core T lt xs) t i ≡ served (core T lt (without b xs)) t i
      out =
          served_alike (core T lt xs) T.execution (without b xs) (ready_without b xs g).counters g.counters ord g.total
          (λ j k. (without_in b xs k).0)
          (λ j k. refl)
          (λ u j e.
          test (eqb j b)
          (λ y.
          let z : j ≡ b = omega tests in
          let f = rw z at e in
          inr (λ k n. let w = without_in b xs n in alone u f k w.0 w.1))
          (λ y. inl (in_without b xs (served_is_active (core T lt xs) u e).0 (λ z. omega tests))))

  module _ (d : ℕ → ℕ) (ord : Order lt) where
    -- What peeling gives is when the core ends.
    pub exact : {xs : List ℕ} → Ready T lt xs → Peel T lt d xs → (i : ℕ) → Memᴰ i xs → Ends T lt xs d i
    exact g bare i m t = in_nil m
    exact {xs} g (peel b l e p) i m t =
        let ih = exact (ready_without b xs g) p i in
        test (eqb i b)
        (λ y.
        let z : i ≡ b = omega tests in
        rw z (
          (λ h. all_by ord xs g t b (member ord xs g b l) (omega arith)),
          (λ h. omega (arith, last ord xs g b l t h)),
        ))
        (λ y.
        let w = in_without b xs m (λ z. omega tests) in
        rw (out ord xs g b l t i w) (ih w t))
