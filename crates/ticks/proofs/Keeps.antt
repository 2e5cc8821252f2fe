-- The core keeps its deadlines: where deadlines d meet (7) and the core serves the smaller deadline first, all that a
-- sub-job is owed has been served at its deadline, whatever part of its execution is owed.
use Prim.Native.Nat.{ℕ, ◌-◌, ◌≤◌, ◌<◌}
use mathlib.Core.Bool.{Bool, true, ◌&&◌}
use mathlib.Core.List.{List, Memᴰ}
use mathlib.Core.Path.{◌≡◌, ap}
use native.Mathlib.Omega.{arith}
use borrow.Author.Tests.{le-leb}
use lib.Dec.{leb, eqb}
use lib.ListN.{get_or}
use Rattle.lists.specs.Places.{places, filter, weight}
use Rattle.lists.proofs.Cases.{split, test, tests, both}
use Rattle.lists.proofs.Members.{filter_in, or_filled, in_places}
use Rattle.lists.proofs.Sums.{weight-nil, weight_le, least_most, greatest_le}
use Rattle.lists.proofs.Choice.{Order}
use Rattle.subjobs.specs.Sets.{Subjobs, size, job, subtask, release}
use Rattle.subjobs.specs.Terms.{Terms, terms}
use Rattle.subjobs.specs.Conditions.{Seven}
use Rattle.ticks.specs.Core.{served}
use Rattle.ticks.specs.Runs.{served_before, due, load_of, load, run}
use Rattle.ticks.proofs.Service.{Counters, counters}
use Rattle.ticks.proofs.Ends.{finish_nothing}
use Rattle.ticks.proofs.Finishes.{finish_by}
use Rattle.ticks.proofs.Groups.{since, group_done, leads_tended}
use Rattle.ticks.proofs.Sooner.{sooner_order, sooner_by}
use Rattle.ticks.proofs.Ticks.{finish_at}

module _ (T : Terms) (o d : ℕ → ℕ) (lt : ℕ → ℕ → Bool) (xs : List ℕ) where
  -- (7) of those with a deadline of at most D, released at or after a.
  room_of :
      ((i : ℕ) → Memᴰ i xs → o i ≤ T.execution i) → Seven T d xs
      → (D a : ℕ) → weight o (since (load_of T o lt xs) (λ i. leb (d i) D) a) ≤ D - a
  room_of most seven D a =
      let U : ℕ → Bool = λ i. leb (d i) D && leb a (T.release i) in
      let in_both : (i : ℕ) → Memᴰ i (filter U xs) → (leb (d i) D ≡ true) × (leb a (T.release i) ≡ true) =
      λ i m. both {a = leb (d i) D} {b = leb a (T.release i)} (filter_in U xs m).1
      in
      split (or_filled (filter U xs))
      (λ e. omega (arith, ap (weight o) e, weight-nil o))
      (λ n.
      omega (
        arith,
        seven U n,
        weight_le o T.execution (filter U xs) (λ i m. most i (filter_in U xs m).0),
        least_most T.release a (filter U xs) n (λ i m. omega (tests, in_both i m)),
        greatest_le d D (filter U xs) (λ i m. omega (tests, in_both i m)),
      ))

  pub keeps :
      Order lt
      → ((i j : ℕ) → d i < d j → lt i j ≡ true)
      → Counters (load_of T o lt xs)
      → ((i : ℕ) → Memᴰ i xs → o i ≤ T.execution i)
      → Seven T d xs
      → (i : ℕ) → Memᴰ i xs → served (load_of T o lt xs) (d i) i ≡ o i
  keeps ord by-d K most seven i m =
      let L = load_of T o lt xs in
      group_done L (λ j. leb (d j) (d i)) K (d i)
      (λ t b. leads_tended L (λ j. leb (d j) (d i)) ord t (λ j k mj mk u n a. by-d j k (omega tests)))
      (room_of most seven (d i)) i m (le-leb (d i) (d i) (omega arith))

-- The same of the places of a set: at its deadline each is served what it is owed, and so it finishes by its deadline.
module _
    (s : Subjobs)
    (ds asks : List ℕ)
    (few : size s ≤ 128)
    (seven : Seven (terms s) (λ i. get_or ds i 0) (places (size s)))
    (i : ℕ)
    (b : i < size s) where
  pub kept : served (load s ds asks) (get_or ds i 0) i ≡ due s asks i
  kept =
      let d : ℕ → ℕ = λ j. get_or ds j 0 in
      keeps (terms s) (due s asks) d (served_before s ds) (places (size s)) (sooner_order d (job s) (subtask s))
      (sooner_by d (job s) (subtask s)) (counters s ds asks few) (λ j m. omega arith) seven i (in_places (size s) i b)

  pub met : release s i ≤ get_or ds i 0 → get_or (run s ds asks).finishes i 0 ≤ get_or ds i 0
  met h =
      let L = load s ds asks in
      rw (finish_at s ds asks i b)
      (test (eqb (due s asks i) 0)
      (λ e. omega (arith, finish_nothing L i (omega tests)))
      (λ e. (finish_by L (counters s ds asks few) i (in_places (size s) i b) (omega tests) (get_or ds i 0)).1 kept))
