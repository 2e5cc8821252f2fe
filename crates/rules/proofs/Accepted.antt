-- The deadlines of an accepted list: they meet (6) and (7), and fall strictly in the order of placing. Over the literal
-- rules and any order of the list.
use Prim.Native.Nat.{ℕ, ◌+◌, ◌≤◌}
use mathlib.Core.Bool.{Bool}
use mathlib.Core.List.{List, [], Memᴰ}
use mathlib.Core.Logic.{◌≢◌}
use mathlib.Core.Path.{refl, sym, ap, subst, ◌∙◌}
use native.Mathlib.Omega.{arith}
use borrow.Author.Tests.{eqb-true, eq-eqb}
use lib.Dec.{leb, eqb}
use Rattle.lists.specs.Places.{filter, without}
use Rattle.lists.proofs.Cases.{test}
use Rattle.lists.proofs.Members.{in_filled, filter-nil, filter_in, in_filter, filter-without}
use Rattle.lists.proofs.Sums.{weight_in, least_most, greatest_ge}
use Rattle.lists.proofs.Choice.{Order}
use Rattle.subjobs.specs.Terms.{Terms}
use Rattle.subjobs.specs.Conditions.{Six, Seven}
use Rattle.rules.specs.Rules.{completion_of, Turn, Accepts, over, place}
use Rattle.rules.proofs.Renaming.{turn_in}
use Rattle.rules.proofs.Rules.{Ones, turn_one}
use Rattle.rules.proofs.Remaining.{no_later, accepted_turn, accepted_step}
pub use Rattle.rules.proofs.Remaining.{accepted_falls}

module _ (T : Terms) where
  -- A turn's completion is at least that of every subset ..
  pub turn_most :
      {xs : List ℕ} {b m : ℕ} → Turn T xs b m → (U : ℕ → Bool) → filter U xs ≢ [] → completion_of T (filter U xs) ≤ m
  turn_most t U n = omega (arith, t.is_base.most U n, t.is_completion)

  -- .. and so that of a sub-job alone.
  pub turn_alone : {xs : List ℕ} {b m : ℕ} → Turn T xs b m → {i : ℕ} → Memᴰ i xs → T.release i + T.execution i ≤ m
  turn_alone {xs} t {i} q =
      let U : ℕ → Bool = λ j. eqb j i in
      let u : Memᴰ i (filter U xs) = in_filter U xs q (eq-eqb i i refl) in
      let n = in_filled u in
      omega (
        arith,
        turn_most t U n,
        weight_in T.execution (filter U xs) u,
        least_most T.release (T.release i) (filter U xs) n
            (λ j k. let e = eqb-true j i (filter_in U xs k).1 in omega (arith, ap T.release e)),
      )

  -- Deadlines that the rules give meet (6) ..
  pub accepted_six : {d : ℕ → ℕ} (xs : List ℕ) → Accepts T d xs → Six T d xs
  accepted_six xs a i m = let w = accepted_turn T xs a m in (turn_alone w.2 (turn_in w.2), w.3)

  -- .. and (7): the member of a subset that was placed first had the whole subset before it.
  pub accepted_seven : {d : ℕ → ℕ} (xs : List ℕ) → Accepts T d xs → Seven T d xs
  accepted_seven xs over U n = absurd (n (filter-nil U))
  accepted_seven {d} xs (place b t h a) U n =
      test (U b)
      (λ y. omega (arith, turn_most t U n, greatest_ge d (filter U xs) (in_filter U xs (turn_in t) y)))
      (λ y. let e = filter-without U b xs y in rw (← e) (accepted_seven (without b xs) a U (λ q. n (sym e ∙ q))))

  -- No two are alike, since p and its deadline settle each other.
  pub accepted_apart :
      Order T.lower
      → {d : ℕ → ℕ} (xs : List ℕ)
      → Ones T.execution xs
      → Accepts T d xs
      → {i j : ℕ}
      → Memᴰ i xs
      → Memᴰ j xs
      → i ≢ j
      → d i ≢ d j
  accepted_apart o {d} xs ones a {i} {j} m k n q =
      n
      (turn_one T o (filter (no_later d i) xs) (λ x y. ones x (filter_in (no_later d i) xs y).0) (accepted_step T o xs ones a m).1
      (subst (λ (x : ℕ). Turn T (filter (λ y. leb (d y) x) xs) j x) (sym q) (accepted_step T o xs ones a k).1)).0
