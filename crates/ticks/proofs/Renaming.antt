-- The core does not ask what its places are called: on a core with the same sub-jobs under other names, and in any order of
-- the list, each is served the same at every moment and finishes at the same, and the two runs have the same end and ticks.
--
--   Renamed M L π == L is M with each place i called π i
use Prim.Native.Nat.{ℕ}
use mathlib.Core.Logic.{inl}
use mathlib.Core.Path.{◌≡◌, ap}
use native.Mathlib.Omega.{arith}
use lib.Dec.{ltb}
use Rattle.lists.specs.Places.{filter}
use Rattle.lists.proofs.Choice.{Order, Total}
use Rattle.lists.proofs.Members.{filter_in, filter_cong}
use Rattle.lists.proofs.Renamed.{Moved, moved_from, moved_filter, moved_weight, moved_greatest}
use Rattle.ticks.specs.Core.{Load, served}
use Rattle.ticks.specs.Runs.{finish, end, busy_ticks, idle_ticks}
use Rattle.ticks.proofs.Service.{On, Counters, served_is_active}
use Rattle.ticks.proofs.Finishes.{finish_alike}
use Rattle.ticks.proofs.Ends.{busy_owed, all_ticks}
use Rattle.ticks.proofs.Alone.{Stands, served_stands}

pub record Renamed (M L : Load) (π : ℕ → ℕ) : Type 0 where
  pub stands : Stands M L π
  pub moved : Moved π M.on L.on

module _
    (M L : Load)
    (π : ℕ → ℕ)
    (R : Renamed M L π)
    (N : Counters M)
    (K : Counters L)
    (ordM : Order M.before)
    (ordL : Order L.before)
    (tot : Total L.before L.on) where
  pub served_renamed : (t i : ℕ) → On M i → served M t i ≡ served L t (π i)
  served_renamed =
      served_stands M L π R.stands N K ordM ordL tot
      (λ t b e. inl (moved_from π M.on L.on R.moved (served_is_active L t e).0))

  pub finish_renamed : (i : ℕ) → On M i → finish M i ≡ finish L (π i)
  finish_renamed i m =
      let S = R.stands in
      finish_alike M L N K i (π i) m (S.there i m) (S.release i m) (S.owed i m) (λ t. served_renamed t i m)

  -- Those owed something are the same.
  pub end_renamed : end M ≡ end L
  unfolding end
  end_renamed =
      let xs = filter (λ i. ltb 0 (L.owed (π i))) M.on in
      let ys = filter (λ i. ltb 0 (L.owed i)) L.on in
      rw (filter_cong (λ i. ltb 0 (M.owed i)) (λ i. ltb 0 (L.owed (π i))) M.on (λ i m. ap (ltb 0) (R.stands.owed i m)))
      (moved_greatest π xs ys (moved_filter π M.on L.on R.moved (λ i. ltb 0 (L.owed i))) (finish M) (finish L)
      (λ i m. finish_renamed i (filter_in (λ j. ltb 0 (L.owed (π j))) M.on m).0))

  pub busy_renamed : busy_ticks M ≡ busy_ticks L
  busy_renamed =
      omega (
        arith,
        busy_owed M N,
        busy_owed L K,
        moved_weight π M.on L.on R.moved M.owed L.owed R.stands.owed,
      )

  pub idle_renamed : idle_ticks M ≡ idle_ticks L
  idle_renamed = omega (arith, all_ticks M, all_ticks L, busy_renamed, end_renamed)
