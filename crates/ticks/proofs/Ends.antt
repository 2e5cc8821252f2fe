-- What is read off the core: by the end of a run all is served, a run's busy ticks are what is owed, and after the end of
-- the last tick served to a sub-job nothing is served to it.
use Prim.Native.Nat.{ℕ, zero, suc, ◌+◌, ◌-◌, ◌≤◌, ◌<◌}
use mathlib.Core.Option.{some}
use mathlib.Core.Path.{◌≡◌, sym, ap, ◌∙◌}
use mathlib.Core.Logic.{◌⊎◌, inl, inr}
use native.Mathlib.Nat.{add-suc, add-zero}
use native.Mathlib.Omega.{arith}
use borrow.Author.Tests.{lt-ltb, eq-eqb, ne_eqb}
use lib.Dec.{eqb, ltb}
use Rattle.lists.specs.Places.{filter, weight}
use Rattle.lists.proofs.Cases.{split, test, tests}
use Rattle.lists.proofs.Members.{in_filter, filter_in}
use Rattle.lists.proofs.Sums.{greatest_ge, greatest_le}
use Rattle.ticks.specs.Core.{Load, served, ended, turn}
use Rattle.ticks.specs.Runs.{horizon, finish, end, busy_ticks, idle_ticks}
use Rattle.ticks.proofs.Service.{On, Counters, served-start, ended-start, tick_cases}
use Rattle.ticks.proofs.Counted.{Done, busy-idle, busy_done, done_horizon}

-- The finish of one that is owed nothing, and of one that is owed something.
pub finish_nothing : (L : Load) (i : ℕ) → L.owed i ≡ 0 → finish L i ≡ L.release i
unfolding finish
finish_nothing L i h = rw (eq-eqb (L.owed i) 0 h)

pub finish-owed : (L : Load) (i : ℕ) → 0 < L.owed i → finish L i ≡ ended L (horizon L) i
unfolding finish
finish-owed L i h = rw (ne_eqb (L.owed i) 0 (λ e. omega arith))

module _ (L : Load) (K : Counters L) where
  pub ended_most : (t i : ℕ) → ended L t i ≤ t
  ended_most zero i = omega (arith, ended-start L i)
  ended_most (suc t) i = split (tick_cases L K t i) (λ q. omega arith) (λ q. omega (arith, ended_most t i))

  -- After the last tick served nothing is served.
  pub still : (t i k : ℕ) → ended L (t + k) i ≤ t → served L (t + k) i ≡ served L t i
  still t i zero h = simp add-zero
  still t i (suc k) h =
      let n = ap (λ (m : ℕ). served L m i) (add-suc t k) in
      let f = ap (λ (m : ℕ). ended L m i) (add-suc t k) in
      split (tick_cases L K (t + k) i)
      (λ q. absurd (omega arith))
      (λ q. omega (arith, still t i k (omega arith)))

  -- It is the end of a tick served, if anything was.
  pub last_tick : (t i : ℕ) → (served L t i ≡ 0) ⊎ ((u : ℕ) × ((suc u ≡ ended L t i) × (turn L u ≡ some i)))
  last_tick zero i = inl (served-start L i)
  last_tick (suc t) i =
      split (tick_cases L K t i)
      (λ q. inr (t, (sym q.2, q.0)))
      (λ q. split (last_tick t i) (λ z. inl (q.1 ∙ z)) (λ w. inr (w.0, (w.1.0 ∙ sym q.2, w.1.1))))

  pub end-horizon : end L ≤ horizon L
  unfolding end
  end-horizon =
      greatest_le (finish L) (horizon L) (filter (λ i. ltb 0 (L.owed i)) L.on)
      (λ i m.
      let p = (filter_in (λ j. ltb 0 (L.owed j)) L.on m).1 in
      omega (arith, finish-owed L i (omega tests), ended_most (horizon L) i))

  finish-end : (i : ℕ) → On L i → 0 < L.owed i → finish L i ≤ end L
  unfolding end
  finish-end i m h =
      greatest_ge (finish L) (filter (λ j. ltb 0 (L.owed j)) L.on)
      (in_filter (λ j. ltb 0 (L.owed j)) L.on m (lt-ltb 0 (L.owed i) h))

  -- At any moment from its finish on, and no later than the horizon, a sub-job has been served what it is owed.
  pub done_finish : (t i : ℕ) → On L i → 0 < L.owed i → finish L i ≤ t → t ≤ horizon L → L.owed i ≤ served L t i
  done_finish t i m h b l =
      let H = horizon L in
      let w : H ≡ t + (H - t) = omega arith in
      omega (
        arith,
        done_horizon L K i m,
        ap (λ (u : ℕ). served L u i) w,
        still t i (H - t) (omega (arith, ap (λ (u : ℕ). ended L u i) w, finish-owed L i h)),
      )

  -- By the end of the run all that is owed has been served.
  done_end : Done L (end L)
  done_end i m =
      test (eqb (L.owed i) 0) (λ z. omega tests)
      (λ z. let h : 0 < L.owed i = omega tests in done_finish (end L) i m h (finish-end i m h) end-horizon)

  -- Busy is the sum of what is owed, and busy and idle ticks are all ticks before the end.
  pub busy_owed : busy_ticks L ≡ weight L.owed L.on
  unfolding busy_ticks
  busy_owed = busy_done L K (end L) done_end

pub all_ticks : (L : Load) → busy_ticks L + idle_ticks L ≡ end L
unfolding busy_ticks idle_ticks
all_ticks L = busy-idle L (end L)
