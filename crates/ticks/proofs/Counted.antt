-- The ticks counted: busy ticks are what was served, busy and idle ticks are all ticks, nobody is idle for long, and so
-- all that is owed is served by the horizon. After that nothing but the idle ticks changes.
--
--   Done L t == by moment t all that is owed has been served
use Prim.Native.Nat.{ℕ, zero, suc, ◌+◌, ◌≤◌, ◌<◌}
use mathlib.Core.List.{List, [], ◌∷◌, Memᴰ}
use mathlib.Core.Option.{some}
use mathlib.Core.Path.{◌≡◌, refl, ap, ◌∙◌}
use mathlib.Core.Logic.{◌⊎◌, inl, inr}
use native.Mathlib.Omega.{arith}
use lib.Dec.{ltb}
use Rattle.lists.specs.Places.{weight, greatest}
use Rattle.lists.proofs.Cases.{split, test, tests}
use Rattle.lists.proofs.Members.{in_cons, in_nil}
use Rattle.lists.proofs.Sums.{weight_le, greatest_ge, weight_zero}
use Rattle.ticks.specs.Core.{Load, Core, start, after, served, turn}
use Rattle.ticks.specs.Runs.{horizon}
use Rattle.ticks.proofs.Service.{On, Counters, after_add, after_served, after_idle, served-start, turn_cases, always, lengths, served_is_active, idle_none, served_grows, served_most, group_tick, group_other}
use Rattle.ticks.proofs.Jumps.{Quiet, rested, nobody_picked, idles, jump}

-- Where no term grows and one falls, the sum falls.
pub weight_lt :
    (f g : ℕ → ℕ) (xs : List ℕ) → ((i : ℕ) → Memᴰ i xs → f i ≤ g i) → {p : ℕ} → Memᴰ p xs → f p < g p → weight f xs < weight g xs
unfolding weight
weight_lt f g [] h m l = in_nil m
weight_lt f g (x ∷ xs) h {p} m l =
    in_cons m
    (λ q. omega (arith, ap f q, ap g q, weight_le f g xs (λ i w. h i (Memᴰ.tail w))))
    (λ w. omega (arith, weight_lt f g xs (λ i v. h i (Memᴰ.tail v)) w l, h x (Memᴰ.head refl)))

module _ (L : Load) where
  abbrev pub Done : ℕ → Type 0
  Done t = (i : ℕ) → On L i → L.owed i ≤ served L t i

  pub busy-idle : (t : ℕ) → (after L t).busy + (after L t).idle ≡ t
  unfolding start
  busy-idle = always L (λ t c. c.busy + c.idle ≡ t) (omega arith) (λ t p e h. omega arith) (λ t e h. omega arith)

  -- Once all is served nobody is picked any more.
  pub done_rests : (t : ℕ) → Done t → (k : ℕ) → after L (t + k) ≡ rested k (after L t)
  done_rests t d k =
      after_add L t k
      ∙ idles L t (after L t) k (λ m h. nobody_picked L (t + m) (after L t).served (λ i w. inr (d i w))) k (omega arith)

  module _ (K : Counters L) where
    done_grows : (t : ℕ) → Done t → Done (suc t)
    done_grows t d i m = omega (arith, d i m, served_grows L K t i)

    -- An idle tick comes before the greatest release, or after all is served.
    idle_early : (t : ℕ) → ((after L t).idle ≤ greatest L.release L.on) ⊎ Done t
    idle_early zero = inl (omega (arith, busy-idle 0))
    idle_early (suc t) =
        split (turn_cases L t)
        (λ e.
        test (ltb t (greatest L.release L.on))
        (λ l. inl (omega (tests, ap (λ (c : Core). c.idle) (after_idle L t e), busy-idle t)))
        (λ l. inr (done_grows t (λ i m. idle_none L t e m (omega (tests, greatest_ge L.release L.on m))))))
        (λ q.
        split (idle_early t)
        (λ h. inl (omega (arith, ap (λ (c : Core). c.idle) (after_served L t q.0 q.1))))
        (λ d. inr (done_grows t d)))

    -- Who is picked is owed something, so until then the idle ticks lie before the greatest release.
    idle_picked : (t p : ℕ) → turn L t ≡ some p → (after L t).idle ≤ greatest L.release L.on
    idle_picked t p e =
        split (idle_early t) (λ h. h)
        (λ d. let a = served_is_active L t e in absurd (omega (arith, d p a.0, a.2)))

    busy-served : (t : ℕ) → (after L t).busy ≡ weight (served L t) L.on
    busy-served zero = omega (arith, busy-idle 0, weight_zero (served L 0) L.on (λ i m. served-start L i))
    busy-served (suc t) =
        let ih = busy-served t in
        split (turn_cases L t)
        (λ e.
        omega (
          arith,
          ap (λ (c : Core). c.busy) (after_idle L t e),
          group_other L K L.on t (λ b q m. let z : ◌≡◌ {A = ℕ} 0 1 = cc in omega arith),
        ))
        (λ q.
        omega (
          arith,
          ap (λ (c : Core). c.busy) (after_served L t q.0 q.1),
          group_tick L K L.on K.once t q.0 q.1 (served_is_active L t q.1).0,
        ))

    busy_most : (t : ℕ) → (after L t).busy ≤ weight L.owed L.on
    busy_most t = omega (arith, busy-served t, weight_le (served L t) L.owed L.on (λ i m. served_most L K t i))

    -- What is served by the end of all service is all that is owed.
    pub busy_done : (t : ℕ) → Done t → (after L t).busy ≡ weight L.owed L.on
    busy_done t d = omega (arith, busy_most t, busy-served t, weight_le L.owed (served L t) L.on d)

    -- By the horizon all that is owed has been served.
    pub done_horizon : Done (horizon L)
    unfolding horizon
    done_horizon =
        let h = greatest L.release L.on + weight L.owed L.on in
        split (idle_early h)
        (λ l i m.
        test (ltb (served L h i) (L.owed i))
        (λ q.
        absurd
        (omega (
          arith,
          busy-idle h,
          busy-served h,
          weight_lt (served L h) L.owed L.on (λ j w. served_most L K h j) m (omega tests),
        )))
        (λ q. omega tests))
        (λ d. d)

    -- A jump of a pick ends by the horizon.
    pub jump_horizon :
        (t k p : ℕ) → Quiet L t k → turn L t ≡ some p → served L t p + k ≤ L.owed p → 0 < k → t + k ≤ horizon L
    unfolding horizon
    jump_horizon t k p quiet e room z =
        omega (
          arith,
          busy-idle (t + k),
          busy_most (t + k),
          idle_picked t p e,
          ap (λ (c : Core). c.idle)
              (after_add L t k
              ∙ jump L t (after L t) k quiet p (omega (arith, lengths L t, K.small p (served_is_active L t e).0)) e room k z (omega arith)),
        )
