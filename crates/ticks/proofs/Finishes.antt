-- A finish is right: it is the end of the last tick served, and from it on, and no earlier, the sub-job has been served
-- what it is owed.
--
--   LastTick L i f == f is the end of the last tick served to i
use Prim.Native.Nat.{ℕ, suc, ◌≤◌, ◌<◌}
use mathlib.Core.Logic.{◌≢◌, ◌↔◌}
use mathlib.Core.Option.{some}
use mathlib.Core.Path.{◌≡◌, sym, ◌∙◌}
use native.Mathlib.Omega.{arith}
use lib.Dec.{leb, eqb}
use Rattle.lists.proofs.Cases.{split, test, tests}
use Rattle.ticks.specs.Core.{Load, served, turn}
use Rattle.ticks.specs.Runs.{horizon, finish}
use Rattle.ticks.proofs.Service.{On, Counters, served_is_active}
use Rattle.ticks.proofs.Counted.{done_horizon}
use Rattle.ticks.proofs.Ends.{ended_most, last_tick, finish_nothing, finish-owed, done_finish}
use Rattle.ticks.proofs.Groups.{done_later}

-- The tick before f is served to i, and no later one.
pub record LastTick (L : Load) (i f : ℕ) : Type 0 where
  pub tick : ℕ
  pub ends : suc tick ≡ f
  pub served : turn L tick ≡ some i
  pub last : (t : ℕ) → f ≤ t → turn L t ≢ some i

module _ (L : Load) (K : Counters L) (i : ℕ) (m : On L i) (due : 0 < L.owed i) where
  finish_done : (t : ℕ) → finish L i ≤ t → served L t i ≡ L.owed i
  finish_done t b =
      let soon : finish L i ≤ horizon L = omega (arith, finish-owed L i due, ended_most L K (horizon L) i) in
      done_later L K (finish L i) t i b (done_finish L K (finish L i) i m due (omega arith) soon)

  -- A finish is the end of the last tick served.
  pub finish_last : LastTick L i (finish L i)
  finish_last =
      split (last_tick L K (horizon L) i)
      (λ z. absurd (omega (arith, done_horizon L K i m)))
      (λ w.
      record {
        tick = w.0;
        ends = w.1.0 ∙ sym (finish-owed L i due);
        served = w.1.1;
        last = λ t l e. omega (arith, (served_is_active L t e).2, finish_done t l);
      })

  -- From the finish on all that is owed has been served, and not before.
  pub finish_by : (t : ℕ) → (finish L i ≤ t) ↔ (served L t i ≡ L.owed i)
  finish_by t =
      let l = finish_last in (
        finish_done t,
        λ q.
            test (leb (finish L i) t) (λ y. omega tests)
            (λ n.
            absurd
            (omega (
              tests,
              (served_is_active L l.tick l.served).2,
              done_later L K t l.tick i (omega (tests, l.ends)) (omega arith),
            ))),
      )

-- Two that are released alike, owed alike and served alike finish alike, be it on two cores.
pub finish_alike :
    (L M : Load) → Counters L → Counters M → (i j : ℕ) → On L i → On M j
    → L.release i ≡ M.release j
    → L.owed i ≡ M.owed j
    → ((t : ℕ) → served L t i ≡ served M t j)
    → finish L i ≡ finish M j
finish_alike L M K N i j m n r o s =
    test (eqb (L.owed i) 0)
    (λ z. finish_nothing L i (omega tests) ∙ r ∙ sym (finish_nothing M j (omega tests)))
    (λ z.
    let f = finish L i in
    let g = finish M j in
    let a = finish_by L K i m (omega tests) in
    let b = finish_by M N j n (omega tests) in
    omega (
      arith,
      (a g).1 (omega (arith, s g, (b g).0 (omega arith))),
      (b f).1 (omega (arith, s f, (a f).0 (omega arith))),
    ))
