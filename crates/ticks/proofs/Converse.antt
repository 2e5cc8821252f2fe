-- The other half of the checker: a core that finishes all its sub-jobs by their deadlines shows that these meet (7).
use Prim.Native.Nat.{ℕ, zero, suc, ◌-◌, ◌≤◌, ◌<◌}
use mathlib.Core.Bool.{Bool}
use mathlib.Core.List.{List, Memᴰ}
use mathlib.Core.Path.{◌≡◌, ◌∙◌}
use native.Mathlib.Omega.{arith}
use Rattle.lists.specs.Places.{filter, weight, least, greatest}
use Rattle.lists.proofs.Cases.{split, test, clash}
use Rattle.lists.proofs.Members.{filled, in_filter, filter_in, nodup_filter}
use Rattle.lists.proofs.Sums.{weight_cong, weight_in, least_le, greatest_ge, weight_zero}
use Rattle.subjobs.specs.Terms.{Terms}
use Rattle.subjobs.specs.Conditions.{Seven}
use Rattle.ticks.specs.Core.{Load, served}
use Rattle.ticks.specs.Runs.{finish, load_of}
use Rattle.ticks.proofs.Service.{Counters, served-start, turn_cases, served_is_active, group_tick, group_other}
use Rattle.ticks.proofs.Finishes.{finish_by}

-- A subset is served one tick a tick, from its smallest release on.
pub served_since :
    (L : Load) → Counters L → (U : ℕ → Bool) (t : ℕ) → weight (served L t) (filter U L.on) ≤ t - least L.release (filter U L.on)
served_since L K U zero = omega (arith, weight_zero (served L zero) (filter U L.on) (λ i m. served-start L i))
served_since L K U (suc t) =
    let ys = filter U L.on in
    let ih = served_since L K U t in
    split (turn_cases L t)
    (λ e. omega (arith, group_other L K ys t (λ b q m. let z : ◌≡◌ {A = ℕ} 0 1 = cc in omega arith)))
    (λ w.
    let a = served_is_active L t w.1 in
    test (U w.0)
    (λ u.
    let m = in_filter U L.on a.0 u in
    omega (
      arith,
      a.1,
      least_le L.release ys m,
      group_tick L K ys (nodup_filter U L.on K.once) t w.0 w.1 m,
    ))
    (λ n.
    omega (
      arith,
      group_other L K ys t (λ b q m. let e = w.1 in let z : b ≡ w.0 = cc in clash (rw (← z) (filter_in U L.on m).1) n),
    )))

-- With every finish by its deadline, all of a subset is served at its greatest deadline.
module _
    (T : Terms)
    (o d : ℕ → ℕ)
    (lt : ℕ → ℕ → Bool)
    (xs : List ℕ)
    (K : Counters (load_of T o lt xs))
    (met : (i : ℕ) → Memᴰ i xs → (o i ≡ T.execution i) × (0 < T.execution i) × (finish (load_of T o lt xs) i ≤ d i)) where
  pub met_seven : Seven T d xs
  met_seven U n =
      let L = load_of T o lt xs in
      let ys = filter U xs in
      let w = filled ys n in
      omega (
        arith,
        served_since L K U (greatest d ys),
        weight_cong (served L (greatest d ys)) T.execution ys
            (λ i m.
            let e = (filter_in U xs m).0 in
            let h = met i e in
            (finish_by L K i e (omega arith) (greatest d ys)).0 (omega (arith, greatest_ge d ys m)) ∙ h.0),
        weight_in T.execution ys w.1,
        (met w.0 (filter_in U xs w.1).0).1,
      )
