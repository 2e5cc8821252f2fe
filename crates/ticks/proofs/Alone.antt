-- What settles the service of the core, whatever its order: who is served in a tick, and that a core serves some of its
-- sub-jobs as if they stood on a core of their own, be it under other names and in another order of the list.
--
--   Stands M L π == the sub-jobs of M stand on L: i stands there as π i, released, owed and served before others alike
--   Free M L π   == who is served on L is of M, or nobody of M can be served there in that tick
use Prim.Native.Nat.{ℕ, zero, suc, ◌≤◌, ◌<◌}
use mathlib.Core.Bool.{false}
use mathlib.Core.List.{List, Memᴰ}
use mathlib.Core.Logic.{◌⊎◌, inl, inr}
use mathlib.Core.Option.{some}
use mathlib.Core.Path.{◌≡◌, refl, sym, ap, ◌∙◌}
use native.Mathlib.Omega.{arith}
use Rattle.lists.proofs.Cases.{split}
use Rattle.lists.proofs.Choice.{Order, Total}
use Rattle.ticks.specs.Core.{Load, served, turn}
use Rattle.ticks.proofs.Service.{On, Counters, served-start, turn_cases, served_is_active, served_first, idle_none, tick_cases}

-- An active one is served if no active one comes before it.
turn_is :
    (L : Load) → Order L.before → Total L.before L.on → (t : ℕ) {b : ℕ}
    → On L b
    → L.release b ≤ t
    → served L t b < L.owed b
    → ((i : ℕ) → On L i → L.release i ≤ t → served L t i < L.owed i → L.before i b ≡ false)
    → turn L t ≡ some b
turn_is L ord tot t {b} m h k f =
    split (turn_cases L t)
    (λ e. absurd (omega (arith, idle_none L t e m h)))
    (λ w.
    let a = served_is_active L t w.1 in
    let q : w.0 ≡ b = tot w.0 b a.0 m (f w.0 a.0 a.1 a.2) (served_first L ord t w.1 m h k) in
    w.1 ∙ ap some q)

pub record Stands (M L : Load) (π : ℕ → ℕ) : Type 0 where
  pub there : (i : ℕ) → On M i → On L (π i)
  pub apart : (i j : ℕ) → On M i → On M j → π i ≡ π j → i ≡ j
  pub release : (i : ℕ) → On M i → M.release i ≡ L.release (π i)
  pub owed : (i : ℕ) → On M i → M.owed i ≡ L.owed (π i)
  pub before : (i j : ℕ) → On M i → On M j → M.before i j ≡ L.before (π i) (π j)

abbrev pub Free : (M L : Load) → (ℕ → ℕ) → Type 0
Free M L π =
    (t b : ℕ)
    → turn L t ≡ some b
    → ((i : ℕ) × On M i × (π i ≡ b)) ⊎ ((i : ℕ) → On M i → L.release (π i) ≤ t → L.owed (π i) ≤ served L t (π i))

-- Then all of M are served alike on both.
module _
    (M L : Load)
    (π : ℕ → ℕ)
    (S : Stands M L π)
    (N : Counters M)
    (K : Counters L)
    (ordM : Order M.before)
    (ordL : Order L.before)
    (tot : Total L.before L.on)
    (free : Free M L π) where
  module _ (t : ℕ) (ih : (i : ℕ) → On M i → served M t i ≡ served L t (π i)) where
    turn_to : (b : ℕ) → On M b → turn L t ≡ some (π b) → turn M t ≡ some b
    turn_to b m e =
        let a = served_is_active L t e in
        turn_is M ordM
        (λ i j p q x y. S.apart i j p q (tot (π i) (π j) (S.there i p) (S.there j q) (sym (S.before i j p q) ∙ x) (sym (S.before j i q p) ∙ y)))
        t m (omega (arith, a.1, S.release b m)) (omega (arith, a.2, ih b m, S.owed b m))
        (λ i n h k.
        S.before i b n m
        ∙ served_first L ordL t e (S.there i n) (omega (arith, S.release i n)) (omega (arith, ih i n, S.owed i n)))

    turn_back : (b : ℕ) → turn M t ≡ some b → turn L t ≡ some (π b)
    turn_back b e =
        let a = served_is_active M t e in
        let m = a.0 in
        let h : L.release (π b) ≤ t = omega (arith, a.1, S.release b m) in
        let k : served L t (π b) < L.owed (π b) = omega (arith, a.2, ih b m, S.owed b m) in
        split (turn_cases L t)
        (λ f. absurd (omega (arith, idle_none L t f (S.there b m) h)))
        (λ w.
        split (free t w.0 w.1)
        (λ q.
        let g : turn L t ≡ some (π q.0) = w.1 ∙ ap some (sym q.2) in
        let f = turn_to q.0 q.1 g in
        let z : q.0 ≡ b = cc in
        g ∙ ap (λ (i : ℕ). some (π i)) z)
        (λ n. absurd (omega (arith, n b m h))))

  pub served_stands : (t i : ℕ) → On M i → served M t i ≡ served L t (π i)
  served_stands zero i m = served-start M i ∙ sym (served-start L (π i))
  served_stands (suc t) i m =
      let ih = served_stands t in
      let e = ih i m in
      split (tick_cases M N t i)
      (λ p.
      split (tick_cases L K t (π i))
      (λ q. omega arith)
      (λ q. absurd (q.0 (turn_back t ih i p.0))))
      (λ p.
      split (tick_cases L K t (π i))
      (λ q. absurd (p.0 (turn_to t ih i m q.0)))
      (λ q. omega arith))

-- Under their own names: some of the sub-jobs, ys, on a core of their own that owes them the same.
abbrev pub alone : Load → (ℕ → ℕ) → List ℕ → Load
alone L o ys = record { release = L.release; owed = o; before = L.before; on = ys }

pub served_alike :
    (L : Load) (o : ℕ → ℕ) (ys : List ℕ) → Counters (alone L o ys) → Counters L → Order L.before → Total L.before L.on
    → ((i : ℕ) → Memᴰ i ys → On L i)
    → ((i : ℕ) → Memᴰ i ys → o i ≡ L.owed i)
    → ((t b : ℕ) → turn L t ≡ some b → Memᴰ b ys ⊎ ((i : ℕ) → Memᴰ i ys → L.release i ≤ t → L.owed i ≤ served L t i))
    → (t i : ℕ) → Memᴰ i ys → served L t i ≡ served (alone L o ys) t i
served_alike L o ys N K ord tot within owed free t i m =
    sym
    (served_stands (alone L o ys) L (λ j. j)
    (record { there = within; apart = λ j k p q e. e; release = λ j n. refl; owed = owed; before = λ j k p q. refl })
    N K ord ord tot (λ u b e. split (free u b e) (λ n. inl (b, n, refl)) (λ n. inr n)) t i m)
