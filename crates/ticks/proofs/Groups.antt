-- A group of sub-jobs on the core. If the core serves the group whenever one of it can be served, and the group has
-- room before a moment D, counted from every moment on, then at D all that the group is owed has been served.
--
--   left L t i    == what i is still owed at moment t
--   since L h a   == those of the group h released at or after a
--   Tended L h t  == tick t serves one of the group, or nobody of it can be served
--   Leads L h t   == whoever of the group is on the core comes before whoever outside it can be served in tick t
--   Room t        == what is left at t fits before D: of all the group from t on, of those released later from their release on
use Prim.Native.Nat.{ℕ, zero, suc, ◌+◌, ◌-◌, ◌≤◌, ◌<◌, max}
use mathlib.Core.Bool.{Bool, true, false, ◌&&◌}
use mathlib.Core.List.{List}
use mathlib.Core.Logic.{◌⊎◌, inl, inr}
use mathlib.Core.Option.{some}
use mathlib.Core.Path.{◌≡◌, ap}
use native.Mathlib.Omega.{arith}
use borrow.Author.Tests.{le-leb}
use lib.Dec.{leb}
use Rattle.lists.specs.Places.{filter, weight}
use Rattle.lists.proofs.Cases.{split, test, clash, tests, both}
use Rattle.lists.proofs.Members.{in_filter, nodup_filter}
use Rattle.lists.proofs.Sums.{weight_le, weight_in, weight_one_more, weight_within}
use Rattle.lists.proofs.Choice.{Order}
use Rattle.ticks.specs.Core.{Load, served, turn}
use Rattle.ticks.proofs.Service.{On, Counters, turn_cases, served_first, served_is_active, idle_none, tick_cases, served_grows, served_later, served_most}

abbrev pub left : Load → ℕ → ℕ → ℕ
left L t i = L.owed i - served L t i

module _ (L : Load) (h : ℕ → Bool) where
  abbrev pub since : ℕ → List ℕ
  since a = filter (λ i. h i && leb a (L.release i)) L.on

  abbrev Rests : ℕ → Type 0
  Rests t = (i : ℕ) → On L i → h i ≡ true → L.release i ≤ t → L.owed i ≤ served L t i

  abbrev pub Tended : ℕ → Type 0
  Tended t = ((b : ℕ) × (turn L t ≡ some b) × (h b ≡ true)) ⊎ Rests t

  abbrev pub Leads : ℕ → Type 0
  Leads t =
      (i b : ℕ) → On L i → On L b → h i ≡ true → h b ≡ false → L.release b ≤ t → L.before i b ≡ true

  -- A group that leads is tended.
  pub leads_tended : Order L.before → (t : ℕ) → Leads t → Tended t
  leads_tended ord t l =
      split (turn_cases L t)
      (λ e. inr (λ i m u a. idle_none L t e m a))
      (λ w.
      let e = w.1 in
      let q = served_is_active L t e in
      test (h w.0) (λ u. inl (w.0, e, u))
      (λ n.
      inr
      (λ i m u a.
      test (leb (L.owed i) (served L t i)) (λ y. omega tests)
      (λ y. clash (l i w.0 m q.0 u n q.1) (served_first L ord t e m a (omega tests))))))

  module _ (K : Counters L) (D : ℕ) where
    abbrev Room : ℕ → Type 0
    Room t = (a : ℕ) → weight (left L t) (since a) ≤ D - max a t

    -- A tick leaves no more than it finds, and one less if it serves the group.
    left_falls : (t : ℕ) (ys : List ℕ) → weight (left L (suc t)) ys ≤ weight (left L t) ys
    left_falls t ys = weight_le (left L (suc t)) (left L t) ys (λ i m. omega (arith, served_grows L K t i))

    one_served :
        (t b : ℕ) → turn L t ≡ some b → h b ≡ true → weight (left L t) (since 0) ≡ suc (weight (left L (suc t)) (since 0))
    one_served t b e u =
        let q = served_is_active L t e in
        weight_one_more (left L (suc t)) (left L t) b (since 0)
        (nodup_filter (λ i. h i && leb 0 (L.release i)) L.on K.once)
        (in_filter (λ i. h i && leb 0 (L.release i)) L.on q.0 (rw (u, le-leb 0 (L.release b) (omega arith))))
        (split (tick_cases L K t b) (λ w. omega (arith, q.2)) (λ w. absurd (w.0 e)))
        (λ i m ne.
        split (tick_cases L K t i)
        (λ w. let z : i ≡ b = cc (w.0, e) in absurd (ne z))
        (λ w. omega (arith, w.1)))

    -- The group has room after the tick if it had room before it.
    keeps_room : (t : ℕ) → t < D → Tended t → Room t → Room (suc t)
    keeps_room t b w room a =
        test (leb a t)
        (λ y.
        let sub =
        weight_within (left L (suc t)) (λ i. h i && leb a (L.release i)) (λ i. h i && leb 0 (L.release i)) L.on
        (λ i m u. inl (whole i u))
        in
        split w
        (λ v. omega (tests, room 0, one_served t v.0 v.1 v.2))
        (λ v.
        omega (
          tests,
          room (suc t),
          left_falls t (since 0),
          weight_within (left L t) (λ i. h i && leb 0 (L.release i)) (λ i. h i && leb (suc t) (L.release i)) L.on (later v),
        )))
        (λ y. omega (tests, room a, left_falls t (since a)))
      where
        whole : (i : ℕ) → (h i && leb a (L.release i)) ≡ true → (h i && leb 0 (L.release i)) ≡ true
        whole i u = rw ((both {a = h i} {b = leb a (L.release i)} u).0, le-leb 0 (L.release i) (omega arith))

        later :
            Rests t → (i : ℕ) → On L i → (h i && leb 0 (L.release i)) ≡ true
            → ((h i && leb (suc t) (L.release i)) ≡ true) ⊎ (left L t i ≡ 0)
        later v i m u =
            let k = (both {a = h i} {b = leb 0 (L.release i)} u).0 in
            test (leb (suc t) (L.release i)) (λ y. inl (rw (k, y))) (λ y. inr (omega (tests, v i m k (omega tests))))

    module _ (tended : (t : ℕ) → t < D → Tended t) (fits : (a : ℕ) → weight L.owed (since a) ≤ D - a) where
      room : (t : ℕ) → t ≤ D → Room t
      room zero b a = omega (arith, fits a, weight_le (left L zero) L.owed (since a) (λ i m. omega arith))
      room (suc t) b a = keeps_room t (omega arith) (tended t (omega arith)) (room t (omega arith)) a

      -- At D all that the group is owed has been served.
      pub group_done : (i : ℕ) → On L i → h i ≡ true → served L D i ≡ L.owed i
      group_done i m u =
          omega (
            arith,
            room D (omega arith) 0,
            weight_in (left L D) (since 0)
                (in_filter (λ j. h j && leb 0 (L.release j)) L.on m (rw (u, le-leb 0 (L.release i) (omega arith)))),
            served_most L K D i,
          )

-- What is served in full stays so.
pub done_later : (L : Load) → Counters L → (k t i : ℕ) → k ≤ t → L.owed i ≤ served L k i → served L t i ≡ L.owed i
done_later L K k t i b e =
    let z : k + (t - k) ≡ t = omega arith in
    omega (arith, served_later L K k (t - k) i, ap (λ (m : ℕ). served L m i) z, served_most L K t i)
