-- Which sub-jobs remain at a step, and what its base subset is. Of an accepted list, those that remain when p is placed
-- are those with a deadline of at most p's. Of a refused list, whoever left before has a bound at or after its own
-- completion, and so after the completion m at which it fails; all of the refused base subset have bounds before m. So
-- that base subset is the base subset of the late ones, those with a bound before m: place and completion settle it.
use Prim.Native.Nat.{ℕ, ◌+◌, ◌≤◌, ◌<◌}
use mathlib.Core.Bool.{Bool, true, ◌&&◌}
use mathlib.Core.List.{List, Memᴰ}
use mathlib.Core.Path.{◌≡◌, refl, sym, ap, ◌∙◌}
use native.Mathlib.Omega.{arith}
use borrow.Author.Tests.{eqb-true, eqb-false, lt-leb, lt-ltb, le-ltb}
use lib.Dec.{ltb, leb, eqb}
use Rattle.lists.specs.Places.{filter, without, least, greatest}
use Rattle.lists.proofs.Cases.{split, test, tests}
use Rattle.lists.proofs.Members.{in_nil, in_without, filter_all, filter_both, filter_within, filter-without}
use Rattle.lists.proofs.Sums.{greatest_in}
use Rattle.lists.proofs.Choice.{Order}
use Rattle.subjobs.specs.Terms.{Terms}
use Rattle.subjobs.specs.Conditions.{Seven}
use Rattle.rules.specs.Rules.{completion_of, Base, Turn, Accepts, over, place, Refuses, here, later, Remains, still, after}
use Rattle.rules.proofs.Rules.{Ones, ones_without, accepts_turn, turn_falls}

-- The upper bound of i lies before m.
abbrev pub late : Terms → ℕ → ℕ → Bool
late T m i = ltb (T.deadline i) (m + T.withheld i)

-- The deadline of i is at most that of p.
abbrev pub no_later : (ℕ → ℕ) → ℕ → ℕ → Bool
no_later d p i = leb (d i) (d p)

module _ (T : Terms) where
  -- The base subset is the base subset of every part that has it whole ..
  pub base_within :
      (xs : List ℕ) (U W : ℕ → Bool) → ((i : ℕ) → Memᴰ i (filter U xs) → W i ≡ true) → Base T xs U → Base T (filter W xs) U
  base_within xs U W h b =
      let q = filter_within U W xs h in
      record {
        filled = λ e. b.filled (sym q ∙ e);
        most = λ X n.
            let x = filter_both X W xs in
            omega (arith, b.most (λ i. W i && X i) (λ e. n (x ∙ e)), ap (completion_of T) x, ap (completion_of T) q);
        latest = λ X n w.
            let x = filter_both X W xs in
            omega (
              arith,
              b.latest (λ i. W i && X i) (λ e. n (x ∙ e)) (sym (ap (completion_of T) x) ∙ w ∙ ap (completion_of T) q),
              ap (least T.release) x,
              ap (least T.release) q,
            );
      }

  -- .. and so a turn is a turn of that part, with the same base subset.
  pub turn_within :
      (xs : List ℕ) (W : ℕ → Bool) {b m : ℕ} (t : Turn T xs b m)
      → ((i : ℕ) → Memᴰ i (filter t.subset xs) → W i ≡ true)
      → (u : Turn T (filter W xs) b m) × (filter u.subset (filter W xs) ≡ filter t.subset xs)
  turn_within xs W t h =
      let q = filter_within t.subset W xs h in (
        record {
          subset = t.subset;
          is_base = base_within xs t.subset W h t.is_base;
          is_job = rw q t.is_job;
          is_completion = t.is_completion ∙ sym (ap (completion_of T) q);
        },
        q,
      )

  -- Deadlines with (7) put some member of a base subset at its completion or later.
  pub turn_reached :
      (xs : List ℕ) (W : ℕ → Bool) {p m : ℕ} (t : Turn T (filter W xs) p m) (d : ℕ → ℕ)
      → Seven T d xs
      → (i : ℕ) × Memᴰ i (filter t.subset (filter W xs)) × (m ≤ d i)
  turn_reached xs W t d h =
      let q = filter_both t.subset W xs in
      let g = greatest_in d (filter t.subset (filter W xs)) t.is_base.filled in (
        g.0,
        g.1,
        omega (
          arith,
          g.2,
          t.is_completion,
          h (λ i. W i && t.subset i) (λ e. t.is_base.filled (q ∙ e)),
          ap (completion_of T) q,
          ap (greatest d) q,
        ),
      )

  -- The step at which a list is refused.
  pub refused_step :
      {p m : ℕ} {xs : List ℕ}
      → Refuses T p m xs
      → (ys : List ℕ) × Remains T xs ys × Turn T ys p m × (T.deadline p < m + T.withheld p)
  refused_step {xs = xs} (here t h) = (xs, still, t, h)
  refused_step (later b k t h f) = let w = refused_step f in (w.0, after b k t (omega arith) w.1, w.2, w.3)

  -- The step at which p of an accepted list is placed.
  pub accepted_turn :
      {d : ℕ → ℕ} (xs : List ℕ)
      → Accepts T d xs
      → {p : ℕ}
      → Memᴰ p xs
      → (ys : List ℕ) × Remains T xs ys × Turn T ys p (d p) × (d p + T.withheld p ≤ T.deadline p)
  accepted_turn xs over m = in_nil m
  accepted_turn {d} xs (place b t h a) {p} m =
      test (eqb p b)
      (λ y. let e = eqb-true p b y in (xs, still, rw e t, rw e h))
      (λ y.
      let w = accepted_turn (without b xs) a (in_without b xs m (eqb-false p b y)) in
      (w.0, after b (d b) t (omega arith) w.1, w.2, w.3))

  module _ (o : Order T.lower) where
    falls_on :
        {zs ys : List ℕ} {p m : ℕ}
        → Remains T zs ys
        → Turn T ys p m
        → (xs : List ℕ) (b k : ℕ)
        → Ones T.execution xs
        → Turn T xs b k
        → zs ≡ without b xs
        → m < k
    falls_on still u xs b k ones t e = turn_falls T o xs ones t (rw e at u)
    falls_on {zs} (after b' k' t' h r) u xs b k ones t e =
        omega (
          arith,
          turn_falls T o xs ones t (rw e at t'),
          falls_on r u zs b' k' (rw e (ones_without T.execution b xs ones)) t' refl,
        )

    -- Completions fall from a turn to all later ones.
    pub remains_falls :
        {xs ys : List ℕ} {b p k m : ℕ}
        → Ones T.execution xs
        → Turn T xs b k
        → Remains T (without b xs) ys
        → Turn T ys p m
        → m < k
    remains_falls {xs} {b = b} {k = k} ones t r u = falls_on r u xs b k ones t refl

    -- All that remains after b is placed gets smaller deadlines than b.
    pub accepted_falls :
        {d : ℕ → ℕ} (xs : List ℕ) (b : ℕ)
        → Ones T.execution xs
        → Turn T xs b (d b)
        → Accepts T d (without b xs)
        → {i : ℕ}
        → Memᴰ i (without b xs)
        → d i < d b
    accepted_falls xs b ones t a m = let w = accepted_turn (without b xs) a m in remains_falls ones t w.1 w.2

    -- Of an accepted list, at every step at which p has the turn those remain that have a deadline of at most p's.
    pub accepted_remains :
        {d : ℕ → ℕ} {xs ys : List ℕ} {p m : ℕ}
        → Ones T.execution xs
        → Accepts T d xs
        → Remains T xs ys
        → Turn T ys p m
        → (d p ≡ m) × (ys ≡ filter (no_later d p) xs)
    accepted_remains {d} {xs} {p = p} ones a still u =
        let w = accepts_turn T o xs ones u a in
        let t = rw (← w.0) at u in (
          w.0,
          sym
              (filter_all (no_later d p) xs
              (λ i k.
              test (no_later d p i) (λ y. y)
              (λ n.
              absurd
              (omega (tests, accepted_falls xs p ones t w.2 (in_without p xs k (λ e. omega (tests, ap d e)))))))),
        )
    accepted_remains {d} {xs} {p = p} ones a (after b k t h r) u =
        let w = accepts_turn T o xs ones t a in
        let q = accepted_remains (ones_without T.execution b xs ones) w.2 r u in (
          q.0,
          q.1 ∙ filter-without (no_later d p) b xs (lt-leb (d b) (d p) (omega (arith, w.0, q.0, remains_falls ones t r u))),
        )

    -- So p is placed when exactly those remain.
    pub accepted_step :
        {d : ℕ → ℕ} (xs : List ℕ)
        → Ones T.execution xs
        → Accepts T d xs
        → {p : ℕ}
        → Memᴰ p xs
        → Remains T xs (filter (no_later d p) xs) × Turn T (filter (no_later d p) xs) p (d p)
    accepted_step xs ones a m =
        let w = accepted_turn xs a m in
        rw (← (accepted_remains ones a w.1 w.2).1) (w.1, w.2)

    -- Nobody who has left is late: all late ones remain.
    pub remains_late :
        {xs ys : List ℕ} {p m : ℕ}
        → Ones T.execution xs
        → Remains T xs ys
        → Turn T ys p m
        → filter (late T m) ys ≡ filter (late T m) xs
    remains_late ones still u = refl
    remains_late {xs} {m = m} ones (after b k t h r) u =
        remains_late (ones_without T.execution b xs ones) r u
        ∙ filter-without (late T m) b xs
        (le-ltb (T.deadline b) (m + T.withheld b) (omega (arith, remains_falls ones t r u)))

    -- At a refused step all of the base subset are late, and so it is the base subset of the late ones.
    pub refused_late :
        ((i j : ℕ) → T.lower i j ≡ true → T.deadline i + T.withheld j ≤ T.deadline j + T.withheld i)
        → {xs ys : List ℕ} {p m : ℕ}
        → Ones T.execution xs
        → Remains T xs ys
        → (t : Turn T ys p m)
        → T.deadline p < m + T.withheld p
        → (u : Turn T (filter (late T m) xs) p m) × (filter u.subset (filter (late T m) xs) ≡ filter t.subset ys)
    refused_late bounds {xs} {ys} {p} {m} ones r t h =
        rw (← remains_late ones r t)
        (turn_within ys (late T m) t
        (λ i k.
        lt-ltb (T.deadline i) (m + T.withheld i)
        (split (t.is_job.1 i k)
        (λ e. omega (arith, ap T.deadline e, ap T.withheld e))
        (λ l. omega (arith, bounds i p l)))))
