-- The judgement, both ways: a set passes exactly if it is `Fit`, and it is refused for a reason exactly if it is `Faulty` for
-- that reason. Every entry's proof starts from `fit`.
use Prim.Native.Nat.{ℕ, ◌<◌, ◌≤◌}
use mathlib.Core.Bool.{Bool, true, false, ◌&&◌}
use mathlib.Core.Logic.{◌⊎◌, ◌↔◌, inl, inr}
use mathlib.Core.Path.{◌≡◌, refl}
use native.Mathlib.Omega.{arith}
use borrow.Author.Tests.{eqb-true, eq-eqb, le-leb, leb-true}
use lib.Dec.{leb, eqb}
use Rattle.lists.proofs.Cases.{split, clash, both, tests}
use Rattle.lists.proofs.Searched.{some_cases}
use Rattle.subjobs.specs.declared.Field.{Field}
use Rattle.subjobs.specs.declared.Field.TheVariants.{Release, Execution, Deadline, Critical, Hop}
use Rattle.std.specs.Prelude.{Err}
use Rattle.subjobs.specs.declared.Reason.{Reason}
use Rattle.subjobs.specs.declared.Reason.TheVariants.{Lengths, TooMany, Range, Pair}
use Rattle.subjobs.specs.Sets.{Subjobs, size, job, subtask, release, execution, deadline, critical}
use Rattle.subjobs.specs.Judging.{unless, one_length, range_at, ranges, pair_at, pairs, judgement, passed}
use Rattle.subjobs.specs.Faults.{OneLength, InRange, AllInRange, Ranged, RangedBefore, SamePair, Faulty, lengths, many, range, pair}
use Rattle.subjobs.proofs.Exactly.{Exactly, passing, refusing, exactly_so, exactly_test, exactly_unless, exactly_or, exactly_first}
pub use Rattle.subjobs.specs.Faults.{Fit}
pub use Rattle.subjobs.proofs.Exactly.{refused_passed}

-- 1
pub one_length_lem : (s : Subjobs) (others : Bool) → one_length s others ≡ true → OneLength s others
one_length_lem s others e =
    let f = both e in
    let d = both f.0 in
    let c = both d.0 in
    let b = both c.0 in
    let a = both b.0 in
    record {
      subtasks = eqb-true _ _ a.0;
      releases = eqb-true _ _ a.1;
      executions = eqb-true _ _ b.1;
      deadlines = eqb-true _ _ c.1;
      criticals = eqb-true _ _ d.1;
      further = f.1;
    }

pub all_one_length : (s : Subjobs) (others : Bool) → OneLength s others → one_length s others ≡ true
all_one_length s others l =
    rw (
      eq-eqb _ _ l.subtasks,
      eq-eqb _ _ l.releases,
      eq-eqb _ _ l.executions,
      eq-eqb _ _ l.deadlines,
      eq-eqb _ _ l.criticals,
      l.further,
    )

-- 3
pub at_most : (x m : ℕ) (w : Reason) → Exactly (unless (leb x m) w) (x ≤ m) (λ r. (r ≡ w) × (x ≤ m → ⊥))
at_most x m w = exactly_test (leb x m) w (leb-true x m) (le-leb x m)

pub between :
    (a x m : ℕ) (w : Reason)
    → Exactly (unless (leb a x && leb x m) w) ((a ≤ x) × (x ≤ m)) (λ r. (r ≡ w) × ((a ≤ x) × (x ≤ m) → ⊥))
between a x m w =
    exactly_test (leb a x && leb x m) w
    (λ e. let b = both e in (leb-true _ _ b.0, leb-true _ _ b.1))
    (λ h. rw (le-leb _ _ h.0, le-leb _ _ h.1))

module _ (s : Subjobs) (p : ℕ) where
  -- The first field of a place that is out of range.
  abbrev FirstOut : Reason → Type 0
  FirstOut r = (f : Field) × (r ≡ Range p f) × RangedBefore s f p × (Ranged s f p → ⊥)

  -- the same, as the checks are made one after the other
  abbrev Out : Reason → Type 0
  Out r =
      ((r ≡ Range p Release) × (Ranged s Release p → ⊥))
      ⊎ (Ranged s Release p
      × (((r ≡ Range p Execution) × (Ranged s Execution p → ⊥))
      ⊎ (Ranged s Execution p
      × (((r ≡ Range p Deadline) × (Ranged s Deadline p → ⊥))
      ⊎ (Ranged s Deadline p × ((r ≡ Range p Critical) × (Ranged s Critical p → ⊥)))))))

  range_exactly :
      Exactly (range_at p (release s p) (execution s p) (deadline s p) (critical s p))
      (InRange (release s p) (execution s p) (deadline s p) (critical s p))
      FirstOut
  range_exactly =
      exactly_so
      (exactly_or (at_most (release s p) 1_000_000_000 (Range p Release))
      (exactly_or (between 1 (execution s p) 1_000_000 (Range p Execution))
      (exactly_or (at_most (deadline s p) 2_000_000_000 (Range p Deadline))
      (at_most (critical s p) 1_000_000_000 (Range p Critical)))))
      (λ h. record { release = h.0; some = h.1.0.0; execution = h.1.0.1; deadline = h.1.1.0; critical = h.1.1.1 })
      (λ h. (h.release, ((h.some, h.execution), (h.deadline, h.critical))))
      (λ r q.
      split q (λ h. (Release, h.0, tt, h.1))
      (λ a.
      split a.1 (λ h. (Execution, h.0, a.0, h.1))
      (λ b.
      split b.1 (λ h. (Deadline, h.0, (a.0, b.0), h.1))
      (λ d. (Critical, d.1.0, (a.0, b.0, d.0), d.1.1)))))
      back
    where
      back : (r : Reason) → FirstOut r → Out r
      back r (Release, e, h, n) = inl (e, n)
      back r (Execution, e, h, n) = inr (h, inl (e, n))
      back r (Deadline, e, h, n) = inr (h.0, inr (h.1, inl (e, n)))
      back r (Critical, e, h, n) = inr (h.0, inr (h.1, inr (h.2, (e, n))))
      back r (Hop, e, h, n) = absurd (n tt)

  -- 4
  abbrev New : Type 0
  New = (j : ℕ) → j < p → SamePair s j p → ⊥

  abbrev Seen : Type 0
  Seen = (j : ℕ) × (j < p) × SamePair s j p

  pair_exactly : Exactly (pair_at (job s) (subtask s) p) New (λ r. (r ≡ Pair p) × Seen)
  pair_exactly =
      split (some_cases (λ j. eqb (job s j) (job s p) && eqb (subtask s j) (subtask s p)) p)
      (λ h.
      rw h.0
      (exactly_unless true (Pair p) (λ e j l q. clash (rw (eq-eqb _ _ q.0, eq-eqb _ _ q.1)) (h.1 j l))
      (λ e. clash refl e)
      (λ n w. n w.0 w.1 w.2)))
      (λ h.
      let b = both h.3 in
      rw h.0
      (exactly_unless false (Pair p) (λ e. clash e refl) (λ e. (h.1, h.2, (eqb-true _ _ b.0, eqb-true _ _ b.1)))
      (λ n w. n w.0 w.1 w.2)))

-- 2, 3 and 4 of a whole set.
module _ (s : Subjobs) where
  abbrev FirstRange : Reason → Type 0
  FirstRange r = (p : ℕ) × (p < size s) × AllInRange s p × FirstOut s p r

  abbrev FirstPair : Reason → Type 0
  FirstPair r = (p : ℕ) × (p < size s) × ((k : ℕ) → k < p → New s k) × ((r ≡ Pair p) × Seen s p)

  pub few_exactly : Exactly (unless (leb (size s) 128) TooMany) (size s ≤ 128) (λ r. (r ≡ TooMany) × (128 < size s))
  few_exactly = exactly_unless (leb (size s) 128) TooMany (λ e. omega tests) (λ e. omega tests) (λ a b. omega arith)

  pub ranges_exactly : Exactly (ranges (release s) (execution s) (deadline s) (critical s) (size s)) (AllInRange s (size s)) FirstRange
  ranges_exactly = exactly_first _ _ _ (range_exactly s) (size s)

  pub pairs_exactly : Exactly (pairs (job s) (subtask s) (size s)) ((k : ℕ) → k < size s → New s k) FirstPair
  pairs_exactly = exactly_first _ _ _ (pair_exactly s) (size s)

-- 1, and all four one after the other.
module _ (s : Subjobs) (others : Bool) where
  pub lengths_exactly : Exactly (unless (one_length s others) Lengths) (OneLength s others) (λ r. (r ≡ Lengths) × (OneLength s others → ⊥))
  lengths_exactly = exactly_test (one_length s others) Lengths (one_length_lem s others) (all_one_length s others)

  -- why each reason is given, in the order of the checks
  reasons :
      (r : Reason)
      → Faulty s others r
      → ((r ≡ Lengths) × (OneLength s others → ⊥))
      ⊎ (OneLength s others × (((r ≡ TooMany) × (128 < size s)) ⊎ ((size s ≤ 128) × (FirstRange s r ⊎ (AllInRange s (size s) × FirstPair s r)))))
  reasons _ (lengths n) = inl (refl, n)
  reasons _ (many l m) = inr (l, inl (refl, m))
  reasons _ (range p f l m b all before n) = inr (l, inr (m, inl (p, b, all, (f, refl, before, n))))
  reasons _ (pair p j l m all b once before same) =
      inr (l, inr (m, inr (all, (p, b, (λ k h i a q. once i k a h q.0 q.1), (refl, (j, before, same))))))

  pub judged : Exactly (judgement s others) (Fit s others) (Faulty s others)
  unfolding judgement
  judged =
      exactly_so
      (exactly_or lengths_exactly (exactly_or (few_exactly s) (exactly_or (ranges_exactly s) (pairs_exactly s))))
      (λ h. record { lengths = h.0; few = h.1.0; ranges = h.1.1.0; pairs = λ i j a b e f. h.1.1.1 j b i a (e, f) })
      (λ h. (h.lengths, (h.few, (h.ranges, λ j b i a q. h.pairs i j a b q.0 q.1))))
      (λ r q.
      split q (λ h. rw h.0 (lengths h.1))
      (λ l.
      split l.1 (λ h. rw h.0 (many l.0 h.1))
      (λ m.
      split m.1
      (λ h. let o = h.3 in rw o.1 (range h.0 o.0 l.0 m.0 h.1 h.2 o.2 o.3))
      (λ a.
      let w = a.1 in
      let j = w.3.1 in
      rw w.3.0
      (pair w.0 j.0 l.0 m.0 a.0 w.1 (λ i k a b e f. w.2 k b i a (e, f)) j.1 j.2)))))
      reasons

  pub passed_exactly : (judgement s others ≡ passed) ↔ Fit s others
  passed_exactly = passing judged

  pub judged_exactly : (r : Reason) → (judgement s others ≡ Err r) ↔ Faulty s others r
  judged_exactly = refusing judged

  pub fit : judgement s others ≡ passed → Fit s others
  fit = passed_exactly.0

  pub fit_passes : Fit s others → judgement s others ≡ passed
  fit_passes = passed_exactly.1

-- The six lists of a set that passes pass without the further ones.
pub fit_alone : (s : Subjobs) (others : Bool) → Fit s others → Fit s true
fit_alone s others f =
    let l = f.lengths in
    record {
      lengths =
          record {
            subtasks = l.subtasks;
            releases = l.releases;
            executions = l.executions;
            deadlines = l.deadlines;
            criticals = l.criticals;
            further = refl;
          };
      few = f.few;
      ranges = f.ranges;
      pairs = f.pairs;
    }
