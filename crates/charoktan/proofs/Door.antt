-- The door's ways out: lengths that do not fit, too many records, and what the assignment or the checker answers.
use Prim.Native.Nat.{ℕ, ◌*◌, ◌/◌, ◌%◌, ◌<◌}
use mathlib.Core.Bool.{Bool, true, false}
use mathlib.Core.List.{List}
use mathlib.Core.Path.{◌≡◌, refl, sym, ap, ◌∙◌}
use native.Mathlib.Omega.{arith}
use borrow.Author.Tests.{eq-eqb, eqb-true}
use lib.Dec.{eqb}
use lib.ListN.{length, take, replicate, length-replicate}
use Rattle.std.specs.Prelude.{Ok, Err, Some, None}
use Rattle.lists.proofs.Cases.{test, both}
use Rattle.lists.proofs.Mapped.{take-replicate}
use Rattle.subjobs.specs.declared.Reason.TheVariants.{TooMany}
use Rattle.subjobs.specs.Sets.{Subjobs, size}
use Rattle.subjobs.specs.Judging.{Judgement, judgement}
use Rattle.subjobs.specs.Faults as faults
use Rattle.subjobs.specs.Faults.{OneLength}
use Rattle.subjobs.proofs.Fit.{judged_exactly}
use Rattle.subjobs.proofs.Reported.{number_range}
use Rattle.olda.specs.Answers.{Answer}
use Rattle.olda.specs.Answers.{answer, results}
use Rattle.olda.proofs.Results.{results-length, refused_within}
use Rattle.checker.specs.Answers as checkers
use Rattle.checker.specs.Answers.{Checks}
use Rattle.checker.proofs.Reported as reported
use Rattle.charoktan.specs.Records.{column, words, count, records, encoded, fitting, Within}
use Rattle.charoktan.specs.Answers.{told, Small, checked, assigned, if_placed, assigned_bytes, AssignsSet, AssignsBytes}
use Rattle.charoktan.proofs.Coding.{length-column, length-encoded}

-- The lengths that fit: 4 bytes of results for each record.
pub fit_length : (bs : List ℕ) (m : ℕ) → fitting bs m ≡ true → m ≡ 4 * count bs
fit_length bs m e = eqb-true m (4 * count bs) (both {a = eqb (length bs % 24) 0} e).1

pub size-records : (bs : List ℕ) → size (records bs) ≡ count bs
unfolding records
size-records bs = length-column bs 24 0 (count bs)

-- The six lists that the records are read into are of one length.
pub records_lengths : (bs : List ℕ) (others : Bool) → others ≡ true → OneLength (records bs) others
unfolding records
records_lengths bs others e =
    let n = count bs in
    let l : (k : ℕ) → length (column bs 24 k n) ≡ length (column bs 24 0 n) = λ k. length-column bs 24 k n ∙ sym (length-column bs 24 0 n) in
    record { subtasks = l _; releases = l _; executions = l _; deadlines = l _; criticals = l _; further = e }

-- More than 128 records are too many sub-jobs.
judged_many : (bs : List ℕ) (others : Bool) → others ≡ true → 128 < count bs → judgement (records bs) others ≡ Err TooMany
judged_many bs others e h =
    (judged_exactly (records bs) others TooMany).1 (faults.many (records_lengths bs others e) (rw (size-records bs) h))

module _ (bs out : List ℕ) where
  pub unfit : fitting bs (length out) ≡ false → (assigned bs (length out) ≡ 1) × (assigned_bytes bs out ≡ out)
  unfolding assigned assigned_bytes
  unfit e = (rw e, rw e)

  module _ (e : fitting bs (length out) ≡ true) where
    pub answered :
        (a : Answer)
        → answer (records bs) (count bs) ≡ a
        → (assigned bs (length out) ≡ told a)
        × (assigned_bytes bs out ≡ if_placed a (encoded (results (records bs) (replicate (count bs) 0))) out)
    unfolding assigned assigned_bytes
    answered a q = (rw (e, q), rw (e, q))

    pub many : 128 < count bs → (assigned bs (length out) ≡ 2) × (assigned_bytes bs out ≡ out)
    unfolding answer
    many h =
        answered (Err TooMany) (rw (judged_many bs (eqb (count bs) (size (records bs))) (eq-eqb _ _ (sym (size-records bs))) h))

-- Whatever comes of a call, the results keep their length.
pub assigned_length : (bs out : List ℕ) → length (assigned_bytes bs out) ≡ length out
assigned_length bs out =
    test (fitting bs (length out)) (λ e. by_answer e (answer (records bs) (count bs)) refl) (λ e. ap length (unfit bs out e).1)
  where
    by_answer : fitting bs (length out) ≡ true → (a : Answer) → answer (records bs) (count bs) ≡ a → length (assigned_bytes bs out) ≡ length out
    by_answer e (Ok None) q = ap length (answered bs out e (Ok None) q).1
    by_answer e (Err r) q = ap length (answered bs out e (Err r) q).1
    by_answer e (Ok (Some r)) q =
        let ds = results (records bs) (replicate (count bs) 0) in
        ap length (answered bs out e (Ok (Some r)) q).1
        ∙ omega (arith, length-encoded ds, results-length (records bs) (replicate (count bs) 0), length-replicate {A = ℕ} (count bs) 0, fit_length bs (length out) e)

-- The place in the number returned is one of 128.
pub place_small : (bs : List ℕ) (m : ℕ) → assigned bs m / 65_536 < 128
unfolding assigned
place_small bs m = test (fitting bs m) (λ e. rw e (by_answer (answer (records bs) (count bs)) refl)) (λ e. rw e (omega arith))
  where
    by_answer : (a : Answer) → answer (records bs) (count bs) ≡ a → told a / 65_536 < 128
    by_answer (Ok r) q = omega arith
    by_answer (Err r) q = omega (arith, refused_within (records bs) (count bs) r q, (number_range r).1)

-- What comes of the assignment of the set that the bytes hold, in a room of zeros, is what the door is held to.
pub assigned_within :
    (bs out : List ℕ) (n : ℕ) (s : Subjobs) (r : Judgement) (out' : List ℕ)
    → Within bs out n
    → s ≡ records bs
    → AssignsSet s (take (count bs) (replicate n 0)) out r out'
    → AssignsBytes bs out (told r) out'
unfolding assigned assigned_bytes
assigned_within bs out n s r out' W e h =
    let t : take (count bs) (replicate n 0) ≡ replicate (count bs) 0 = take-replicate (count bs) n 0 W.few in
    rw (W.fits) (rw (e, t, length-replicate {A = ℕ}) at h)

module _ (bs ds : List ℕ) where
  pub unfit_check : fitting bs (length ds) ≡ false → checked bs ds ≡ 1
  unfolding checked
  unfit_check e = rw e

  module _ (e : fitting bs (length ds) ≡ true) where
    pub answered_check :
        (a : Judgement) → checkers.answer (records bs) (words ds (count bs)) ≡ a → checked bs ds ≡ told a
    unfolding checked
    answered_check a q = rw (e, q)

    pub many_check : 128 < count bs → checked bs ds ≡ 2
    unfolding checkers.answer
    many_check h =
        answered_check (Err TooMany)
        (rw (judged_many bs (eqb (length (words ds (count bs))) (size (records bs))) (eq-eqb _ _ (length-column ds 4 0 (count bs) ∙ sym (size-records bs))) h))

-- What the checker answers on what the bytes hold is what the door is held to.
pub checked_within :
    (bs ds : List ℕ) (n : ℕ) (s : Subjobs)
    → Within bs ds n
    → s ≡ records bs
    → told (checkers.answer s (words ds (length ds / 4))) ≡ checked bs ds
checked_within bs ds n s W e =
    let k : length ds / 4 ≡ count bs = omega (arith, fit_length bs (length ds) W.fits) in
    rw (e, k) (sym (answered_check bs ds W.fits _ refl))

-- The place of what the checker refuses is small.
pub checked_small : (s : Subjobs) (l : List ℕ) (a : Judgement) → checkers.answer s l ≡ a → Small a
checked_small s l (Ok u) q = tt
checked_small s l (Err w) q = omega (arith, reported.refused_within s l w q)
