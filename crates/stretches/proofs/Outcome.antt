-- What callers need of a room that is read: set by set, what is told of it and what stands in its stretch.
use Rattle.std.specs.Prelude.{Ok, Err}
use Prim.Native.Nat.{ℕ, ◌+◌, ◌*◌, ◌≤◌, ◌<◌}
use mathlib.Core.List.{List, flatten}
use mathlib.Core.Path.{◌≡◌, ap, ◌∙◌}
use native.Mathlib.Omega.{arith}
use borrow.Author.Tests.{eqb-true}
use lib.ListN.{length, get_or, drop, length-drop}
use lib.Seq.{length-take-le}
use Rattle.lists.proofs.Sums.{total_left}
use Rattle.subjobs.specs.declared.Reason.{Reason}
use Rattle.subjobs.specs.Sets.{size}
use Rattle.olda.proofs.Results.{results-length}
use Rattle.stretches.specs.Stretches.{stretch, start, each}
use Rattle.stretches.specs.Answers.{Room, set_at, answer_at, results_at, number, place, judgement, deadlines_after, numbers_after, places_after}
use Rattle.stretches.specs.Faults.{Fit}
use Rattle.stretches.proofs.Stretched.{each-length, each_at, start_left, joined_length, joined_stretch}
use Rattle.stretches.proofs.Judged.{read_exactly}

-- A room that is refused keeps its lists.
module _ (R : Room) (r : Reason) (e : judgement R ≡ Err r) where
  pub refused_keeps : (deadlines_after R ≡ R.deadlines) × (numbers_after R ≡ R.numbers) × (places_after R ≡ R.places)
  unfolding deadlines_after numbers_after places_after
  refused_keeps = (rw e, rw e, rw e)

module _ (R : Room) (F : Fit R) where
  abbrev ns : List ℕ
  ns = R.lengths

  read : judgement R ≡ Ok tt
  read = (read_exactly R).1 F

  read_deadlines : deadlines_after R ≡ flatten (each (results_at R.sets R.deadlines) 0 ns)
  unfolding deadlines_after
  read_deadlines = rw read

  pub read_numbers : numbers_after R ≡ each (λ a n. number (answer_at R.sets a n)) 0 ns
  unfolding numbers_after
  read_numbers = rw read

  pub read_places : places_after R ≡ each (λ a n. place (answer_at R.sets a n)) 0 ns
  unfolding places_after
  read_places = rw read

  pub numbers_length : length (numbers_after R) ≡ length ns
  numbers_length = ap length read_numbers ∙ each-length (λ a n. number (answer_at R.sets a n)) 0 ns

  pub places_length : length (places_after R) ≡ length ns
  places_length = ap length read_places ∙ each-length (λ a n. place (answer_at R.sets a n)) 0 ns

  -- A set is inside the lists.
  pub set_inside : (k : ℕ) → k < length ns → start ns k + get_or ns k 0 ≤ size R.sets
  set_inside k h = omega (arith, start_left ns k, total_left ns k h, F.whole.sum)

  -- and so its stretch of each is as long as it is
  pub stretch-length : (k : ℕ) → k < length ns → (xs : List ℕ) → length xs ≡ size R.sets → length (stretch (start ns k) (get_or ns k 0) xs) ≡ get_or ns k 0
  stretch-length k h xs l =
      length-take-le (get_or ns k 0) (drop (start ns k) xs) (omega (arith, set_inside k h, length-drop (start ns k) xs))

  pub deadlines-length : length R.deadlines ≡ size R.sets
  deadlines-length = eqb-true _ _ F.whole.lists.further

  long : (k : ℕ) → k < length ns → length (results_at R.sets R.deadlines (0 + start ns k) (get_or ns k 0)) ≡ 1 * get_or ns k 0
  long k h =
      let z : 0 + start ns k ≡ start ns k = omega arith in
      rw z
      (results-length (set_at R.sets (start ns k) (get_or ns k 0)) (stretch (start ns k) (get_or ns k 0) R.deadlines)
      ∙ stretch-length k h R.deadlines deadlines-length
      ∙ omega arith)

  pub after_length : length (deadlines_after R) ≡ size R.sets
  after_length = rw read_deadlines (joined_length 1 (results_at R.sets R.deadlines) ns long ∙ omega (arith, F.whole.sum))

  module _ (k : ℕ) (h : k < length ns) where
    pub number_told : get_or (numbers_after R) k 0 ≡ number (answer_at R.sets (start ns k) (get_or ns k 0))
    number_told = rw read_numbers (each_at (λ a n. number (answer_at R.sets a n)) 0 ns k h)

    pub place_told : get_or (places_after R) k 0 ≡ place (answer_at R.sets (start ns k) (get_or ns k 0))
    place_told = rw read_places (each_at (λ a n. place (answer_at R.sets a n)) 0 ns k h)

    pub stretch_left : stretch (start ns k) (get_or ns k 0) (deadlines_after R) ≡ results_at R.sets R.deadlines (start ns k) (get_or ns k 0)
    stretch_left =
        let a : 1 * start ns k ≡ start ns k = omega arith in
        let n : 1 * get_or ns k 0 ≡ get_or ns k 0 = omega arith in
        rw read_deadlines (rw (a, n) at (joined_stretch 1 (results_at R.sets R.deadlines) ns long k h))
