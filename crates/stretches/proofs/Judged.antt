-- A room's judgement, both ways: it is read exactly if it is `Fit`, and refused for a reason exactly if it is `Faulty` for it.
use Rattle.std.specs.Prelude.{Ok, Err}
use Prim.Native.Nat.{ℕ, ◌+◌, ◌-◌, ◌≤◌, ◌<◌}
use mathlib.Core.Bool.{Bool, true, false, ◌&&◌}
use mathlib.Core.List.{List}
use mathlib.Core.Logic.{◌⊎◌, ◌↔◌, inl, inr}
use mathlib.Core.Path.{◌≡◌, refl, sym, ap}
use native.Mathlib.Omega.{arith}
use borrow.Author.Tests.{eqb-true, eq-eqb, ne_eqb, le-leb, leb-true}
use lib.Dec.{eqb}
use lib.ListN.{length, get_or, drop, drop_of_length-le}
use Rattle.lists.specs.Places.{total}
use Rattle.lists.proofs.Cases.{split, test, both, eqb_no}
use Rattle.lists.proofs.Sums.{weight-nil, total_left}
use Rattle.subjobs.specs.declared.Reason.{Reason}
use Rattle.subjobs.specs.declared.Reason.TheVariants.{Lengths, TooLarge}
use Rattle.subjobs.specs.Sets.{size}
use Rattle.subjobs.specs.Judging.{one_length}
use Rattle.subjobs.proofs.Exactly.{Exactly, passing, refusing, exactly_so, exactly_test, exactly_or}
use Rattle.subjobs.proofs.Fit.{one_length_lem, all_one_length}
use Rattle.stretches.specs.Answers as answers
use Rattle.stretches.specs.Answers.{Room, judgement}
use Rattle.stretches.specs.Faults.{Whole, Few, Fit, Faulty, lengths, large}

module _ (R : Room) where
  abbrev others : Bool
  others = eqb (length R.deadlines) (size R.sets)

  abbrev pub fitting : Bool
  fitting = answers.fitting R.sets R.lengths (length R.deadlines) (length R.numbers) (length R.places)

  pub whole : fitting ≡ true → Whole R
  whole e =
      let c = both {a = one_length R.sets others && eqb (length R.numbers) (length R.lengths) && eqb (length R.places) (length R.lengths)} e in
      let b = both {a = one_length R.sets others && eqb (length R.numbers) (length R.lengths)} c.0 in
      let a = both {a = one_length R.sets others} b.0 in
      record {
        lists = one_length_lem R.sets others a.0;
        numbers = eqb-true _ _ a.1;
        places = eqb-true _ _ b.1;
        sum = eqb-true _ _ c.1;
      }

  whole_fits : Whole R → fitting ≡ true
  whole_fits w =
      rw (all_one_length R.sets others w.lists, eq-eqb _ _ w.numbers, eq-eqb _ _ w.places, eq-eqb _ _ w.sum)

  pub few_so : answers.few (length R.lengths) (size R.sets) ≡ true → Few R
  few_so e = let b = both e in record { sets = leb-true _ _ b.0; places = leb-true _ _ b.1 }

  pub judged : Exactly (judgement R) (Fit R) (Faulty R)
  unfolding judgement
  judged =
      exactly_so
      (exactly_or (exactly_test fitting Lengths whole whole_fits)
      (exactly_test (answers.few (length R.lengths) (size R.sets)) TooLarge few_so (λ f. rw (le-leb _ _ f.sets, le-leb _ _ f.places))))
      (λ h. record { whole = h.0; few = h.1 })
      (λ f. (f.whole, f.few))
      (λ r q. split q (λ h. rw h.0 (lengths h.1)) (λ h. rw h.1.0 (large h.0 h.1.1)))
      faulty
    where
      faulty : (r : Reason) → Faulty R r → ((r ≡ Lengths) × (Whole R → ⊥)) ⊎ (Whole R × ((r ≡ TooLarge) × (Few R → ⊥)))
      faulty _ (lengths n) = inl (refl, n)
      faulty _ (large w n) = inr (w, (refl, n))

  pub read_exactly : (judgement R ≡ Ok tt) ↔ Fit R
  read_exactly = passing judged

  pub refused_exactly : (r : Reason) → (judgement R ≡ Err r) ↔ Faulty R r
  refused_exactly = refusing judged

-- Lengths are taken off the number of places: what is left is what the lengths from the k-th on must make up.
pub record Taken (ns : List ℕ) (places left k : ℕ) : Type 0 where
  pub most : k ≤ length ns
  pub sum : left + total ns ≡ places + total (drop k ns)

module _ {ns : List ℕ} {places left k : ℕ} (T : Taken ns places left k) where
  pub taken_next : {n : ℕ} → k < length ns → n ≡ get_or ns k 0 → n ≤ left → Taken ns places (left - n) (k + 1)
  taken_next h e l = record { most = omega arith; sum = omega (arith, T.sum, total_left ns k h) }

  pub taken_short : {n : ℕ} → k < length ns → n ≡ get_or ns k 0 → left < n → false ≡ eqb (total ns) places
  taken_short h e l = sym (ne_eqb (total ns) places (λ q. omega (arith, T.sum, total_left ns k h)))

  pub taken_all : length ns ≤ k → eqb left 0 ≡ eqb (total ns) places
  taken_all h =
      let s : left + total ns ≡ places = omega (arith, T.sum, ap total (drop_of_length-le ns {i = k} h), weight-nil (λ n. n)) in
      test (eqb left 0)
      (λ e. rw (e, eq-eqb (total ns) places (omega (arith, eqb-true left 0 e))))
      (λ e. rw (e, ne_eqb (total ns) places (λ q. eqb_no left 0 e (omega arith))))
