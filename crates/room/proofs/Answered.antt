-- A room's ways out: refused, with every list as found, or read and assigned set by set.
use Rattle.std.specs.Prelude.{Ok, Err}
use Prim.Native.Nat.{ℕ}
use mathlib.Core.Bool.{true, false}
use mathlib.Core.List.{List}
use mathlib.Core.Path.{◌≡◌, sym}
use native.Mathlib.Omega.{arith}
use borrow.Author.Tests.{eqb-true}
use lib.ListN.{length}
use Rattle.subjobs.specs.declared.Reason.{Reason}
use Rattle.subjobs.specs.declared.Reason.TheVariants.{Lengths, TooLarge}
use Rattle.subjobs.specs.Sets.{size}
use Rattle.stretches.specs.Answers.{Room, few, judgement, deadlines_after, numbers_after, places_after, Assigns}
use Rattle.room.specs.Parts.{Sets, AllAssigned}
use Rattle.stretches.proofs.Judged.{fitting, whole, few_so}

module _ (R : Room) where
  refused : (r : Reason) → judgement R ≡ Err r → Assigns R (Err r) R.deadlines R.numbers R.places
  unfolding deadlines_after numbers_after places_after
  refused r e = record { answer = sym e; deadlines = rw e; numbers = rw e; places = rw e }

  pub unfit : fitting R ≡ false → Assigns R (Err Lengths) R.deadlines R.numbers R.places
  unfolding judgement
  unfit e = refused Lengths (rw e)

  module _ (e : fitting R ≡ true) where
    pub too_large : few (length R.lengths) (size R.sets) ≡ false → Assigns R (Err TooLarge) R.deadlines R.numbers R.places
    unfolding judgement
    too_large f = refused TooLarge (rw (e, f))

    module _ (f : few (length R.lengths) (size R.sets) ≡ true) where
      pub all_sets : Sets R.sets R.lengths R.deadlines R.numbers R.places
      all_sets =
          let w = whole R e in
          let l = w.lists in
          record {
            few = (few_so R f).sets;
            lists =
                record {
                  few = (few_so R f).places;
                  inside = omega arith;
                  subtasks = l.subtasks;
                  releases = l.releases;
                  executions = l.executions;
                  deadlines = l.deadlines;
                  criticals = l.criticals;
                  results = eqb-true _ _ l.further;
                };
            sum = w.sum;
            numbers = w.numbers;
            places = w.places;
          }

      pub all_assigned :
          {out ks ps : List ℕ} → AllAssigned R.sets R.lengths R.deadlines out ks ps → Assigns R (Ok tt) out ks ps
      unfolding judgement deadlines_after numbers_after places_after
      all_assigned a =
          record { answer = rw (e, f); deadlines = rw (e, f) a.deadlines; numbers = rw (e, f) a.numbers; places = rw (e, f) a.places }
