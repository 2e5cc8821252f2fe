-- What `critical` gives, from what its parts told: values that are attained and settled are the critical times, and a cycle
-- is number 21.
use Rattle.std.specs.Prelude.{Ok, Err}
use Prim.Native.Nat.{ℕ, ◌<◌, ◌≤◌}
use mathlib.Core.List.{List, map}
use mathlib.Core.Path.{◌≡◌, refl, sym, ap, ◌∙◌}
use native.Mathlib.Omega.{arith}
use lib.ListN.{length, take, length-map}
use Rattle.lists.specs.Places.{places, weight}
use Rattle.lists.proofs.Members.{from-length}
use Rattle.lists.proofs.Mapped.{take-map}
use Rattle.subjobs.specs.Judging.{Judgement}
use Rattle.subjobs.specs.declared.Reason.{Reason}
use Rattle.subjobs.specs.declared.Reason.TheVariants as reasons
use Rattle.graph.specs.Graphs.{Graph, size, cost, Path, Cycle}
use Rattle.graph.specs.Answers.{critical, judgement, answer, results, Finds}
use Rattle.graph.specs.Faults.{Sound}
use Rattle.graph.specs.Faults as faults
use Rattle.graph.specs.Parts.{Attained, Settled, Small}
use Rattle.graph.proofs.Paths.{path_most}
use Rattle.graph.proofs.Raising.{settled_acyclic, settled_heaviest}
use Rattle.graph.proofs.Listed.{path_short, critical_heaviest, heaviest_one}
use Rattle.graph.proofs.Judged.{sound, found_exactly, refused_exactly}

module _ (g : Graph) where
  -- Where no path comes back, no path weighs more than 127 arcs of 1,100,000.
  pub light : {n : ℕ} → Sound g n → (Cycle g → ⊥) → (i : ℕ) (p : List ℕ) → i < size g → Path g i p → weight (cost g) p ≤ 139_700_000
  light s none i p b h = omega (arith, path_most g s i p h, path_short g s none i p b h, s.few.subjobs)

  module _ (out : List ℕ) where
    pub given : {a : Judgement} → answer g (length out) ≡ a → (a ≡ Ok tt → results g out ≡ map (critical g) (places (size g)))
    unfolding results
    given e p = rw (e ∙ p)

    pub refused : (r : Reason) → answer g (length out) ≡ Err r → Finds g out (Err r) out
    unfolding results
    refused r e = (sym e, rw e)

    pub refused_first : (r : Reason) → judgement g (length out) ≡ Err r → Finds g out (Err r) out
    unfolding answer
    refused_first r e = refused r (rw e)

    module _ (passed : judgement g (length out) ≡ Ok tt) where
      pub refused_cycle : Cycle g → Finds g out (Err reasons.Cycle) out
      refused_cycle c = refused reasons.Cycle ((refused_exactly g (length out) reasons.Cycle).1 (faults.cycle (sound g (length out) passed) c))

      module _ (d : List ℕ) (A : Attained g d) (S : Settled g d) where
        s : Sound g (length out)
        s = sound g (length out) passed

        none : Cycle g → ⊥
        none = settled_acyclic g d S s

        pub small : size g ≤ length d → Small d (length out)
        small room =
            let e = s.lengths.results in
            record {
              room = omega arith;
              small = λ i h. let b : i < size g = omega arith in let w = A i b in omega (arith, light s none i w.0 b w.1, w.2);
            }

        pub found : size g ≤ length d → Finds g out (Ok tt) (take (length out) d)
        found room =
            let e : answer g (length out) ≡ Ok tt = (found_exactly g (length out)).1 (record { sound = s; acyclic = none }) in
            let z = s.lengths.results in (
              sym e,
              rw z
                  (take-map (critical g) d (size g) room (λ i h. heaviest_one g i _ _ (settled_heaviest g d S A i h) (critical_heaviest g s none i h)))
                  ∙ sym (given e refl),
            )

    -- The result list keeps its length.
    pub results-length : length (results g out) ≡ length out
    results-length = by (answer g (length out)) refl
      where
        by : (a : Judgement) → answer g (length out) ≡ a → length (results g out) ≡ length out
        by (Ok tt) e =
            ap length (given e refl)
            ∙ length-map (places (size g)) (critical g)
            ∙ from-length 0 (size g)
            ∙ sym ((found_exactly g (length out)).0 e).sound.lengths.results
        by (Err r) e = ap length (sym (refused r e).1)
