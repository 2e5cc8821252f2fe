-- The rules do not ask in which order a set's list stands: the base sub-job is told from others by what it is. So the method
-- gives a rearranged set the rearranged deadlines, or stops at the same sub-job with the same completion.
use Prim.Native.Nat.{ℕ}
use mathlib.Core.Bool.{Bool}
use mathlib.Core.List.{List}
use mathlib.Core.Path.{◌≡◌, sym, ◌∙◌}
use lib.ListN.{get_or}
use Rattle.lists.specs.Places.{places, Rearranges, taken}
use Rattle.lists.proofs.Taken.{standing, taken-length}
use Rattle.subjobs.specs.Sets.{Subjobs, size, rearranged}
use Rattle.subjobs.specs.Terms.{terms}
use Rattle.subjobs.specs.Faults.{Fit}
use Rattle.subjobs.proofs.Rearranging.{Alike, alike_back, rearranged-size, rearranged_alike, rearranged_fit, taken_back}
use Rattle.rules.specs.Method.{placed, stuck, method}
use Rattle.rules.proofs.Renaming.{Renamed, renamed_accepts, renamed_refuses}
use Rattle.rules.proofs.Obeys.{method-placed, method-stuck}

pub alike_renamed :
    {π ρ : ℕ → ℕ} {s' s : Subjobs} → Alike π ρ s' s → Renamed π ρ (terms s') (terms s) (places (size s')) (places (size s))
alike_renamed e =
    record {
      moved = e.moved;
      back = e.back;
      release = e.release;
      execution = e.execution;
      deadline = e.deadline;
      withheld = e.critical;
      lower = λ i j m k.
          rw (
            e.deadline i m,
            e.deadline j k,
            e.critical i m,
            e.critical j k,
            e.job i m,
            e.job j k,
            e.subtask i m,
            e.subtask j k,
          );
    }

module _ (ps : List ℕ) (s : Subjobs) (r : Rearranges ps (size s)) {others : Bool} (f : Fit s others) where
  fit' : Fit (rearranged ps s) others
  fit' = rearranged_fit ps s r f

  -- ρ renames the set's places to the new ones.
  there : Renamed (standing ps) (λ i. get_or ps i 0) (terms s) (terms (rearranged ps s)) (places (size s)) (places (size (rearranged ps s)))
  there = alike_renamed (alike_back (rearranged_alike ps s r))

  pub method_moved : (ds : List ℕ) → method s ≡ placed ds → method (rearranged ps s) ≡ placed (taken ps ds)
  method_moved ds q =
      (method-placed (rearranged ps s) fit' (taken ps ds)).1 (
        taken-length ps (size s) r ds ∙ sym (rearranged-size ps s r),
        renamed_accepts there (λ i. get_or ds i 0) (λ i. get_or (taken ps ds) i 0) (taken_back ps s r ds) ((method-placed s f ds).0 q).1,
      )

  pub method_stays : (p m : ℕ) → method s ≡ stuck p m → method (rearranged ps s) ≡ stuck (standing ps p) m
  method_stays p m q =
      (method-stuck (rearranged ps s) fit' (standing ps p) m).1 (renamed_refuses there ((method-stuck s f p m).0 q))
