-- What callers of the assignment need of its answer and its result list: a report is no refusal, the result list keeps
-- its length, and the place that a refusal reports is below 128.
use Rattle.std.specs.Prelude.{Ok, Err}
use Prim.Native.Nat.{ℕ, ◌<◌}
use mathlib.Core.Bool.{Bool}
use mathlib.Core.List.{List}
use mathlib.Core.Path.{◌≡◌, refl, sym, ap, ◌∙◌}
use native.Mathlib.Omega.{arith}
use borrow.Author.Tests.{eqb-true}
use lib.Dec.{eqb}
use lib.ListN.{length}
use Rattle.lists.specs.Places.{places}
use Rattle.lists.proofs.Members.{places_in}
use Rattle.subjobs.specs.declared.Reason.{Reason}
use Rattle.subjobs.specs.declared.Reason.TheVariants.{Late}
use Rattle.subjobs.specs.Judging.{Judgement}
use Rattle.subjobs.specs.Reasons.{place_of}
use Rattle.subjobs.specs.Sets.{Subjobs, size}
use Rattle.subjobs.specs.Terms.{terms, bound}
use Rattle.subjobs.specs.Judging.{judgement, if_passed}
use Rattle.subjobs.proofs.Fit.{Fit, fit}
use Rattle.subjobs.proofs.Reported.{judged_within}
use Rattle.rules.specs.Method.{Outcome, placed, stuck, method}
use Rattle.rules.proofs.Rules.{refused_in}
use Rattle.rules.proofs.Obeys.{method-placed, method-stuck}
use Rattle.olda.specs.Answers.{outcome, answer, written, results}

module _ (s : Subjobs) where
  module _ {others : Bool} (f : Fit s others) where
    -- The method gives as many deadlines as there are sub-jobs, or gets stuck at one of them.
    pub fit_length : (out : List ℕ) → length out ≡ size s → (w : Outcome) → method s ≡ w → length (written w out) ≡ length out
    fit_length out l (stuck p m) e = refl
    fit_length out l (placed ds) e = ((method-placed s f ds).0 e).0 ∙ sym l

    pub fit_inside : (p m : ℕ) → method s ≡ stuck p m → p < size s
    fit_inside p m e = places_in (size s) p (refused_in (terms s) (places (size s)) ((method-stuck s f p m).0 e))

  pub results-length : (out : List ℕ) → length (results s out) ≡ length out
  unfolding results
  results-length out = by_judgement (judgement s (eqb (length out) (size s))) refl
    where
      by_judgement :
          (j : Judgement)
          → judgement s (eqb (length out) (size s)) ≡ j
          → length (if_passed j (written (method s) out) (λ r. out)) ≡ length out
      by_judgement (Err r) e = refl
      by_judgement (Ok tt) e =
          let f = fit s (eqb (length out) (size s)) e in
          fit_length f out (eqb-true (length out) (size s) f.lengths.further) (method s) refl

  pub refused_within : (n : ℕ) (r : Reason) → answer s n ≡ Err r → place_of r < 128
  unfolding answer
  refused_within n r a = by_judgement (judgement s (eqb n (size s))) refl a
    where
      by_outcome :
          judgement s (eqb n (size s)) ≡ Ok tt → (w : Outcome) → method s ≡ w → outcome s w ≡ Err r → place_of r < 128
      by_outcome e (placed ds) q h = let z : ◌≡◌ {A = ℕ} 0 1 = cc in absurd (omega arith)
      by_outcome e (stuck p m) q h =
          let f = fit s (eqb n (size s)) e in
          let k : Late p m (bound (terms s) p) ≡ r = cc in
          rw (← k) (omega (arith, fit_inside f p m q, f.few))

      by_judgement :
          (j : Judgement)
          → judgement s (eqb n (size s)) ≡ j
          → if_passed j (outcome s (method s)) Err ≡ Err r
          → place_of r < 128
      by_judgement (Ok tt) e h = by_outcome e (method s) refl h
      by_judgement (Err q) e h = let g : q ≡ r = cc in judged_within s (eqb n (size s)) r (e ∙ ap Err g)
