-- Numbers 1 to 4 in RULES' numbers: a judgement refuses with just these values, and only such.
use Rattle.std.specs.Prelude.{Err}
use mathlib.Core.Bool.{Bool}
use mathlib.Core.List.{List}
use mathlib.Core.Logic.{◌⊎◌, inl, inr}
use mathlib.Core.Path.{◌≡◌, refl}
use native.Mathlib.Omega.{arith}
use lib.IntN.{ℤ}
use Rattle.lists.proofs.Cases.{split}
use Rattle.subjobs.specs.declared.Reason.{Reason}
use Rattle.subjobs.specs.Reasons.{number_of, values}
use Rattle.subjobs.specs.Sets.{Subjobs}
use Rattle.subjobs.specs.Judging.{judgement}
use Rattle.subjobs.specs.Faults as subjobs
use Rattle.subjobs.specs.Faults.{Fit, Faulty}
use Rattle.subjobs.proofs.Fit.{judged, judged_exactly}
use Rattle.subjobs.proofs.Reported.{number_range}
use Rattle.promises.specs.Words.{accepted, Faults, lengths, many, range, pair}

module _ (s : Subjobs) (others : Bool) where
  -- What is faulty carries RULES' values ..
  pub faults : {r : Reason} → Faulty s others r → Faults s others (values r)
  faults (subjobs.lengths n) = lengths (subjobs.lengths n)
  faults (subjobs.many l m) = many (subjobs.many l m)
  faults (subjobs.range p f l m h a b n) = range (subjobs.range p f l m h a b n)
  faults (subjobs.pair p j l m a h b k e) = pair (subjobs.pair p j l m a h b k e)

  -- .. and values that RULES has are a refusal's.
  pub faulted : {v : List ℤ} → Faults s others v → (r : Reason) × (judgement s others ≡ Err r) × (v ≡ values r) × Faulty s others r
  faulted (lengths f) = (_, (judged_exactly s others _).1 f, refl, f)
  faulted (many f) = (_, (judged_exactly s others _).1 f, refl, f)
  faulted (range f) = (_, (judged_exactly s others _).1 f, refl, f)
  faulted (pair f) = (_, (judged_exactly s others _).1 f, refl, f)

  -- A judgement refuses with values of RULES, or the set fits.
  pub judged_cases : ((r : Reason) × (judgement s others ≡ Err r) × Faults s others (values r)) ⊎ Fit s others
  judged_cases =
      split (judged s others).holds (λ f. inr f) (λ q. inl (q.0, (judged s others).refuses q.0 q.1, faults q.1))

-- No reason's number is 0.
pub refused_number : (r : Reason) → accepted (values r) → ⊥
refused_number r a = let n = number_range r in let z : number_of r ≡ 0 = cc in omega (arith, n.0)
