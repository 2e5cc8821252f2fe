-- The place that the checker's refusal reports is below 128.
use Rattle.std.specs.Prelude.{Err}
use Prim.Native.Nat.{ℕ, ◌<◌}
use mathlib.Core.List.{List}
use mathlib.Core.Path.{◌≡◌, ap}
use native.Mathlib.Omega.{arith}
use Rattle.lists.proofs.Cases.{split}
use Rattle.subjobs.specs.declared.Reason.{Reason}
use Rattle.subjobs.specs.Reasons.{place_of}
use Rattle.subjobs.specs.Sets.{Subjobs}
use Rattle.subjobs.proofs.Exactly.{refusing}
use Rattle.subjobs.proofs.Fit.{judged_exactly}
use Rattle.subjobs.proofs.Reported.{judged_within}
use Rattle.checker.specs.Answers.{answer}
use Rattle.checker.proofs.Accepts.{checked}

pub refused_within : (s : Subjobs) (ds : List ℕ) (r : Reason) → answer s ds ≡ Err r → place_of r < 128
unfolding answer
refused_within s ds r a =
    split ((refusing (checked s ds) r).0 a)
    (λ f. judged_within s _ r ((judged_exactly s _ r).1 f))
    (λ w.
    let few = w.0.few in
    split w.1
    (λ u. omega (arith, u.1, ap place_of u.3.0))
    (λ u. omega (arith, u.1.1, ap place_of u.1.3.0)))
