-- What leaves a function by a `?`.
use Rattle.std.specs.Prelude.{Result, Err, ◌≡◌}
use Rattle.std.specs.Result.{IsErrAnd}
use Rattle.std.proofs.lemmas.Result.{err_from_is_err_and}

-- It is the error that came.
pub leaves : {T E : Type 0} (r : Result T E) (e : E) → IsErrAnd r (λ d. d ≡ e) → r ≡ Err e
leaves r e h = let p = err_from_is_err_and r h in rw (p.1, p.2)
