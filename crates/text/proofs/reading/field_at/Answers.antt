-- `field_at` meets its contract: in quotes, or bare.
use Rattle.std.proofs.lemmas.Grind.{common_steps}
use native.Mathlib.Omega.{arith}
use Rattle.text.specs.Reading.{field_at}
use Rattle.text.proofs.reading.field_at.Goals as goal

pub returns-then-eq : goal.returns-then-eq
unfolding field_at
returns-then-eq c = grind (arith, common_steps)

pub returns-else-eq : goal.returns-else-eq
unfolding field_at
returns-else-eq c = grind (arith, common_steps)
