-- `Work::write_finishes` meets its contract: when all are looked at, they are the whole list.
use mathlib.Core.Path.{sym, ◌∙◌}
use lib.Seq.{take_all}
use native.Mathlib.Omega.{arith}
use Rattle.lists.proofs.Mapped.{take-map}
use Rattle.edf.specs.Parts.{size_of}
use Rattle.edf.proofs.work.Work.write_finishes.Goals as goal

pub returns : goal.returns
returns c =
    sym (take_all _ _ (omega arith))
    ∙ take-map _ _ (size_of c.args.self.now) (omega arith) (λ i h. c.loop-place.invariant i (omega arith))
