-- `judging::in_range` meets its contract: the first number outside is refused.
use Rattle.std.proofs.Common.{◌&&◌, leb, refl, sym}
use Rattle.subjobs.specs.declared.Reason.TheVariants.{Range}
use Rattle.graph.proofs.Judged.{position_refused, position_passed}
use Rattle.graph.proofs.judging.in_range.Goals as goal

pub returns-in-Some : goal.returns-in-Some
returns-in-Some c =
    let a = c.args in
    sym (position_refused (λ x. leb a.low x && leb x a.high) a.numbers.now 0 _ (λ i. Range i a.field) (λ i h. refl) c.in-Some.place c.in-Some.ensures)

pub returns-in-None : goal.returns-in-None
returns-in-None c =
    let a = c.args in
    sym (position_passed (λ x. leb a.low x && leb x a.high) a.numbers.now 0 _ (λ i. Range i a.field) (λ i h. refl) c.in-None.ensures)
