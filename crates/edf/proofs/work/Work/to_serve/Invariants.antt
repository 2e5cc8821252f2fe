-- `Work::to_serve` meets its contract: at each turn what was found and what is left to look at decide the whole choice.
use Rattle.ticks.specs.Core.{active}
use Rattle.edf.specs.Parts.{load_of, size_of}
use Rattle.edf.proofs.Looking.{Looking}
use Rattle.edf.proofs.work.Work.to_serve.Given as goal

abbrev pub invariant-loop-place : goal.invariant-loop-place
invariant-loop-place l =
    let L = load_of l.self in
    Looking L.before (active L l.t l.served) (size_of l.self) l.best l.place
