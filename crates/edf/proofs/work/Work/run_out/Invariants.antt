-- `Work::run_out` meets its contract: at each turn the program holds what the core of single ticks has at that moment.
use mathlib.Core.Path.{◌≡◌}
use lib.ListN.{length}
use Rattle.ticks.proofs.Turns.{Reached, events_left}
use Rattle.edf.specs.Parts.{load_of}
use Rattle.edf.proofs.work.Work.run_out.Given as goal

abbrev pub invariant-loop-place : goal.invariant-loop-place
invariant-loop-place l =
    (length l.core.served ≡ 128) × (length l.core.finish ≡ 128) × Reached (load_of l.self) l.core.served l.core.finish l.core.busy l.t

abbrev pub decreases-loop-place : goal.decreases-loop-place
decreases-loop-place l = events_left (load_of l.self) l.t l.core.served
