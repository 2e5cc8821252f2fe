-- `Work::settle` meets its contract: number 8 is what the two tests say, and otherwise all is read off the core.
use native.Mathlib.Omega.{arith}
use Rattle.edf.proofs.Settled.{busy_first, settled_refused, settled_ran}
use Rattle.edf.proofs.work.Work.settle.Goals as goal

pub overflow_sub-idle : goal.overflow_sub-idle
overflow_sub-idle c = omega (arith, c.end-end.ensures, busy_first c.args.self.now c.args.core.now c.requires.ran)

pub returns-then-above : goal.returns-then-above
returns-then-above c =
    settled_refused c.args.self.now c.args.core.now c.requires.ran c.args.totals _ c.end-end.ensures _
    (rw (c.above.ensures, c.above-2.ensures) at c.if-above.true)

pub returns : goal.returns
returns c =
    rw (c.from.ensures, c.from-2.ensures)
    (settled_ran c.args.self.now c.args.core.now c.requires.ran c.args.totals _ c.end-end.ensures _
    (rw (c.above.ensures, c.above-2.ensures) at c.if-above.false) _ c.write_finishes.ensures)
