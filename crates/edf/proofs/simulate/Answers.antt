-- `simulate` meets its contract: a refusal is what the judgement says, and otherwise the run is read off the core.
use Rattle.std.proofs.Common.{sym, refl}
use Rattle.subjobs.specs.Sets.{subjobs_of}
use Rattle.edf.proofs.Settled.{further, simulated_refused, simulated_ran}
use Rattle.edf.proofs.simulate.Goals as goal

pub invariant_of-work : goal.invariant_of-work
invariant_of-work c =
    let h = further (subjobs_of c.args.set.now) c.args.local.now c.args.asks.now _ (c.in-Ok.ensures.further refl) in
    record { each_local = rw c.in-Ok.ensures.same h.0; each_ask = rw c.in-Ok.ensures.same h.1 }

pub settle-requires-clause-room : goal.settle-requires-clause-room
settle-requires-clause-room c =
    let h = further (subjobs_of c.args.set.now) c.args.local.now c.args.asks.now _ (c.in-Ok.ensures.further refl) in
    rw c.in-Ok.ensures.same h.2

pub returns-in-Err : goal.returns-in-Err
returns-in-Err c = simulated_refused _ _ _ _ _ _ (sym c.in-Err.ensures.judges)

pub returns-in-Ok : goal.returns-in-Ok
returns-in-Ok c =
    let same = c.in-Ok.ensures.same in
    simulated_ran (subjobs_of c.args.set.now) _ _ _ _ (sym c.in-Ok.ensures.judges) _ _
    (rw same at c.settle.ensures.gives) (rw same at c.settle.ensures.writes)
