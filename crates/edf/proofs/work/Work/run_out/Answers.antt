-- `Work::run_out` meets its contract: at each turn the program holds what the core of single ticks has at that moment.
use borrow.Author.Rules.{rules}
use mathlib.Core.Path.{refl}
use lib.ListN.{length-set}
use native.Mathlib.Omega.{arith}
use Rattle.ticks.proofs.Turns.{reached_start}
use Rattle.edf.proofs.Running.{owing, serves_on, waits_on, ends_here}
use Rattle.edf.proofs.work.Work.run_out.Goals as goal

pub loop-place-init : goal.loop-place-init
loop-place-init c =
    rw (c.requires.served, c.requires.finish, c.requires.busy) (search rules, search rules, reached_start _)

pub overflow_sub-owed : goal.overflow_sub-owed
overflow_sub-owed c =
    owing c.args.self.now c.loop-place.invariant.2 c.to_serve.ensures c.next_release-next.ensures.next _ _ c.in-Some-default.is-0
    c.owed.ensures

pub overflow_add-core-in-Some-default : goal.overflow_add-core-in-Some-default
overflow_add-core-in-Some-default c =
    omega (
      arith,
      (serves_on c.args.self.now c.loop-place.invariant.2 c.to_serve.ensures c.next_release-next.ensures.next _ _ _
          c.in-Some-default.is-0 c.owed.ensures c.stretch-ticks.ensures).busy,
    )

pub overflow_add-t : goal.overflow_add-t
overflow_add-t c =
    omega (
      arith,
      (serves_on c.args.self.now c.loop-place.invariant.2 c.to_serve.ensures c.next_release-next.ensures.next _ _ _
          c.in-Some-default.is-0 c.owed.ensures c.stretch-ticks.ensures).moment,
    )

pub loop-place-smaller-in-Some-default : goal.loop-place-smaller-in-Some-default
loop-place-smaller-in-Some-default c =
    (serves_on c.args.self.now c.loop-place.invariant.2 c.to_serve.ensures c.next_release-next.ensures.next _ _ _
    c.in-Some-default.is-0 c.owed.ensures c.stretch-ticks.ensures).fewer

pub loop-place-preserved-in-Some-default : goal.loop-place-preserved-in-Some-default
loop-place-preserved-in-Some-default c = (
  simp length-set (search rules),
  simp length-set (search rules),
  (serves_on c.args.self.now c.loop-place.invariant.2 c.to_serve.ensures c.next_release-next.ensures.next _ _ _
      c.in-Some-default.is-0 c.owed.ensures c.stretch-ticks.ensures).holds,
)

pub loop-place-smaller : goal.loop-place-smaller
loop-place-smaller c =
    (waits_on c.args.self.now c.loop-place.invariant.2 c.to_serve.ensures c.next_release-next.ensures.next _ c.in-None-Some.is-0
    c.in-None-Some.is-1).1

pub loop-place-preserved : goal.loop-place-preserved
loop-place-preserved c = (
  search rules,
  search rules,
  (waits_on c.args.self.now c.loop-place.invariant.2 c.to_serve.ensures c.next_release-next.ensures.next _ c.in-None-Some.is-0
      c.in-None-Some.is-1).0,
)

pub returns-in-None-None : goal.returns-in-None-None
returns-in-None-None c =
    ends_here c.args.self.now c.loop-place.invariant.2 c.to_serve.ensures c.next_release-next.ensures.next c.in-None-None.is-0
    c.in-None-None.is-1 _ refl refl
