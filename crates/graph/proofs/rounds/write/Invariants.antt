-- `rounds::write` meets its contract: what is written so far stands at the front.
use Rattle.std.proofs.Common.{◌≡◌, take}
use Rattle.graph.proofs.rounds.write.Given as goal

abbrev pub invariant-loop-place : goal.invariant-loop-place
invariant-loop-place l = take l.place l.out ≡ take l.place l.found
