-- `fitting::copy` meets its contract: what is written so far stands at the front.
use Rattle.std.proofs.Common.{◌≡◌, take}
use Rattle.olda.proofs.fitting.copy.Given as goal

abbrev pub invariant-loop-place : goal.invariant-loop-place
invariant-loop-place l = take l.place l.to ≡ take l.place l.from
