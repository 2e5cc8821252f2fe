-- `tailing::completions` meets its contract: the first i tails have their completions.
use Rattle.std.proofs.Common.{◌≡◌, length}
use Rattle.olda.proofs.Adding.{Summed}
use Rattle.olda.proofs.tailing.completions.Given as goal

abbrev pub invariant-loop-i : goal.invariant-loop-i
invariant-loop-i l = Summed l.releases l.executions l.order l.ends l.i × (length l.ends ≡ length l.initial.ends)
