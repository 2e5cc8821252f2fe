-- `guessing::guess` meets its contract: it makes the rooms, all zeros.
use Rattle.std.proofs.Common.{arith}
use Rattle.graph.proofs.Growing.{at_most_zeros}
use Rattle.graph.proofs.guessing.guess.Goals as goal

pub invariant_of-links : goal.invariant_of-links
invariant_of-links c = record { heads = at_most_zeros 128 _; falls = λ a. at_most_zeros 1_024 a a }

pub link-requires : goal.link-requires
link-requires c = (at_most_zeros 128 0, at_most_zeros 128 0)

pub invariant_of-queue : goal.invariant_of-queue
invariant_of-queue c = record { inside = omega arith; below = at_most_zeros 128 127 }
