-- The order of service: it is one, a smaller deadline comes before a greater, and it parts any two whose pairs differ.
use Prim.Native.Nat.{ℕ, ◌<◌}
use mathlib.Core.Bool.{true}
use mathlib.Core.Path.{◌≡◌}
use borrow.Author.Tests.{lt-ltb}
use Rattle.lists.specs.Places.{places}
use Rattle.lists.specs.Order.{by}
use Rattle.lists.proofs.Choice.{Order, Total, by_order, lex_order, lex_total, yes_lex}
use Rattle.subjobs.specs.Sets.{Subjobs, size, job, subtask, by_pair}
use Rattle.subjobs.specs.Faults.{NoneTwice}
use Rattle.subjobs.proofs.Pairs.{pair_order, pair_total}
use Rattle.ticks.specs.Runs.{sooner}

module _ (d job subtask : ℕ → ℕ) where
  pub sooner_order : Order (sooner d job subtask)
  sooner_order = lex_order (by d) (by_pair job subtask) (by_order d) (pair_order job subtask)

  pub sooner_by : (i j : ℕ) → d i < d j → sooner d job subtask i j ≡ true
  sooner_by i j h = yes_lex (by d) (by_pair job subtask) i j (lt-ltb (d i) (d j) h)

pub sooner_total :
    (d : ℕ → ℕ) (s : Subjobs) → NoneTwice s (size s) → Total (sooner d (job s) (subtask s)) (places (size s))
sooner_total d s pairs =
    lex_total (by d) (by_pair (job s) (subtask s)) (by_order d) (places (size s)) (pair_total s (size s) pairs)
