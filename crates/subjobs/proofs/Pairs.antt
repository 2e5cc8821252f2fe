-- Pairs (job, subtask) go by the job first: an order, and where no pair stands twice it parts any two. The base sub-job and
-- the sub-job to serve are told apart by it.
use Prim.Native.Nat.{ℕ, ◌<◌}
use mathlib.Core.Path.{◌≡◌, sym}
use lib.Dec.{ltb}
use Rattle.lists.specs.Places.{places}
use Rattle.lists.specs.Order.{by}
use Rattle.lists.proofs.Cases.{test, tests}
use Rattle.lists.proofs.Members.{places_in}
use Rattle.lists.proofs.Choice.{Order, Total, by_order, lex_order, lex_neither}
use Rattle.subjobs.specs.Sets.{Subjobs, job, subtask, by_pair}
use Rattle.subjobs.specs.Faults.{NoneTwice}

-- Where no pair stands twice, places with the same pair are one.
pub pairs_one :
    (s : Subjobs) (n i j : ℕ) → NoneTwice s n → i < n → j < n → job s i ≡ job s j → subtask s i ≡ subtask s j → i ≡ j
pairs_one s n i j pairs hi hj same alike =
    test (ltb i j)
    (λ y. absurd (pairs i j (omega tests) hj same alike))
    (λ y. test (ltb j i) (λ w. absurd (pairs j i (omega tests) hi (sym same) (sym alike))) (λ w. omega tests))

pub pair_order : (job subtask : ℕ → ℕ) → Order (by_pair job subtask)
pair_order job subtask = lex_order (by job) (by subtask) (by_order job) (by_order subtask)

pub pair_total : (s : Subjobs) (n : ℕ) → NoneTwice s n → Total (by_pair (job s) (subtask s)) (places n)
pair_total s n pairs i j mi mj p q =
    let b = lex_neither (by (job s)) (by (subtask s)) (by_order (job s)) i j p q in
    let b0 = b.0 in
    let b1 = b.1 in
    let b2 = b.2 in
    let b3 = b.3 in
    pairs_one s n i j pairs (places_in n i mi) (places_in n j mj) (omega tests) (omega tests)
