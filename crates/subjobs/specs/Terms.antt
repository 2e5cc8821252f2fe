-- What the rules read of a sub-job, as functions of its place. The rules take this record and not the set: another
-- release, something else taken off the deadline or another order of equal bounds is another record.
--
--   Terms             == release, execution, deadline, what is withheld from it, and the order of the base sub-job
--   bound T i         == the upper bound of place i, signed: its deadline less what is withheld
--   slack T d i       == its upper bound minus its local deadline
--   by_slack T d i j   == the slack of i is below that of j
--   lower s i j       == the order of the base sub-job in a set: i stands behind j when one is taken
--   terms s           == what the rules read of a set
--   Behind s i j      == what `lower` tests, in full
use Rattle.std.specs.Prelude.{ℕ, ◌+◌, ◌<◌, Bool, true, ◌⊎◌, ◌≡◌, ℤ, pos, ◌-ℤ◌}
use Rattle.std.proofs.Math.IntN.{sub_ℕ}
use Rattle.std.specs.Int.Signed.{lt_z}
use Rattle.lists.specs.Order.{lex}
use Rattle.subjobs.specs.Sets as sets
use Rattle.subjobs.specs.Sets.{Subjobs, by_bound, by_pair}

pub record Terms : Type 0 where
  pub release : ℕ → ℕ
  pub execution : ℕ → ℕ
  pub deadline : ℕ → ℕ
  pub withheld : ℕ → ℕ
  pub lower : ℕ → ℕ → Bool

-- The upper bound is deadline minus critical time. It is signed and is not cut off at zero.
abbrev pub bound : Terms → ℕ → ℤ
bound T i = sub_ℕ (T.deadline i) (T.withheld i)

-- The slack is upper bound minus local deadline.
abbrev pub slack : Terms → (ℕ → ℕ) → ℕ → ℤ
slack T d i = bound T i -ℤ pos (d i)

abbrev pub by_slack : Terms → (ℕ → ℕ) → ℕ → ℕ → Bool
by_slack T d = by_bound T.deadline (λ i. T.withheld i + d i)

-- The base sub-job is the one with the greatest upper bound. Of several, take the one with the greatest job number, then
-- with the greatest subtask number.
abbrev pub lower : Subjobs → ℕ → ℕ → Bool
lower s = lex (by_bound (sets.deadline s) (sets.withheld s)) (by_pair (sets.job s) (sets.subtask s))

abbrev pub terms : Subjobs → Terms
terms s =
    record {
      release = sets.release s;
      execution = sets.execution s;
      deadline = sets.deadline s;
      withheld = sets.withheld s;
      lower = lower s;
    }

-- The same in full: its upper bound is below the other's; or they are equal, and its job is below; or these are equal too,
-- and its subtask is below. That `lower` tests just this is a theorem.
abbrev pub Behind : Subjobs → ℕ → ℕ → Type 0
Behind s i j =
    (lt_z (bound (terms s) i) (bound (terms s) j) ≡ true)
    ⊎ ((bound (terms s) i ≡ bound (terms s) j)
    × ((sets.job s i < sets.job s j) ⊎ ((sets.job s i ≡ sets.job s j) × (sets.subtask s i < sets.subtask s j))))
