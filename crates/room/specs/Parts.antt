-- What the parts of the program ask and tell. No public contract and no promise speaks of these words.
--
--   Within s a n out == n sub-jobs stand from place a on, in six lists and a result list of one length
--   Sets s ns out ks ps == the lists of a room that is read
--   AllAssigned s ns out .. == every set was asked for, and its stretch, number and place are written
use Rattle.std.specs.Prelude.{ℕ, ◌+◌, ◌≤◌, ◌≡◌, length}
use mathlib.Core.List.{List, flatten}
use Rattle.lists.specs.Places.{total}
use Rattle.subjobs.specs.Sets.{Subjobs, size}
use Rattle.stretches.specs.Stretches.{each}
use Rattle.stretches.specs.Answers.{answer_at, results_at, number, place}

pub record Within (s : Subjobs) (a n : ℕ) (out : List ℕ) : Type 0 where
  pub few : size s ≤ 4_096
  pub inside : a + n ≤ size s
  pub subtasks : length s.subtasks ≡ size s
  pub releases : length s.releases ≡ size s
  pub executions : length s.executions ≡ size s
  pub deadlines : length s.deadlines ≡ size s
  pub criticals : length s.criticals ≡ size s
  pub results : length out ≡ size s

pub record Sets (s : Subjobs) (ns out ks ps : List ℕ) : Type 0 where
  pub few : length ns ≤ 32
  pub lists : Within s 0 0 out
  pub sum : total ns ≡ size s
  pub numbers : length ks ≡ length ns
  pub places : length ps ≡ length ns

pub record AllAssigned (s : Subjobs) (ns out out' ks ps : List ℕ) : Type 0 where
  pub deadlines : out' ≡ flatten (each (results_at s out) 0 ns)
  pub numbers : ks ≡ each (λ a n. number (answer_at s a n)) 0 ns
  pub places : ps ≡ each (λ a n. place (answer_at s a n)) 0 ns
