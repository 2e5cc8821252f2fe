-- What is asked of a graph, place by place and with no search: what a graph is that is accepted, and what one is that is
-- refused. A law (`found_exactly`, `refused_exactly`) says that `critical`'s answer is just this.
--
--   OneLength g n      == executions and results, a list of length n, are of one length, and so are the arcs' lists
--   Few g              == at most 128 sub-jobs and 1,024 arcs
--   InRange g i        == the execution of place i is in its range
--   HopInRange g a     == so is the hop delay of an arc
--   Named g a          == both ends of an arc are sub-jobs
--   All P n            == P holds of each number below n
--   Sound g n          == the graph passes 1, 2, 3 and 20
--   Fit g n            == it passes 21 too
--   Faulty g n r       == it is refused for r
use Rattle.std.specs.Prelude.{ℕ, ◌<◌, ◌≤◌, ◌≡◌, length}
use Rattle.subjobs.specs.declared.Field.TheVariants.{Execution, Hop}
use Rattle.subjobs.specs.declared.Reason.{Reason}
use Rattle.subjobs.specs.declared.Reason.TheVariants as reasons
use Rattle.subjobs.specs.declared.Reason.TheVariants.{Lengths, TooMany, Range, Stray}
use Rattle.graph.specs.Graphs.{Graph, size, arcs, execution, before, after, hop, Cycle}

pub record OneLength (g : Graph) (n : ℕ) : Type 0 where
  pub results : n ≡ size g
  pub afters : length g.afters ≡ arcs g
  pub hops : length g.hops ≡ arcs g

pub record Few (g : Graph) : Type 0 where
  pub subjobs : size g ≤ 128
  pub arcs : arcs g ≤ 1_024

abbrev pub InRange : Graph → ℕ → Type 0
InRange g i = (1 ≤ execution g i) × (execution g i ≤ 1_000_000)

abbrev pub HopInRange : Graph → ℕ → Type 0
HopInRange g a = hop g a ≤ 100_000

abbrev pub Named : Graph → ℕ → Type 0
Named g a = (before g a < size g) × (after g a < size g)

abbrev pub All : (ℕ → Type 0) → ℕ → Type 0
All P n = (k : ℕ) → k < n → P k

pub record Sound (g : Graph) (n : ℕ) : Type 0 where
  pub lengths : OneLength g n
  pub few : Few g
  pub executions : All (InRange g) (size g)
  pub hops : All (HopInRange g) (arcs g)
  pub named : All (Named g) (arcs g)

pub record Fit (g : Graph) (n : ℕ) : Type 0 where
  pub sound : Sound g n
  pub acyclic : Cycle g → ⊥

pub data Faulty (g : Graph) (n : ℕ) : Reason → Type 0 where
  -- 1: executions and results, or the arcs' lists, differ in length
  lengths : (OneLength g n → ⊥) → Faulty g n Lengths
  -- 2, after 1: more than 128 sub-jobs or more than 1,024 arcs
  many : OneLength g n → (Few g → ⊥) → Faulty g n TooMany
  -- 3, after these: the first execution out of range
  range : (p : ℕ) → OneLength g n → Few g → p < size g → All (InRange g) p → (InRange g p → ⊥) → Faulty g n (Range p Execution)
  -- 3, after these: the first hop delay out of range, with its arc's index
  delay :
      (a : ℕ)
      → OneLength g n
      → Few g
      → All (InRange g) (size g)
      → a < arcs g
      → All (HopInRange g) a
      → (HopInRange g a → ⊥)
      → Faulty g n (Range a Hop)
  -- 20, after these: the first arc that names no sub-job
  stray :
      (a : ℕ)
      → OneLength g n
      → Few g
      → All (InRange g) (size g)
      → All (HopInRange g) (arcs g)
      → a < arcs g
      → All (Named g) a
      → (Named g a → ⊥)
      → Faulty g n (Stray a)
  -- 21, after all of these: some path comes back to its start
  cycle : Sound g n → Cycle g → Faulty g n reasons.Cycle
