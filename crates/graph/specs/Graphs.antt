-- A job's graph: the executions of its sub-jobs, one place each, and arcs "this before that" by place, each with a hop delay;
-- and its paths.
--
--   graph_of g         == the graph of four lent lists
--   size g, arcs g     == how many sub-jobs and how many arcs it has
--   execution g i      == the execution of the sub-job at place i
--   before g a, after g a, hop g a == where the arc with index a starts, where it leads, and its hop delay
--   cost g a           == what the arc adds to a path: its hop delay and the execution of the sub-job it leads to
--   Path g i p         == the list p of arcs is a path from place i
--   end g i p          == where it ends
--   Cycle g            == some path comes back to its start
--   Heaviest g i w     == some path from place i weighs w, and none weighs more
use Rattle.std.specs.Prelude.{ℕ, ◌+◌, ◌<◌, ◌≤◌, List, [], ◌∷◌, ◌≢◌, ◌≡◌, length, get_or}
use Rattle.lists.specs.Places.{weight}
use Rattle.graph.specs.declared.lent.Graph as lent

-- Execution times in one lent list, arcs in three: before, after, hop delay.
pub record Graph : Type 0 where
  pub executions : List ℕ
  pub befores : List ℕ
  pub afters : List ℕ
  pub hops : List ℕ

abbrev pub graph : List ℕ → List ℕ → List ℕ → List ℕ → Graph
graph cs from to hs = record { executions = cs; befores = from; afters = to; hops = hs }

-- One that is lent.
abbrev pub graph_of : lent.Graph → Graph
graph_of g = graph g.executions.now g.befores.now g.afters.now g.hops.now

abbrev pub size : Graph → ℕ
size g = length g.executions

abbrev pub arcs : Graph → ℕ
arcs g = length g.befores

abbrev pub execution : Graph → ℕ → ℕ
execution g i = get_or g.executions i 0

abbrev pub before : Graph → ℕ → ℕ
before g a = get_or g.befores a 0

abbrev pub after : Graph → ℕ → ℕ
after g a = get_or g.afters a 0

abbrev pub hop : Graph → ℕ → ℕ
hop g a = get_or g.hops a 0

-- The sum of executions along a path, the first sub-job's not counted, each arc's hop delay counted, the first arc's too:
-- that is `weight (cost g) p`.
abbrev pub cost : Graph → ℕ → ℕ
cost g a = hop g a + execution g (after g a)

-- A path is any list of arcs that chain: each starts where the one before it leads.
abbrev pub Path : Graph → ℕ → List ℕ → Type 0
Path g i [] = Unit {0}
Path g i (a ∷ p) = (a < arcs g) × (before g a ≡ i) × Path g (after g a) p

abbrev pub end : Graph → ℕ → List ℕ → ℕ
end g i [] = i
end g i (a ∷ p) = end g (after g a) p

-- An arc from a place to itself is one.
abbrev pub Cycle : Graph → Type 0
Cycle g = (i : ℕ) × (p : List ℕ) × (p ≢ []) × Path g i p × (end g i p ≡ i)

-- The greatest sum along any path of its successors.
abbrev pub Heaviest : Graph → ℕ → ℕ → Type 0
Heaviest g i w = ((p : List ℕ) × Path g i p × (weight (cost g) p ≡ w)) × ((p : List ℕ) → Path g i p → weight (cost g) p ≤ w)
