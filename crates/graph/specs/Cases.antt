-- A worked graph and some that are refused, in numbers.
--
--   worked     == four sub-jobs: the first before the second and the third, both before the fourth
--   Cases      == what `critical` says of it, and of graphs that are refused
use Rattle.std.specs.Prelude.{Ok, Err, [], ◌∷◌, ◌≡◌}
use Rattle.subjobs.specs.declared.Field.TheVariants.{Execution, Hop}
use Rattle.subjobs.specs.declared.Reason.TheVariants.{Range, Stray, Cycle}
use Rattle.graph.specs.Graphs.{Graph, graph}
use Rattle.graph.specs.Answers.{answer, results}

-- An arc stands twice, and between the first two places a second one has a smaller hop delay.
abbrev pub worked : Graph
worked =
    graph (3 ∷ 4 ∷ 5 ∷ 2 ∷ []) (0 ∷ 0 ∷ 1 ∷ 2 ∷ 2 ∷ 0 ∷ []) (1 ∷ 2 ∷ 3 ∷ 3 ∷ 3 ∷ 1 ∷ []) (10 ∷ 0 ∷ 1 ∷ 1 ∷ 1 ∷ 7 ∷ [])

pub record Cases : Type 0 where
  pub passes : answer worked 4 ≡ Ok tt
  -- 10 + 4 + 1 + 2 by the second, for 0 + 5 + 1 + 2 by the third
  pub times : results worked (99 ∷ 99 ∷ 99 ∷ 99 ∷ []) ≡ 17 ∷ 3 ∷ 3 ∷ 0 ∷ []
  -- a cycle that place 0 is not on
  pub back : answer (graph (1 ∷ 1 ∷ 1 ∷ []) (0 ∷ 1 ∷ 2 ∷ []) (1 ∷ 2 ∷ 1 ∷ []) (0 ∷ 0 ∷ 0 ∷ [])) 3 ≡ Err Cycle
  -- an arc from a place to itself
  pub itself : answer (graph (1 ∷ 1 ∷ []) (1 ∷ []) (1 ∷ []) (0 ∷ [])) 2 ≡ Err Cycle
  -- number 3 comes before 20: an execution, and a hop delay of a later arc
  pub range : answer (graph (1 ∷ 0 ∷ []) (0 ∷ []) (2 ∷ []) (0 ∷ [])) 2 ≡ Err (Range 1 Execution)
  pub delay : answer (graph (1 ∷ 1 ∷ []) (2 ∷ 0 ∷ []) (1 ∷ 1 ∷ []) (0 ∷ 100_001 ∷ [])) 2 ≡ Err (Range 1 Hop)
  pub stray : answer (graph (1 ∷ 1 ∷ []) (0 ∷ 2 ∷ []) (1 ∷ 1 ∷ []) (0 ∷ 0 ∷ [])) 2 ≡ Err (Stray 1)
