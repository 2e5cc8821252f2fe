-- The worked graph and those that are refused: every row computes.
use mathlib.Core.List.{flat_map}
use mathlib.Core.Path.{refl}
use Rattle.lists.specs.Places.{from, filter, weight, greatest}
use Rattle.lists.specs.Search.{some_from}
use Rattle.subjobs.specs.Judging.{refusal_from}
use Rattle.graph.specs.Answers.{paths, any_of, cyclic, judgement, answer, results}
use Rattle.graph.specs.Cases.{Cases}

pub cases : Cases
unfolding flat_map from filter weight greatest some_from refusal_from paths any_of cyclic judgement answer results
cases =
    record {
      passes = refl;
      times = refl;
      back = refl;
      itself = refl;
      range = refl;
      delay = refl;
      stray = refl;
    }
