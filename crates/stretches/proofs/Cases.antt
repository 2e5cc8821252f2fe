-- The worked room and those at the edge: every row computes.
use mathlib.Core.List.{flatten}
use mathlib.Core.Path.{refl}
use Rattle.lists.specs.Places.{from, filter, weight, least, greatest}
use Rattle.lists.specs.Order.{ahead, choose}
use Rattle.lists.specs.Search.{some_from}
use Rattle.subjobs.specs.Judging as judging
use Rattle.subjobs.specs.Judging.{refusal_from}
use Rattle.rules.specs.Method.{insert, arranged, best, base, steps, method}
use Rattle.olda.specs.Answers.{report, answer, results}
use Rattle.stretches.specs.Stretches.{each}
use Rattle.stretches.specs.Answers.{judgement, deadlines_after, numbers_after, places_after}
use Rattle.stretches.specs.Cases.{Cases}

pub cases : Cases
unfolding flatten from filter weight least greatest ahead choose some_from refusal_from judging.judgement insert arranged best base steps method report answer results each judgement deadlines_after numbers_after places_after
cases =
    record {
      reads = refl;
      numbers = refl;
      places = refl;
      deadlines = refl;
      wraps = refl;
      thirty_two = refl;
      thirty_three = refl;
      neither = refl;
      too_many = refl;
      stays = refl;
    }
