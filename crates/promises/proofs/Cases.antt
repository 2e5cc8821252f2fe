-- The cases P1 to P12 hold, and so do the small sets turned round: every row computes.
use mathlib.Core.Path.{refl}
use Rattle.lists.specs.Places.{from, filter, weight, least, greatest}
use Rattle.lists.specs.Order.{ahead, choose}
use Rattle.lists.specs.Search.{some_from}
use Rattle.subjobs.specs.Judging.{refusal_from, judgement}
use Rattle.rules.specs.Method.{insert, arranged, best, base, steps, method}
use Rattle.olda.specs.Answers as olda
use Rattle.ticks.specs.Core.{start, ticks, after}
use Rattle.ticks.specs.Runs.{horizon, finish, end, busy_ticks, idle_ticks, run_of}
use Rattle.edf.specs.Answers as edf
use Rattle.checker.specs.Answers as checker
use Rattle.promises.specs.Cases.{Holds, table}
use Rattle.promises.specs.Reordering.{TurnedRound}

pub cases_hold : Holds table
unfolding from filter weight least greatest ahead choose some_from refusal_from judgement insert arranged best base steps method olda.report olda.answer olda.results start ticks after horizon finish end busy_ticks idle_ticks run_of edf.answer edf.finishes edf.totals checker.answer
cases_hold =
    ((refl, refl), ((refl, refl), ((refl, refl), ((refl, refl), ((refl, refl), ((refl, refl), ((refl, refl), ((refl, refl), ((refl, refl), ((refl, refl), ((refl, refl, refl), (refl, (refl, (refl, ((refl, refl), tt)))))))))))))))

pub turned_round : TurnedRound
unfolding from filter weight ahead choose some_from refusal_from judgement insert arranged best base steps method olda.report olda.answer olda.results
turned_round = ((refl, refl), ((refl, refl), ((refl, refl), ((refl, refl), ((refl, refl), ((refl, refl), tt))))))
