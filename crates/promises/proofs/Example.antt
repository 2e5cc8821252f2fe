-- The worked example holds: it computes.
use mathlib.Core.Path.{refl}
use Rattle.lists.specs.Places.{from, filter, weight, least, greatest}
use Rattle.lists.specs.Order.{ahead, choose}
use Rattle.lists.specs.Search.{some_from}
use Rattle.subjobs.specs.Judging.{refusal_from, judgement}
use Rattle.rules.specs.Method.{insert, arranged, best, base, steps, method}
use Rattle.olda.specs.Answers as olda
use Rattle.ticks.specs.Core.{ticks}
use Rattle.ticks.specs.Runs.{run_of}
use Rattle.text.specs.Reading.{digits, number, field_at, cell_at, line_end, record_at, starts, after_line}
use Rattle.text.specs.Writing.{figures}
use Rattle.table.specs.Reading.{records_from, read}
use Rattle.table.specs.Writing.{line_of, refusal}
use Rattle.table.specs.Answers.{joined, accepted, tabled, answer}
use Rattle.promises.specs.Example.{WorkedExample}

pub worked_example : WorkedExample
unfolding from filter weight least greatest ahead choose some_from refusal_from judgement insert arranged best base steps method olda.report olda.answer olda.results ticks run_of digits number field_at cell_at line_end record_at records_from starts after_line read figures line_of refusal joined accepted tabled answer
worked_example = (refl, refl)
