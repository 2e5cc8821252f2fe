-- `leading_digits` meets its contract: at each turn what is left decides the whole run.
use Prim.Native.Nat.{◌+◌, ◌<◌, ◌^◌}
use mathlib.Core.Path.{◌≡◌}
use lib.ListN.{take, drop}
use Rattle.std.specs.List.{prefix_len}
use Rattle.std.specs.Char.{is_ascii_digit}
use Rattle.text.specs.Format.{value_from}
use Rattle.text.proofs.Scanning.{run}
use Rattle.text.proofs.reading.leading_digits.Given as goal

abbrev pub invariant-loop-count : goal.invariant-loop-count
invariant-loop-count l =
    (l.value < 10 ^ l.count)
    × (l.count + prefix_len is_ascii_digit (drop l.count (take 11 l.text)) ≡ prefix_len is_ascii_digit (take 11 l.text))
    × (value_from l.value (run (drop l.count (take 11 l.text))) ≡ value_from 0 (run (take 11 l.text)))
