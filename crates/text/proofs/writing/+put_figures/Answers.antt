-- `put_figures` meets its contract: the digits before the last are those of the tenth part.
use native.Mathlib.Omega.{arith}
use Rattle.text.proofs.Stored.{digit_none, digit_last, digit_more}
use Rattle.text.proofs.writing.+put_figures.Goals as goal

pub returns-then-places-eq0 : goal.returns-then-places-eq0
returns-then-places-eq0 t c = digit_none _ _ _ _ c.if-places-eq0.true

pub returns-then-x-lt10 : goal.returns-then-x-lt10
returns-then-x-lt10 t c = digit_last _ _ (omega arith) c.if-x-lt10.true c.put_byte.ensures

pub returns-else-x-lt10 : goal.returns-else-x-lt10
returns-else-x-lt10 t c = digit_more _ _ (omega arith) c.if-x-lt10.false c.put_figures-end.ensures c.put_byte-else-x-lt10.ensures
