-- The core that serves one tick at a time. Tick t lies between moments t and t + 1. All that the core reads is one record,
-- and nothing in it need come from a set: other releases, another order of service or fewer places are another record.
--
--   Load           == what a core reads: releases, what is owed, the order of service, and the places on it
--   start          == the core before the first tick
--   active L t v i == i can be served in tick t, if v has been served so far
--   pick L t v     == who is served
--   tick L t c     == the core c of moment t after the next tick
--   ticks L t c n  == the core c of moment t after n ticks
--   after L t      == the core at moment t, t ticks after the start
--   served L t i   == the ticks served to i by moment t
--   ended L t i    == the end of the last of them, 0 if there is none
--   turn L t       == who is served in tick t
use Rattle.std.specs.Prelude.{ℕ, zero, suc, ◌+◌, Bool, ◌&&◌, List, ltb, leb, get_or, set, replicate}
use Rattle.std.proofs.Math.Option.{Option, none, some}
use Rattle.lists.specs.Places.{filter}
use Rattle.lists.specs.Order.{choose}

pub record Load : Type 0 where
  pub release : ℕ → ℕ
  pub owed : ℕ → ℕ
  pub before : ℕ → ℕ → Bool
  pub on : List ℕ

-- Of each place the ticks served to it and the end of the last of them; the ticks so far in which something was served,
-- and the others.
pub record Core : Type 0 where
  pub served : List ℕ
  pub finish : List ℕ
  pub busy : ℕ
  pub idle : ℕ

-- At the start there are 128 served counters, all zero before the first tick.
unfoldable pub start : Core
start = record { served = replicate 128 0; finish = replicate 128 0; busy = 0; idle = 0 }

-- Tick t is served to p, or to nobody.
abbrev pub serve : ℕ → ℕ → Core → Core
serve t p c =
    record {
      served = set c.served p (suc (get_or c.served p 0));
      finish = set c.finish p (suc t);
      busy = suc c.busy;
      idle = c.idle;
    }

abbrev pub rest : Core → Core
rest c = record { served = c.served; finish = c.finish; busy = c.busy; idle = suc c.idle }

abbrev pub step : ℕ → Core → Option ℕ → Core
step t c none = rest c
step t c (some p) = serve t p c

module _ (L : Load) where
  -- released at or before that tick and still owed something
  abbrev pub active : ℕ → List ℕ → ℕ → Bool
  active t v i = leb (L.release i) t && ltb (get_or v i 0) (L.owed i)

  -- Among those the core serves the one that comes first.
  abbrev pub pick : ℕ → List ℕ → Option ℕ
  pick t v = choose L.before (filter (active t v) L.on)

  abbrev pub tick : ℕ → Core → Core
  tick t c = step t c (pick t c.served)

  unfoldable pub ticks : ℕ → Core → ℕ → Core
  ticks t c zero = c
  ticks t c (suc n) = tick (t + n) (ticks t c n)

  -- in each tick from 0 on
  unfoldable pub after : ℕ → Core
  unfolding ticks
  after t = ticks 0 start t

  abbrev pub served : ℕ → ℕ → ℕ
  served t i = get_or (after t).served i 0

  abbrev pub ended : ℕ → ℕ → ℕ
  ended t i = get_or (after t).finish i 0

  abbrev pub turn : ℕ → Option ℕ
  turn t = pick t (after t).served
