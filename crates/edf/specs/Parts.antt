-- What the parts of the program say of the work that they are lent and of a run that was served out. No public contract and
-- no promise speaks of these words.
--
--   load_of w            == what the core reads of the work w
--   size_of w            == its places
--   chosen n p           == the place p of n, nobody if p is n
--   released r           == the moment r, none if r is 0
--   finish_in L fs i     == the finish of place i, if the last ticks served end at fs
--   end_in L fs          == the end of such a run
--   AtStart e            == e is a core that has served nothing
--   RanOut w e           == e is what the core has when all is served
--   settled r t          == the answer to a run and the record of totals after it
--   written r t old      == the list of finishes after it
--   Settles ..           == the answer and the list of finishes after the run of w
use Rattle.std.specs.Prelude.{Ok, Err, ℕ, cond, List, ◌≡◌, ltb, eqb, get_or, replicate, Option, Some, None}
use Rattle.lists.specs.Places.{filter, greatest}
use Rattle.subjobs.specs.declared.Reason.TheVariants as reason
use Rattle.subjobs.specs.Sets.{subjobs_of, size}
use Rattle.ticks.specs.Core.{Load, after}
use Rattle.ticks.specs.Runs.{Run, horizon, load, run_of}
use Rattle.edf.specs.declared.Totals.{Totals}
use Rattle.edf.specs.declared.Simulated.{Simulated}
use Rattle.edf.specs.declared.runs.Core.{Core}
use Rattle.edf.specs.declared.work.Work.{Work}
use Rattle.edf.specs.Answers.{added, above, if_ran}

abbrev pub load_of : Work → Load
load_of w = load (subjobs_of w.fit.set) w.local.now w.asks.now

abbrev pub size_of : Work → ℕ
size_of w = size (subjobs_of w.fit.set)

-- the place that `to_serve` tells by its number
abbrev pub chosen : (n p : ℕ) → Option ℕ
chosen n p = cond (ltb p n) (Some p) None

-- the moment that `next_release` tells
abbrev pub released : ℕ → Option ℕ
released r = cond (eqb r 0) None (Some r)

-- the end of the last tick served to it, or its release if it is owed nothing
abbrev pub finish_in : Load → List ℕ → ℕ → ℕ
finish_in L fs i = cond (eqb (L.owed i) 0) (L.release i) (get_or fs i 0)

-- the greatest finish among those owed something
abbrev pub end_in : Load → List ℕ → ℕ
end_in L fs = greatest (λ i. get_or fs i 0) (filter (λ i. ltb 0 (L.owed i)) L.on)

pub record AtStart (e : Core) : Type 0 where
  pub served : e.served ≡ replicate 128 0
  pub finish : e.finish ≡ replicate 128 0
  pub busy : e.busy ≡ 0

-- At the horizon all is served.
pub record RanOut (w : Work) (e : Core) : Type 0 where
  pub finish : e.finish ≡ (after (load_of w) (horizon (load_of w))).finish
  pub busy : e.busy ≡ (after (load_of w) (horizon (load_of w))).busy

abbrev pub settled : Run → Totals → Simulated
settled r t =
    cond (above (added r t)) (record { answer = Err reason.Totals; totals = t })
    (record { answer = Ok (record { end = r.end }); totals = added r t })

-- what the list of finishes holds after it, if it held old before
abbrev pub written : Run → Totals → List ℕ → List ℕ
written r t old = if_ran (settled r t).answer r.finishes old

pub record Settles (w : Work) (old : List ℕ) (t : Totals) (r : Simulated) (new : List ℕ) : Type 0 where
  pub gives : r ≡ settled (run_of (load_of w)) t
  pub writes : new ≡ written (run_of (load_of w)) t old
