-- The run of a set whose list is rearranged, its deadlines and asks with it: the finishes are the rearranged ones, end, busy
-- and idle ticks are the same.
use Prim.Native.Nat.{ℕ, ◌<◌, ◌≤◌}
use mathlib.Core.Bool.{Bool}
use mathlib.Core.List.{List}
use mathlib.Core.Path.{◌≡◌, refl, sym, ap, ◌∙◌}
use native.Mathlib.Omega.{arith}
use lib.ListN.{get_or}
use lib.Seq.{ext_get_or}
use Rattle.lists.specs.Places.{places, Rearranges, taken}
use Rattle.lists.proofs.Choice.{Order, Total}
use Rattle.lists.proofs.Members.{in_places}
use Rattle.lists.proofs.Renamed.{moved_in}
use Rattle.lists.proofs.Taken.{standing, taken-length}
use Rattle.subjobs.specs.Sets.{Subjobs, size, rearranged, job, subtask}
use Rattle.subjobs.specs.Faults.{Fit}
use Rattle.subjobs.proofs.Rearranging.{alike_inside, rearranged-size, taken_there, rearranged_alike}
use Rattle.ticks.specs.Core.{Load}
use Rattle.ticks.specs.Runs.{Run, load, run_of, run}
use Rattle.ticks.proofs.Service.{Counters, counters}
use Rattle.ticks.proofs.Sooner.{sooner_order, sooner_total}
use Rattle.ticks.proofs.Ticks.{run_length, finish_at}
use Rattle.ticks.proofs.Renaming.{Renamed, finish_renamed, end_renamed, busy_renamed, idle_renamed}

abbrev pub moved_run : List ℕ → Run → Run
moved_run ps R = record { finishes = taken ps R.finishes; end = R.end; busy = R.busy; idle = R.idle }

module _
    (ps : List ℕ)
    (s : Subjobs)
    (r : Rearranges ps (size s))
    (ds asks : List ℕ)
    {others : Bool}
    (f : Fit s others) where
  abbrev s' : Subjobs
  s' = rearranged ps s

  abbrev π : ℕ → ℕ
  π i = get_or ps i 0

  abbrev M : Load
  M = load s' (taken ps ds) (taken ps asks)

  abbrev L : Load
  L = load s ds asks

  moved_core : Renamed M L π
  moved_core =
      let e = rearranged_alike ps s r in
      record {
        stands = record {
          there = λ i m. moved_in π (places (size s')) (places (size s)) e.moved m;
          apart = λ i j p q h. sym (e.back i p) ∙ ap (standing ps) h ∙ e.back j q;
          release = e.release;
          owed = λ i m. rw (taken_there ps s r asks i m, e.execution i m);
          before = λ i j m k.
              rw (
                taken_there ps s r ds i m,
                taken_there ps s r ds j k,
                e.job i m,
                e.job j k,
                e.subtask i m,
                e.subtask j k,
              );
        };
        moved = e.moved;
      }

  few' : size s' ≤ 128
  few' = omega (arith, rearranged-size ps s r, f.few)

  N : Counters M
  N = counters s' (taken ps ds) (taken ps asks) few'

  K : Counters L
  K = counters s ds asks f.few

  order_m : Order M.before
  order_m = sooner_order (λ i. get_or (taken ps ds) i 0) (job s') (subtask s')

  order_l : Order L.before
  order_l = sooner_order (λ i. get_or ds i 0) (job s) (subtask s)

  total : Total L.before L.on
  total = sooner_total (λ i. get_or ds i 0) s f.pairs

  finishes_moved : (run s' (taken ps ds) (taken ps asks)).finishes ≡ taken ps (run s ds asks).finishes
  finishes_moved =
      let a = (run s' (taken ps ds) (taken ps asks)).finishes in
      let b = (run s ds asks).finishes in
      let l = run_length s' (taken ps ds) (taken ps asks) in
      ext_get_or 0 a (taken ps b) (l ∙ rearranged-size ps s r ∙ sym (taken-length ps (size s) r b))
      (λ i h.
      let k : i < size s' = omega (arith, l) in
      finish_at s' (taken ps ds) (taken ps asks) i k
      ∙ finish_renamed M L π moved_core N K order_m order_l total i (in_places (size s') i k)
      ∙ sym (finish_at s ds asks (π i) (alike_inside (rearranged_alike ps s r) i k))
      ∙ sym (taken_there ps s r b i (in_places (size s') i k)))

  pub run_moved : run s' (taken ps ds) (taken ps asks) ≡ moved_run ps (run s ds asks)
  unfolding run_of
  run_moved =
      let R = run s' (taken ps ds) (taken ps asks) in
      let whole : R ≡ record { finishes = R.finishes; end = R.end; busy = R.busy; idle = R.idle } = refl in
      whole
      ∙ rw (
        finishes_moved,
        busy_renamed M L π moved_core N K order_m order_l total,
        idle_renamed M L π moved_core N K order_m order_l total,
        end_renamed M L π moved_core N K order_m order_l total,
      )
