-- The totals of runs add up.
use Rattle.std.specs.Prelude.{Ok}
use Prim.Native.Nat.{ℕ, ◌+◌}
use mathlib.Core.List.{List}
use mathlib.Core.Path.{◌≡◌, ap, ◌∙◌}
use Rattle.subjobs.specs.Sets.{Subjobs}
use Rattle.ticks.specs.Runs.{run}
use Rattle.edf.specs.declared.Totals.{Totals}
use Rattle.edf.specs.declared.Report.{Report}
use Rattle.edf.specs.Answers.{added, answer, totals}

-- An accepted run adds its ticks to the totals,
ran_adds :
    (s : Subjobs) (ds asks : List ℕ) (n : ℕ) (t : Totals) (p : Report) → answer s ds asks n t ≡ Ok p
    → totals s ds asks n t ≡ added (run s ds asks) t
unfolding totals
ran_adds s ds asks n t p e = rw e

-- and so two runs' totals add up.
pub two_runs :
    (s s' : Subjobs) (ds asks ds' asks' : List ℕ) (n n' : ℕ) (t : Totals) (p p' : Report)
    → answer s ds asks n t ≡ Ok p
    → answer s' ds' asks' n' (totals s ds asks n t) ≡ Ok p'
    → ◌≡◌ {A = Totals}
    (totals s' ds' asks' n' (totals s ds asks n t))
    (record { busy = t.busy + (run s ds asks).busy + (run s' ds' asks').busy; idle = t.idle + (run s ds asks).idle + (run s' ds' asks').idle })
two_runs s s' ds asks ds' asks' n n' t p p' e e' =
    ran_adds s' ds' asks' n' (totals s ds asks n t) p' e' ∙ ap (added (run s' ds' asks')) (ran_adds s ds asks n t p e)
