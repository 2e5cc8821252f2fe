-- What the code reports of local deadlines is the report of the rules, and what it answers is the answer.
use Rattle.std.specs.Prelude.{Option, Ok, Err, Some, None}
use Prim.Native.Nat.{ℕ, ◌<◌, ◌≤◌}
use mathlib.Core.Bool.{true}
use mathlib.Core.List.{List}
use mathlib.Core.Path.{◌≡◌, refl, ap, ◌∙◌}
use native.Mathlib.Omega.{arith}
use borrow.Author.Tests.{eq-eqb}
use lib.Dec.{eqb}
use lib.IntN.{ℤ}
use lib.ListN.{length}
use Rattle.lists.specs.Places.{places}
use Rattle.lists.proofs.Members.{places_in}
use Rattle.lists.proofs.Choice.{chosen_in}
use Rattle.subjobs.specs.Judging.{Judgement}
use Rattle.subjobs.specs.declared.Reason.{Reason}
use Rattle.subjobs.specs.Sets.{Subjobs, size}
use Rattle.subjobs.specs.Terms.{terms, slack, by_slack}
use Rattle.subjobs.specs.Judging.{judgement, if_passed}
use Rattle.subjobs.proofs.Fit.{Fit, fit_passes}
use Rattle.rules.specs.Method.{Outcome, placed, stuck, method}
use Rattle.olda.specs.declared.Report.{Report}
use Rattle.olda.specs.Answers.{Answer}
use Rattle.olda.specs.Answers.{report, outcome, answer, written, results, Assigns}
use Rattle.olda.specs.Parts.{at, limits, ruling, reported, Places, Tightest}
use Rattle.olda.proofs.Results.{fit_length}

module _ (ds zs ls : List ℕ) where
  pub reported_none : Tightest ds zs ls None → None ≡ reported (limits ds zs) (length ls) (at ls)
  reported_none t = rw t

  pub reported_some : {p : ℕ} {x : ℤ} → Tightest ds zs ls (Some p) → x ≡ slack (limits ds zs) (at ls) p → Some (record { slack = x; place = p }) ≡ reported (limits ds zs) (length ls) (at ls)
  reported_some {p} t e = rw t (ap (λ (z : ℤ). Some (record { slack = z; place = p })) e)

  pub tightest_inside : {p : ℕ} → Tightest ds zs ls (Some p) → p < length ls
  tightest_inside {p} t = places_in (length ls) p (chosen_in (by_slack (limits ds zs) (at ls)) (places (length ls)) t)

-- The ruling, and the report where it passes, are the answer.
answered : (s : Subjobs) (w : Outcome) (out : List ℕ) → if_passed (ruling (terms s) w) (Ok (report s (at (written w out)))) Err ≡ outcome s w
answered s (placed ds) out = refl
answered s (stuck p m) out = refl

module _ (s : Subjobs) (out : List ℕ) where
  -- A set that is refused keeps its list.
  pub judged_refused : {q : Reason} → judgement s (eqb (length out) (size s)) ≡ Err q → Assigns s out (Err q) out
  unfolding answer results
  judged_refused g = rw g (refl, refl)

  -- One that fits is placed.
  module _ (f : Fit s true) (long : length out ≡ size s) where
    fits : judgement s (eqb (length out) (size s)) ≡ Ok tt
    fits = rw (eq-eqb (length out) (size s) long) (fit_passes s true f)

    module _ {r : Judgement} {out' : List ℕ} (p : Places s out r out') where
      pub placed_length : length out' ≡ length out
      placed_length = ap length p.list ∙ fit_length s f out long (method s) refl

      pub placed_deadlines : length out' ≤ length s.deadlines
      placed_deadlines = omega (arith, placed_length, long, f.lengths.deadlines)

      pub placed_criticals : length out' ≤ length s.criticals
      placed_criticals = omega (arith, placed_length, long, f.lengths.criticals)

      -- Either way the answer is the ruling's.
      told : {a : Answer} → a ≡ if_passed r (Ok (report s (at out'))) Err → Assigns s out a out'
      unfolding answer results
      told q = rw fits (q ∙ rw (p.ruled, p.list) (answered s (method s) out), p.list)

      pub placed_refused : {q : Reason} → r ≡ Err q → Assigns s out (Err q) out'
      placed_refused h = told (rw h)

      pub placed_passed : {b : Option Report} → r ≡ Ok tt → b ≡ reported (limits s.deadlines s.criticals) (length out') (at out') → Assigns s out (Ok b) out'
      unfolding report
      placed_passed h q = told (rw (h, q, placed_length, long))
