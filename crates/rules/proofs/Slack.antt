-- The least slack of some places: the place chosen by slack has it, and there is only one.
use Prim.Native.Nat.{ℕ, ◌+◌}
use mathlib.Core.Bool.{true, not}
use mathlib.Core.List.{List}
use mathlib.Core.Option.{some}
use mathlib.Core.Path.{◌≡◌, refl, sym, ap, ◌∙◌}
use lib.IntN.{ℤ, pos, negsuc}
use lib.Signed.{le_z}
use Rattle.lists.specs.Order.{choose}
use Rattle.lists.proofs.Cases.{clash, tests}
use Rattle.lists.proofs.Choice.{chosen_in, chosen_first}
use Rattle.subjobs.specs.Terms.{Terms, slack, by_slack}
use Rattle.subjobs.proofs.Bounds.{bound_order, signed_not, slack_less}
use Rattle.rules.specs.Rules.{LeastSlack}

signed_one : (x y : ℤ) → le_z x y ≡ true → le_z y x ≡ true → x ≡ y
signed_one (pos a) (pos b) h k = ap pos (omega tests)
signed_one (pos a) (negsuc b) h k = clash h refl
signed_one (negsuc a) (pos b) h k = clash k refl
signed_one (negsuc a) (negsuc b) h k = ap negsuc (omega tests)

module _ (T : Terms) (d : ℕ → ℕ) (xs : List ℕ) where
  -- The place that is reported has the least slack.
  pub chosen_slack : {p : ℕ} → choose (by_slack T d) xs ≡ some p → LeastSlack T d xs (slack T d p)
  chosen_slack {p} e = (
    (p, chosen_in (by_slack T d) xs e, refl),
    λ i m.
        signed_not (slack T d p) (slack T d i)
        ∙ ap not
        (sym (slack_less T d i p)
        ∙ chosen_first (by_slack T d) (bound_order T.deadline (λ j. T.withheld j + d j)) xs e m),
  )

  -- There is one least slack.
  pub least_slack_one : {x y : ℤ} → LeastSlack T d xs x → LeastSlack T d xs y → x ≡ y
  least_slack_one {x} {y} h k =
      signed_one x y
      (rw k.0.2 at (h.1 k.0.0 k.0.1))
      (rw h.0.2 at (k.1 h.0.0 h.0.1))
