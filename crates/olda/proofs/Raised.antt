-- Upper bounds raised: no number is negative, and whatever is asked of bounds has the same answer. With raised bounds
-- nothing is left to withhold but the raise itself.
use Prim.Native.Nat.{ℕ, zero, suc, ◌+◌, ◌-◌, ◌<◌}
use mathlib.Core.Bool.{Bool}
use mathlib.Core.List.{List, [], ◌∷◌}
use mathlib.Core.Option.{Option, none, some}
use mathlib.Core.Path.{◌≡◌, refl, ap}
use native.Mathlib.Omega.{arith}
use lib.Dec.{leb, eqb}
use lib.ListN.{length, set}
use lib.Seq.{get_or-set_same, get_or-set_other}
use Rattle.lists.specs.Places.{Every, without}
use Rattle.lists.specs.Order.{by, reversed, ahead, choose, given}
use Rattle.lists.proofs.Cases.{test, tests, eqb_no, same_ltb, same_leb}
use Rattle.lists.proofs.Members.{every_in, in_every, without_in}
use Rattle.lists.proofs.Choice.{chosen_in}
use Rattle.subjobs.specs.Sets.{Subjobs, deadline, withheld, by_bound}
use Rattle.subjobs.specs.Terms.{terms, lower, bound}
use Rattle.subjobs.proofs.Differences.{sub_same}
use Rattle.rules.specs.Method.{placed, steps}
use Rattle.rules.proofs.AllPlaces.{every_base}
use Rattle.rules.proofs.Rules.{best_of, base_of}
use Rattle.olda.specs.Parts.{at, limits, raise, lower_by, raised, Raised, Raising}

-- One more bound is raised.
pub raised_more :
    {ds zs old : List ℕ} (us : List ℕ) {i w : ℕ}
    → Raising ds zs old
    → length us ≡ length old
    → i < length ds
    → w ≡ (limits ds zs).withheld i
    → Raised (limits ds zs) i us
    → Raised (limits ds zs) (i + 1) (set us i (at ds i + raise - w))
raised_more {ds} {zs} us {i = i} {w = w} a l h e r j b =
    let v = at ds i + raise - w in
    test (eqb j i)
    (λ t. let q : j ≡ i = omega tests in rw (q, get_or-set_same us i v 0 (omega (arith, a.room))) (omega (arith, a.least i h, e)))
    (λ t. rw (get_or-set_other us i j v 0 (eqb_no j i t)) (r j (omega tests)))

-- Two orders that agree on the places below n choose the same of them.
module _ (n : ℕ) (lt lt' : ℕ → ℕ → Bool) (same : (i j : ℕ) → i < n → j < n → lt i j ≡ lt' i j) where
  ahead_same : (p : ℕ) (xs : List ℕ) → p < n → Every (λ i. i < n) xs → ahead lt p xs ≡ ahead lt' p xs
  unfolding ahead
  ahead_same p [] h e = refl
  ahead_same p (x ∷ xs) h e =
      rw (same x p e.0 h)
      (test (lt' x p) (λ t. rw t (ahead_same x xs e.0 e.1)) (λ t. rw t (ahead_same p xs h e.1)))

  choose_same : (xs : List ℕ) → Every (λ i. i < n) xs → choose lt xs ≡ choose lt' xs
  unfolding choose
  choose_same [] e = refl
  choose_same (x ∷ xs) e = ap some (ahead_same x xs e.0 e.1)

given_same : {A : Type 0} (q : Option ℕ) (a : A) (f g : ℕ → A) → ((b : ℕ) → q ≡ some b → f b ≡ g b) → given q a f ≡ given q a g
given_same none a f g h = refl
given_same (some b) a f g h = h b refl

-- us are the upper bounds of the first n sub-jobs of a set, raised.
module _ (s : Subjobs) (n : ℕ) (us : List ℕ) (up : Raised (terms s) n us) where
  raised_bound : (i j : ℕ) → i < n → j < n → by_bound (deadline s) (withheld s) i j ≡ by (at us) i j
  raised_bound i j a b =
      let p = up i a in
      let q = up j b in
      same_ltb (deadline s i + withheld s j) (deadline s j + withheld s i) (at us i) (at us j) (λ h. omega arith) (λ h. omega arith)

  raised_lower : (i j : ℕ) → i < n → j < n → lower s i j ≡ lower_by us s.jobs s.subtasks i j
  raised_lower i j a b = rw (raised_bound i j a b, raised_bound j i b a)

  raised_met : (m b : ℕ) → b < n → leb (m + withheld s b) (deadline s b) ≡ leb (m + raise) (at us b)
  raised_met m b h =
      let p = up b h in
      same_leb (m + withheld s b) (deadline s b) (m + raise) (at us b) (λ l. omega arith) (λ l. omega arith)

  -- What is signed in a refusal is the upper bound.
  pub raised_signed : (p : ℕ) → p < n → bound (raised s us) p ≡ bound (terms s) p
  raised_signed p h = let b = up p h in sub_same (at us p) raise (deadline s p) (withheld s p) (omega arith)

  pub raised-steps :
      (m : ℕ) (xs ds : List ℕ)
      → Every (λ i. i < n) xs
      → steps (raised s us) m xs ds ≡ steps (terms s) m xs ds
  unfolding steps
  raised-steps zero xs ds e = refl
  raised-steps (suc m) xs ds e =
      let ys = base_of (terms s) xs in
      let eb = every_base (λ i. i < n) (at s.releases) (at s.executions) xs e in
      rw (choose_same n (reversed (lower s)) (reversed (lower_by us s.jobs s.subtasks)) (λ i j a b. raised_lower j i b a) ys eb)
      (given_same (choose (reversed (lower_by us s.jobs s.subtasks)) ys) (placed ds) _ _
      (λ b q.
      let h = every_in (λ i. i < n) ys eb (chosen_in (reversed (lower_by us s.jobs s.subtasks)) ys q) in
      let rest = in_every (λ i. i < n) (without b xs) (λ i k. every_in (λ j. j < n) xs e (without_in b xs k).0) in
      rw (raised_met (best_of (terms s) xs) b h, raised-steps m (without b xs) (set ds b (best_of (terms s) xs)) rest)))
