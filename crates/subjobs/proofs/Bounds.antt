-- Upper bounds and slacks. The bridge between sums of naturals and signed numbers: a difference of naturals is compared by
-- cross sums. And the order of the base sub-job.
use Prim.Native.Nat.{ℕ, suc, ◌+◌, ◌-◌}
use mathlib.Core.Bool.{Bool, true, false, not}
use mathlib.Core.List.{List, [], ◌∷◌}
use mathlib.Core.Logic.{◌↔◌, inl, inr}
use mathlib.Core.Path.{◌≡◌, refl, sym, ap, ◌∙◌}
use native.Mathlib.Omega.{arith}
use borrow.Author.Tests.{ltb-true, leb-true, leb-false, lt-ltb, le-ltb}
use lib.Dec.{ltb, leb}
use lib.IntN.{ℤ, pos, negsuc, sub_ℕ}
use lib.Signed.{le_z, lt_z}
use Rattle.lists.proofs.Cases.{split, test, tests, tested, same_ltb}
use Rattle.subjobs.proofs.Differences.{sub_same, sub_pos, sub_less}
use Rattle.subjobs.proofs.Pairs.{pair_order, pair_total}
use Rattle.subjobs.specs.Sets.{Subjobs, subjobs, size, job, subtask, deadline, withheld, by_bound, by_pair}
use Rattle.subjobs.specs.Terms.{Terms, bound, slack, by_slack, lower, terms, Behind}
use Rattle.subjobs.specs.Faults.{NoneTwice}
use Rattle.lists.specs.Places.{places}
use Rattle.lists.specs.Order.{by}
use Rattle.lists.proofs.Choice.{Order, Total, lex_order, lex_total, yes_lex, tie_lex, lex_yes}

signed_less : (a b c d : ℕ) → lt_z (sub_ℕ a b) (sub_ℕ c d) ≡ ltb (a + d) (c + b)
signed_less a b c d =
    test (ltb a b)
    (λ p.
    test (ltb c d)
    (λ q. rw (p, q) (same_ltb (d - suc c) (b - suc a) (a + d) (c + b) (omega tests) (omega tests)))
    (λ q. rw (p, q) (sym (lt-ltb (a + d) (c + b) (omega tests)))))
    (λ p.
    test (ltb c d)
    (λ q. rw (p, q) (sym (le-ltb (a + d) (c + b) (omega tests))))
    (λ q. rw (p, q) (same_ltb (a - b) (c - d) (a + d) (c + b) (omega tests) (omega tests))))

-- x ≤ y says that y is not below x.
not_less : (x y : ℕ) → leb x y ≡ not (ltb y x)
not_less x y =
    test (leb x y)
    (λ e. rw (e, le-ltb y x (leb-true x y e)))
    (λ e. rw (e, lt-ltb y x (leb-false x y e)))

pub signed_not : (x y : ℤ) → le_z x y ≡ not (lt_z y x)
signed_not (pos a) (pos b) = not_less a b
signed_not (pos a) (negsuc b) = refl
signed_not (negsuc a) (pos b) = refl
signed_not (negsuc a) (negsuc b) = not_less b a

signed_le : (a b c d : ℕ) → le_z (sub_ℕ a b) (sub_ℕ c d) ≡ leb (a + d) (c + b)
signed_le a b c d =
    signed_not (sub_ℕ a b) (sub_ℕ c d) ∙ ap not (signed_less c d a b) ∙ sym (not_less (a + d) (c + b))

module _ (T : Terms) where
  pub bound_less : (i j : ℕ) → by_bound T.deadline T.withheld i j ≡ lt_z (bound T i) (bound T j)
  bound_less i j = sym (signed_less (T.deadline i) (T.withheld i) (T.deadline j) (T.withheld j))

  pub bound_met : (m i : ℕ) → leb (m + T.withheld i) (T.deadline i) ≡ le_z (pos m) (bound T i)
  bound_met m i =
      sym
      (ap (λ (x : ℤ). le_z x (bound T i)) (sub_pos m 0 m (omega arith))
      ∙ signed_le m 0 (T.deadline i) (T.withheld i)
      ∙ ap (leb (m + T.withheld i)) (omega arith))

  pub slack_less : (d : ℕ → ℕ) (i j : ℕ) → by_slack T d i j ≡ lt_z (slack T d i) (slack T d j)
  slack_less d i j =
      sym
      (ap (λ (x : ℤ). lt_z x (slack T d j)) (sub_less (T.deadline i) (T.withheld i) (d i))
      ∙ ap (lt_z (sub_ℕ (T.deadline i) (T.withheld i + d i))) (sub_less (T.deadline j) (T.withheld j) (d j))
      ∙ signed_less (T.deadline i) (T.withheld i + d i) (T.deadline j) (T.withheld j + d j))

-- Upper bounds are an order.
pub bound_order : (dl z : ℕ → ℕ) → Order (by_bound dl z)
bound_order dl z =
    record {
      irrefl = λ i. omega tested;
      trans = λ i j k a b. omega tested;
      parts = λ i j k h. test (by_bound dl z i j) (λ q. inl q) (λ q. inr (omega tested));
    }

-- Two sub-jobs with equal bounds, on which a wrong tie rule shows, computed: of jobs 5 and 2, where place and subtask of the
-- second are greater; and of one job, where the place is.
abbrev two : (jobs subtasks : List ℕ) → Subjobs
two js ks = subjobs js ks (0 ∷ 0 ∷ []) (2 ∷ 3 ∷ []) (9 ∷ 9 ∷ []) (0 ∷ 0 ∷ [])

pub lower_edges :
    (lower (two (5 ∷ 2 ∷ []) (1 ∷ 2 ∷ [])) 1 0 ≡ true)
    × (lower (two (5 ∷ 2 ∷ []) (1 ∷ 2 ∷ [])) 0 1 ≡ false)
    × (lower (two (5 ∷ 5 ∷ []) (2 ∷ 1 ∷ [])) 1 0 ≡ true)
    × (lower (two (5 ∷ 5 ∷ []) (2 ∷ 1 ∷ [])) 0 1 ≡ false)
lower_edges = (refl, refl, refl, refl)

-- The order of the base sub-job: by upper bounds, then by pairs. Where no pair stands twice it parts any two.
module _ (s : Subjobs) where
  abbrev by_bounds : ℕ → ℕ → Bool
  by_bounds = by_bound (deadline s) (withheld s)

  abbrev by_pairs : ℕ → ℕ → Bool
  by_pairs = by_pair (job s) (subtask s)

  pub lower_order : Order (lower s)
  lower_order = lex_order by_bounds by_pairs (bound_order (deadline s) (withheld s)) (pair_order (job s) (subtask s))

  pub lower_total : NoneTwice s (size s) → Total (lower s) (places (size s))
  lower_total pairs =
      lex_total by_bounds by_pairs (bound_order (deadline s) (withheld s)) (places (size s)) (pair_total s (size s) pairs)

  -- It says what it is read as.
  module _ (i j : ℕ) where
    lower_behind : lower s i j ≡ true → Behind s i j
    lower_behind h =
        split (lex_yes by_bounds by_pairs i j h)
        (λ y. inl (sym (bound_less (terms s) i j) ∙ y))
        (λ y.
        let a = y.0 in
        let b = y.1 in
        inr (
          sub_same (deadline s i) (withheld s i) (deadline s j) (withheld s j) (omega tests),
          split (lex_yes (by (job s)) (by (subtask s)) i j y.2)
              (λ q. inl (ltb-true (job s i) (job s j) q))
              (λ q. let c = q.0 in let d = q.1 in inr (omega tests, ltb-true (subtask s i) (subtask s j) q.2)),
        ))

    behind_lower : Behind s i j → lower s i j ≡ true
    behind_lower h =
        split h
        (λ y. yes_lex by_bounds by_pairs i j (bound_less (terms s) i j ∙ y))
        (λ y.
        let T = terms s in
        tie_lex by_bounds by_pairs i j
        (bound_less T i j ∙ rw y.0 (sym (bound_less T j j) ∙ (bound_order (deadline s) (withheld s)).irrefl j))
        (bound_less T j i ∙ rw y.0 (sym (bound_less T j j) ∙ (bound_order (deadline s) (withheld s)).irrefl j))
        ∙ split y.1
        (λ q. yes_lex (by (job s)) (by (subtask s)) i j (lt-ltb (job s i) (job s j) q))
        (λ q.
        let e = q.0 in
        tie_lex (by (job s)) (by (subtask s)) i j (omega tested) (omega tested) ∙ lt-ltb (subtask s i) (subtask s j) q.1))

    pub lower_says : (lower s i j ≡ true) ↔ Behind s i j
    lower_says = (lower_behind, behind_lower)
