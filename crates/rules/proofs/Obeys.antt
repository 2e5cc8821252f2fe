-- What the method gives is what the rules give, and nothing else: step by step on a list in release order, then for any
-- list of places, then for a set.
use Prim.Native.Nat.{ℕ, zero, suc, ◌+◌, ◌≤◌, ◌<◌}
use mathlib.Core.Bool.{Bool, cond, not}
use mathlib.Core.List.{List, [], Memᴰ}
use mathlib.Core.Logic.{◌↔◌}
use mathlib.Core.Option.{some}
use mathlib.Core.Path.{◌≡◌, refl, sym, ap, ◌∙◌}
use native.Mathlib.Omega.{arith}
use borrow.Author.Tests.{leb-true, leb-false}
use lib.Dec.{leb, ltb, eqb}
use lib.ListN.{length, get_or, set, replicate, length-set, length-replicate, get_or-eq_default}
use lib.Seq.{get_or-set_same, get_or-set_other, ext_get_or}
use Rattle.lists.specs.Places.{places, without, weight, InOrder}
use Rattle.lists.specs.Order.{choose, reversed, Last}
use Rattle.lists.proofs.Cases.{split, test, tests}
use Rattle.lists.proofs.Members.{filled, or_filled, or_in, without_in, inorder_filter, in_places, places_in}
use Rattle.lists.proofs.Sums.{weight_in, weight_out, weight-length}
use Rattle.lists.proofs.Choice.{Order, Total, last_chosen}
use Rattle.subjobs.specs.Sets.{Subjobs, size, execution}
use Rattle.subjobs.specs.Terms.{Terms, terms}
use Rattle.subjobs.specs.Faults.{Fit}
use Rattle.subjobs.proofs.Bounds.{lower_order, lower_total}
use Rattle.rules.specs.Method.{in_order, Outcome, placed, stuck, steps, assigning, method}
use Rattle.rules.specs.Rules.{Accepts, over, place, Refuses, here, later, Accepted, RefusedAt}
use Rattle.rules.proofs.Tails.{base-nil, base_filled, base_in}
use Rattle.rules.proofs.ReleaseOrder.{inorder_arranged, same_arranged, arranged_in}
use Rattle.rules.proofs.Rules.{Ones, ones_without, best_of, base_of, step_turn, same_accepts, same_refuses, one_deadline, not_both, one_refusal}

module _ (T : Terms) where
  -- An outcome that the rules allow for the places xs; a place that is not of them keeps its deadline.
  abbrev pub Obeys : List ℕ → List ℕ → Outcome → Type 0
  Obeys xs ds (placed es) =
      Accepts T (λ i. get_or es i 0) xs
      × (length es ≡ length ds)
      × ((i : ℕ) → (Memᴰ i xs → ⊥) → get_or es i 0 ≡ get_or ds i 0)
  Obeys xs ds (stuck p m) = Refuses T p m xs

  done : (n : ℕ) (xs ds : List ℕ) → xs ≡ [] → steps T n xs ds ≡ placed ds
  unfolding steps choose
  done zero xs ds e = refl
  done (suc n) xs ds e = rw (e, base-nil T.release T.execution)

  ended : (n : ℕ) (xs ds : List ℕ) → xs ≡ [] → Obeys xs ds (steps T n xs ds)
  ended n xs ds e = rw (done n xs ds e) (rw e over, refl, λ i m. refl)

  step :
      (n : ℕ) (xs ds : List ℕ) (b : ℕ)
      → choose (reversed T.lower) (base_of T xs) ≡ some b
      → steps T (suc n) xs ds
      ≡ cond (leb (best_of T xs + T.withheld b) (T.deadline b)) (steps T n (without b xs) (set ds b (best_of T xs))) (stuck b (best_of T xs))
  unfolding steps
  step n xs ds b e = rw e

  more :
      (xs ds : List ℕ) (b : ℕ)
      → InOrder T.release xs
      → Ones T.execution xs
      → Last T.lower (base_of T xs) b
      → b < length ds
      → best_of T xs + T.withheld b ≤ T.deadline b
      → (w : Outcome)
      → Obeys (without b xs) (set ds b (best_of T xs)) w
      → Obeys xs ds w
  more xs ds b s ones l lim h (placed es) a =
      let e : get_or es b 0 ≡ best_of T xs =
      a.2 b (λ m. (without_in b xs m).1 refl) ∙ get_or-set_same ds b (best_of T xs) 0 lim
      in (
        place b (step_turn T xs s ones l e) (omega arith) a.0,
        a.1 ∙ length-set ds b (best_of T xs),
        λ i n.
            a.2 i (λ m. n (without_in b xs m).0)
            ∙ get_or-set_other ds b i (best_of T xs) 0 (λ q. n (rw q (base_in T.release T.execution xs l.0))),
      )
  more xs ds b s ones l lim h (stuck p m) a = later b (best_of T xs) (step_turn T xs s ones l refl) h a

  module _ (o : Order T.lower) where
    -- On a list in release order: what the steps give, the rules allow.
    pub obeys :
        (n : ℕ) (xs ds : List ℕ)
        → InOrder T.release xs
        → Ones T.execution xs
        → Total T.lower xs
        → weight (λ i. 1) xs ≤ n
        → ((i : ℕ) → Memᴰ i xs → i < length ds)
        → Obeys xs ds (steps T n xs ds)
    obeys zero xs ds s ones tot fuel lim =
        split (or_filled xs) (λ e. ended zero xs ds e) (λ f. absurd (omega (arith, weight_in (λ i. 1) xs (filled xs f).1)))
    obeys (suc n) xs ds s ones tot fuel lim =
        split (or_filled xs)
        (λ e. ended (suc n) xs ds e)
        (λ f.
        let of : (i : ℕ) → Memᴰ i (base_of T xs) → Memᴰ i xs = λ i m. base_in T.release T.execution xs m in
        let w =
        last_chosen T.lower o (base_of T xs) (λ i j p q. tot i j (of i p) (of j q))
        (λ e. f (base_filled T.release T.execution xs ones e))
        in
        let b : ℕ = w.0 in
        let m = of b w.1.0.0 in
        rw (step n xs ds b w.1.1)
        (test (leb (best_of T xs + T.withheld b) (T.deadline b))
        (λ y.
        rw y
        (more xs ds b s ones w.1.0 (lim b m) (leb-true (best_of T xs + T.withheld b) (T.deadline b) y)
        (steps T n (without b xs) (set ds b (best_of T xs)))
        (obeys n (without b xs) (set ds b (best_of T xs)) (inorder_filter T.release (λ i. not (eqb i b)) xs s)
        (ones_without T.execution b xs ones) (λ i j p q. tot i j (without_in b xs p).0 (without_in b xs q).0)
        (omega (arith, weight_out (λ i. 1) b xs m))
        (λ i q. omega (arith, lim i (without_in b xs q).0, length-set ds b (best_of T xs))))))
        (λ y.
        rw y
        (here (step_turn T xs s ones w.1.0 refl) (leb-false (best_of T xs + T.withheld b) (T.deadline b) y)))))

    module _ (xs ds : List ℕ) (ones : Ones T.execution xs) where
      -- Only one outcome is allowed.
      obeys_one : (w w' : Outcome) → Obeys xs ds w → Obeys xs ds w' → w ≡ w'
      obeys_one (placed es) (placed es') a b =
          ap placed
          (ext_get_or 0 es es' (a.1 ∙ sym b.1)
          (λ i h.
          split (or_in i xs) (λ m. one_deadline T o xs ones a.0 b.0 m) (λ n. a.2 i n ∙ sym (b.2 i n))))
      obeys_one (placed es) (stuck p m) a f = absurd (not_both T o xs ones a.0 f)
      obeys_one (stuck p m) (placed es) f a = absurd (not_both T o xs ones a.0 f)
      obeys_one (stuck p m) (stuck p' m') f g = let e = one_refusal T o xs ones f g in rw (e.0, e.1)

      -- On any list of places: the method gives an outcome exactly if the rules allow it.
      pub assigning_is :
          Total T.lower xs
          → ((i : ℕ) → Memᴰ i xs → i < length ds)
          → (w : Outcome)
          → (assigning T xs ds ≡ w) ↔ Obeys xs ds w
      assigning_is tot lim w =
          let ys : List ℕ = in_order T.release xs in
          let e = same_arranged T.release xs in
          let of : (i : ℕ) → Memᴰ i ys → Memᴰ i xs = λ i m. arranged_in T.release xs m in
          let a : Obeys xs ds (assigning T xs ds) =
          any_order (assigning T xs ds)
          (obeys (length xs) ys ds (inorder_arranged T.release xs) (λ i q. ones i (of i q)) (λ i j p q. tot i j (of i p) (of j q))
          (omega (arith, e (λ i. 1), weight-length xs)) (λ i q. lim i (of i q)))
          in
          (λ q. rw q at a, λ b. obeys_one (assigning T xs ds) w a b)
        where
          any_order : (w : Outcome) → Obeys (in_order T.release xs) ds w → Obeys xs ds w
          any_order (placed es) a = (
            same_accepts T (in_order T.release xs) xs (same_arranged T.release xs) a.0,
            a.1,
            λ i n. a.2 i (λ m. n (arranged_in T.release xs m)),
          )
          any_order (stuck p m) f = same_refuses T (in_order T.release xs) xs (same_arranged T.release xs) f

-- For a set that passes refusals 1 to 4: executions are at least 1, and no pair stands twice.
module _ (s : Subjobs) {others : Bool} (f : Fit s others) where
  pub fit_ones : Ones (execution s) (places (size s))
  fit_ones i m = (f.ranges i (places_in (size s) i m)).some

  method_is : (w : Outcome) → (method s ≡ w) ↔ Obeys (terms s) (places (size s)) (replicate (size s) 0) w
  unfolding method
  method_is =
      assigning_is (terms s) (lower_order s) (places (size s)) (replicate (size s) 0) fit_ones (lower_total s f.pairs)
      (λ i m. omega (arith, places_in (size s) i m, length-replicate {A = ℕ} (size s) 0))

  -- The method gives the deadlines ds exactly if the rules do ..
  pub method-placed : (ds : List ℕ) → (method s ≡ placed ds) ↔ ((length ds ≡ size s) × Accepted s (λ i. get_or ds i 0))
  method-placed ds = (
    λ e. let a = (method_is (placed ds)).0 e in (a.1 ∙ length-replicate {A = ℕ} (size s) 0, a.0),
    λ a. (method_is (placed ds)).1 (a.1, a.0 ∙ sym (length-replicate {A = ℕ} (size s) 0), λ i n. beyond a.0 i n),
  )
    where
      beyond :
          length ds ≡ size s → (i : ℕ) → (Memᴰ i (places (size s)) → ⊥) → get_or ds i 0 ≡ get_or (replicate (size s) 0) i 0
      beyond e i n =
          test (ltb i (size s))
          (λ y. absurd (n (in_places (size s) i (omega tests))))
          (λ y.
          get_or-eq_default ds 0 (omega tests)
          ∙ sym (get_or-eq_default (replicate (size s) 0) 0 (omega (tests, length-replicate {A = ℕ} (size s) 0))))

  -- .. and it stops at p with the completion m exactly if they refuse the set there.
  pub method-stuck : (p m : ℕ) → (method s ≡ stuck p m) ↔ RefusedAt s p m
  method-stuck p m = method_is (stuck p m)

  -- Two lists of deadlines that the rules give a set are equal at every place.
  pub accepted_one : {d d' : ℕ → ℕ} → Accepted s d → Accepted s d' → (i : ℕ) → i < size s → d i ≡ d' i
  accepted_one a a' i h = one_deadline (terms s) (lower_order s) (places (size s)) fit_ones a a' (in_places (size s) i h)

  -- Two refusals are equal.
  pub refused_one : {p m p' m' : ℕ} → RefusedAt s p m → RefusedAt s p' m' → (p ≡ p') × (m ≡ m')
  refused_one h h' = one_refusal (terms s) (lower_order s) (places (size s)) fit_ones h h'

  -- No set is both accepted and refused.
  pub accepted_refused : {d : ℕ → ℕ} {p m : ℕ} → Accepted s d → RefusedAt s p m → ⊥
  accepted_refused a h = not_both (terms s) (lower_order s) (places (size s)) fit_ones a h
