-- The answer, both ways: a graph is accepted exactly if it is `Fit`, and it is refused for a reason exactly if it is `Faulty`
-- for that reason.
use Prim.Native.Nat.{ℕ, ◌<◌, ◌≤◌}
use mathlib.Core.Bool.{Bool, true, not, ◌&&◌}
use mathlib.Core.List.{List}
use mathlib.Core.Logic.{◌⊎◌, ◌↔◌, inl, inr}
use mathlib.Core.Path.{◌≡◌, refl, sym, ◌∙◌}
use native.Mathlib.Omega.{arith}
use borrow.Author.Tests.{eqb-true, eq-eqb, leb-true, le-leb, ltb-true, lt-ltb, not-true, not-false}
use lib.Dec.{leb, ltb, leb-zero}
use lib.ListN.{length, get_or}
use Rattle.std.specs.Prelude.{Ok, Err, Some, None, position}
use Rattle.std.specs.List.{position_or_len, zip}
use Rattle.std.proofs.lemmas.Slice.Zip.{get_or-zip, length-zip}
use Rattle.std.proofs.lemmas.Option.{none-some}
use Rattle.std.proofs.lemmas.List.Quantifiers.{position-Some}
use Rattle.std.proofs.lemmas.List.Sums.{fails_before_first}
use Rattle.lists.proofs.Cases.{split, test, clash, both, tests}
use Rattle.subjobs.specs.declared.Field.TheVariants as fields
use Rattle.subjobs.specs.Judging.{Judgement}
use Rattle.subjobs.specs.declared.Reason.{Reason}
use Rattle.subjobs.specs.declared.Reason.TheVariants.{Lengths, TooMany, Range, Stray, Cycle}
use Rattle.subjobs.specs.Reasons.{place_of}
use Rattle.subjobs.specs.Judging.{unless, first_refusal}
use Rattle.subjobs.proofs.Exactly.{Exactly, passing, refusing, exactly_so, exactly_test, exactly_unless, exactly_then, exactly_or, exactly_first}
use Rattle.subjobs.proofs.Fit.{at_most, between}
use Rattle.graph.specs.Graphs.{Graph, size, arcs, execution, before, after, hop}
use Rattle.graph.specs.Graphs as graphs
use Rattle.graph.specs.Answers.{one_length, few, execution_at, hop_at, arc_at, cyclic, judgement, answer}
use Rattle.graph.specs.Faults.{OneLength, Few, InRange, HopInRange, Named, All, Sound, Fit, Faulty, lengths, many, range, delay, stray, cycle}
use Rattle.graph.proofs.Listed.{cyclic_so, cycle_seen}

-- What a search for the first element that fails a test found, as a judgement.
module _
    {X : Type 0} (P : X → Bool) (xs : List X) (d : X) (Q : ℕ → Bool) (w : ℕ → Reason)
    (same : (i : ℕ) → i < length xs → Q i ≡ P (get_or xs i d)) where
  searched : Exactly (first_refusal (λ i. unless (Q i) (w i)) (length xs)) ((j : ℕ) → j < length xs → Q j ≡ true) (λ r. (p : ℕ) × (p < length xs) × ((j : ℕ) → j < p → Q j ≡ true) × ((r ≡ w p) × (Q p ≡ true → ⊥)))
  searched = exactly_first _ _ _ (λ i. exactly_test (Q i) (w i) (λ e. e) (λ e. e)) (length xs)

  pub position_refused : (k : ℕ) → Some k ≡ position (λ x. not (P x)) xs → first_refusal (λ i. unless (Q i) (w i)) (length xs) ≡ Err (w k)
  position_refused k e =
      let f = position-Some (λ x. not (P x)) xs k d (sym e) in
      searched.refuses (w k)
      (k, f.0, (λ j h. same j (omega (arith, f.0)) ∙ not-false _ (f.2 j h)), (refl, λ t. clash (sym (same k f.0) ∙ t) (not-true _ f.1)))

  pub position_passed : None ≡ position (λ x. not (P x)) xs → first_refusal (λ i. unless (Q i) (w i)) (length xs) ≡ Ok tt
  position_passed e =
      let n = position_or_len (λ x. not (P x)) xs in
      test (ltb n (length xs))
      (λ t. absurd (none-some n (rw t at e)))
      (λ f.
      let m : length xs ≤ n = omega tests in
      searched.passes (λ j h. same j h ∙ not-false _ (fails_before_first (λ x. not (P x)) xs j d (omega arith))))

-- No hop delay is below 0.
pub hops_judged :
    (g : Graph) {j : Judgement} → length g.hops ≡ arcs g
    → j ≡ first_refusal (λ i. unless (leb 0 (hop g i) && leb (hop g i) 100_000) (Range i fields.Hop)) (length g.hops)
    → j ≡ first_refusal (hop_at g) (arcs g)
hops_judged g l e = rw l at (simp leb-zero at e)

-- The same of the arcs' two lists.
module _ (g : Graph) (l : length g.afters ≡ arcs g) where
  abbrev Ends : ℕ × ℕ → Bool
  Ends arc = ltb arc.0 (size g) && ltb arc.1 (size g)

  long : length (zip g.befores g.afters) ≡ arcs g
  long = omega (arith, length-zip g.befores g.afters)

  same_ends : (i : ℕ) → i < length (zip g.befores g.afters) → (ltb (before g i) (size g) && ltb (after g i) (size g)) ≡ Ends (get_or (zip g.befores g.afters) i (0, 0))
  same_ends i h = rw (get_or-zip g.befores g.afters i (0, 0) (omega (arith, long)) (omega (arith, long))) refl

  pub stray_refused : (k : ℕ) → Some k ≡ position (λ arc. not (Ends arc)) (zip g.befores g.afters) → first_refusal (arc_at g) (arcs g) ≡ Err (Stray k)
  stray_refused k e = rw long at (position_refused Ends (zip g.befores g.afters) (0, 0) _ Stray same_ends k e)

  pub stray_passed : None ≡ position (λ arc. not (Ends arc)) (zip g.befores g.afters) → first_refusal (arc_at g) (arcs g) ≡ Ok tt
  stray_passed e = rw long at (position_passed Ends (zip g.befores g.afters) (0, 0) _ Stray same_ends e)

module _ (g : Graph) where
  -- one check of all numbers below another
  abbrev Out : (ℕ → Type 0) → (ℕ → Reason) → ℕ → Reason → Type 0
  Out P w n r = (p : ℕ) × (p < n) × All P p × ((r ≡ w p) × (P p → ⊥))

  executions_exactly : Exactly (first_refusal (execution_at g) (size g)) (All (InRange g) (size g)) (Out (InRange g) (λ p. Range p fields.Execution) (size g))
  executions_exactly = exactly_first _ _ _ (λ i. between 1 (execution g i) 1_000_000 (Range i fields.Execution)) (size g)

  hops_exactly : Exactly (first_refusal (hop_at g) (arcs g)) (All (HopInRange g) (arcs g)) (Out (HopInRange g) (λ a. Range a fields.Hop) (arcs g))
  hops_exactly = exactly_first _ _ _ (λ a. at_most (hop g a) 100_000 (Range a fields.Hop)) (arcs g)

  arcs_exactly : Exactly (first_refusal (arc_at g) (arcs g)) (All (Named g) (arcs g)) (Out (Named g) Stray (arcs g))
  arcs_exactly =
      exactly_first _ _ _
      (λ a.
      exactly_test (ltb (before g a) (size g) && ltb (after g a) (size g)) (Stray a)
      (λ e. let b = both e in (ltb-true _ _ b.0, ltb-true _ _ b.1))
      (λ h. rw (lt-ltb _ _ h.0, lt-ltb _ _ h.1)))
      (arcs g)

  pub few_so : few g ≡ true → Few g
  few_so e = let b = both e in record { subjobs = leb-true _ _ b.0; arcs = leb-true _ _ b.1 }

  few_exactly : Exactly (unless (few g) TooMany) (Few g) (λ r. (r ≡ TooMany) × (Few g → ⊥))
  few_exactly = exactly_test (few g) TooMany few_so (λ f. rw (le-leb _ _ f.subjobs, le-leb _ _ f.arcs))

  module _ (n : ℕ) where
    pub one_length_lem : one_length g n ≡ true → OneLength g n
    one_length_lem e =
        let b = both e in
        let a = both b.0 in
        record { results = eqb-true _ _ a.0; afters = eqb-true _ _ a.1; hops = eqb-true _ _ b.1 }

    lengths_exactly : Exactly (unless (one_length g n) Lengths) (OneLength g n) (λ r. (r ≡ Lengths) × (OneLength g n → ⊥))
    lengths_exactly =
        exactly_test (one_length g n) Lengths one_length_lem
        (λ l. rw (eq-eqb _ _ l.results, eq-eqb _ _ l.afters, eq-eqb _ _ l.hops))

    -- 1, 2, 3 and 20
    abbrev Unsound : Reason → Type 0
    Unsound r =
        ((r ≡ Lengths) × (OneLength g n → ⊥))
        ⊎ (OneLength g n
        × (((r ≡ TooMany) × (Few g → ⊥))
        ⊎ (Few g
        × (Out (InRange g) (λ p. Range p fields.Execution) (size g) r
        ⊎ (All (InRange g) (size g)
        × (Out (HopInRange g) (λ a. Range a fields.Hop) (arcs g) r
        ⊎ (All (HopInRange g) (arcs g) × Out (Named g) Stray (arcs g) r)))))))

    sound_exactly : Exactly (judgement g n) (Sound g n) Unsound
    unfolding judgement
    sound_exactly =
        exactly_so
        (exactly_or lengths_exactly (exactly_or few_exactly (exactly_or executions_exactly (exactly_or hops_exactly arcs_exactly))))
        (λ h. record { lengths = h.0; few = h.1.0; executions = h.1.1.0; hops = h.1.1.1.0; named = h.1.1.1.1 })
        (λ s. (s.lengths, (s.few, (s.executions, (s.hops, s.named)))))
        (λ r q. q)
        (λ r q. q)

    pub sound : judgement g n ≡ Ok tt → Sound g n
    sound = (passing sound_exactly).0

    -- and 21
    pub answered : Exactly (answer g n) (Fit g n) (Faulty g n)
    unfolding answer
    answered =
        exactly_so
        (exactly_then sound_exactly
        (λ s.
        exactly_unless (not (cyclic g)) Cycle
        (λ e c. clash (cycle_seen g s c) (not-true (cyclic g) e))
        (λ e. cyclic_so g (not-false (cyclic g) e))
        (λ n c. n c)))
        (λ h. record { sound = h.0; acyclic = h.1 })
        (λ f. (f.sound, f.acyclic))
        (λ r q. split q (unsound r) (λ h. rw h.1.0 (cycle h.0 h.1.1)))
        faulty
      where
        unsound : (r : Reason) → Unsound r → Faulty g n r
        unsound r q =
            split q (λ h. rw h.0 (lengths h.1))
            (λ l.
            split l.1 (λ h. rw h.0 (many l.0 h.1))
            (λ m.
            split m.1 (λ h. rw h.3.0 (range h.0 l.0 m.0 h.1 h.2 h.3.1))
            (λ c.
            split c.1 (λ h. rw h.3.0 (delay h.0 l.0 m.0 c.0 h.1 h.2 h.3.1))
            (λ d. let h = d.1 in rw h.3.0 (stray h.0 l.0 m.0 c.0 d.0 h.1 h.2 h.3.1)))))

        faulty : (r : Reason) → Faulty g n r → Unsound r ⊎ (Sound g n × ((r ≡ Cycle) × graphs.Cycle g))
        faulty _ (lengths n) = inl (inl (refl, n))
        faulty _ (many l n) = inl (inr (l, inl (refl, n)))
        faulty _ (range p l m b all n) = inl (inr (l, inr (m, inl (p, b, all, (refl, n)))))
        faulty _ (delay a l m c b all n) = inl (inr (l, inr (m, inr (c, inl (a, b, all, (refl, n))))))
        faulty _ (stray a l m c d b all n) = inl (inr (l, inr (m, inr (c, inr (d, (a, b, all, (refl, n)))))))
        faulty _ (cycle s c) = inr (s, (refl, c))

    pub found_exactly : (answer g n ≡ Ok tt) ↔ Fit g n
    found_exactly = passing answered

    pub refused_exactly : (r : Reason) → (answer g n ≡ Err r) ↔ Faulty g n r
    refused_exactly = refusing answered

    -- A place or an arc that is reported is one of 1,024.
    pub refused_within : (r : Reason) → answer g n ≡ Err r → place_of r < 1_024
    refused_within r e = within_arcs ((refused_exactly r).0 e)
      where
        within_arcs : {r : Reason} → Faulty g n r → place_of r < 1_024
        within_arcs (lengths w) = omega arith
        within_arcs (many l w) = omega arith
        within_arcs (range p l m b all w) = omega (arith, m.subjobs)
        within_arcs (delay a l m c b all w) = omega (arith, m.arcs)
        within_arcs (stray a l m c d b all w) = omega (arith, m.arcs)
        within_arcs (cycle s c) = omega arith
