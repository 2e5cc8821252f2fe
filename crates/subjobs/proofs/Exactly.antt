-- What a judgement says, both ways: what holds exactly if it passes, and what exactly if it refuses for a reason. There is
-- one law for each word of which judgements are made: `unless`, `or_else` and `first_refusal`. After these they stay shut.
use Prim.Native.Nat.{ℕ, zero, suc, ◌+◌, ◌<◌, ◌≤◌}
use mathlib.Core.Bool.{Bool, true, false}
use mathlib.Core.Logic.{◌⊎◌, ◌↔◌, inl, inr}
use mathlib.Core.Path.{◌≡◌, refl, sym, ap, ◌∙◌, subst}
use native.Mathlib.Omega.{arith}
use lib.Dec.{eqb}
use Rattle.lists.proofs.Cases.{split, test, clash, tests}
use Rattle.lists.proofs.Searched.{onward}
use Rattle.subjobs.specs.Judging.{Judgement, passed}
use Rattle.std.specs.Prelude.{Err}
use Rattle.subjobs.specs.declared.Reason.{Reason}
use Rattle.subjobs.specs.Reasons.{number_of}
use Rattle.subjobs.specs.Judging.{unless, or_else, refusal_from, first_refusal}

-- P makes j pass, Q r makes it refuse for r, and one of these holds.
pub record Exactly (j : Judgement) (P : Type 0) (Q : Reason → Type 0) : Type 0 where
  pub passes : P → j ≡ passed
  pub refuses : (r : Reason) → Q r → j ≡ Err r
  pub holds : P ⊎ ((r : Reason) × Q r)

pub refused_passed : {X : Type 0} (r : Reason) → Err r ≡ passed → X
refused_passed r e = let z : ◌≡◌ {A = ℕ} 0 1 = cc in absurd (omega arith)

module _ {j : Judgement} {P : Type 0} {Q : Reason → Type 0} (x : Exactly j P Q) where
  pub passing : (j ≡ passed) ↔ P
  passing = (λ e. split x.holds (λ p. p) (λ q. refused_passed q.0 (sym (x.refuses q.0 q.1) ∙ e)), x.passes)

  pub refusing : (r : Reason) → (j ≡ Err r) ↔ Q r
  refusing r = (
    λ e.
        split x.holds (λ p. refused_passed r (sym e ∙ x.passes p))
        (λ q. let f = x.refuses q.0 q.1 in let g : q.0 ≡ r = cc in subst Q g q.1),
    x.refuses r,
  )

  -- The same in other words.
  pub exactly_so :
      {P' : Type 0} {Q' : Reason → Type 0}
      → (P → P')
      → (P' → P)
      → ((r : Reason) → Q r → Q' r)
      → ((r : Reason) → Q' r → Q r)
      → Exactly j P' Q'
  exactly_so to from there back =
      record {
        passes = λ p. x.passes (from p);
        refuses = λ r q. x.refuses r (back r q);
        holds = split x.holds (λ p. inl (to p)) (λ q. inr (q.0, there q.0 q.1));
      }

-- A test that says P, and N if it fails.
pub exactly_unless :
    {P N : Type 0} (b : Bool) (w : Reason) → (b ≡ true → P) → (b ≡ false → N) → (P → N → ⊥)
    → Exactly (unless b w) P (λ r. (r ≡ w) × N)
exactly_unless b w so not_so apart =
    test b
    (λ e. record { passes = λ p. rw e; refuses = λ r q. absurd (apart (so e) q.1); holds = inl (so e) })
    (λ e. record { passes = λ p. absurd (apart p (not_so e)); refuses = λ r q. rw (e, q.0); holds = inr (w, (refl, not_so e)) })

-- A test that says P.
pub exactly_test : {P : Type 0} (b : Bool) (w : Reason) → (b ≡ true → P) → (P → b ≡ true) → Exactly (unless b w) P (λ r. (r ≡ w) × (P → ⊥))
exactly_test b w so back = exactly_unless b w so (λ e p. clash (back p) e) (λ p n. n p)

-- The second is looked at only where the first passes, so it may stand on that.
pub exactly_then :
    {a b : Judgement} {P P' : Type 0} {Q Q' : Reason → Type 0} → Exactly a P Q → (P → Exactly b P' Q')
    → Exactly (or_else a b) (P × P') (λ r. Q r ⊎ (P × Q' r))
exactly_then x y =
    record {
      passes = λ p. rw (x.passes p.0) ((y p.0).passes p.1);
      refuses = λ r q. split q (λ h. rw (x.refuses r h)) (λ h. rw (x.passes h.0) ((y h.0).refuses r h.1));
      holds =
          split x.holds
          (λ p. split (y p).holds (λ p'. inl (p, p')) (λ q. inr (q.0, inr (p, q.1))))
          (λ q. inr (q.0, inl q.1));
    }

pub exactly_or :
    {a b : Judgement} {P P' : Type 0} {Q Q' : Reason → Type 0} → Exactly a P Q → Exactly b P' Q'
    → Exactly (or_else a b) (P × P') (λ r. Q r ⊎ (P × Q' r))
exactly_or x y = exactly_then x (λ p. y)

-- A search passes exactly if every place does, and refuses exactly for what the first place refused is refused for.
module _ (J : ℕ → Judgement) (P : ℕ → Type 0) (Q : ℕ → Reason → Type 0) (x : (k : ℕ) → Exactly (J k) (P k) (Q k)) where
  from_exactly :
      (n i : ℕ)
      → Exactly (refusal_from J n i) ((k : ℕ) → i ≤ k → k < i + n → P k)
      (λ r. (p : ℕ) × (i ≤ p) × (p < i + n) × ((k : ℕ) → i ≤ k → k < p → P k) × Q p r)
  unfolding refusal_from
  from_exactly zero i =
      record {
        passes = λ h. refl;
        refuses = λ r w. absurd (omega (arith, w.1, w.2));
        holds = inl (λ k lo hi. absurd (omega arith));
      }
  from_exactly (suc n) i =
      exactly_so (exactly_or (x i) (from_exactly n (suc i)))
      (λ h k lo hi. onward P i h.0 h.1 k lo (omega arith))
      (λ h. (h i (omega arith) (omega arith), λ k lo hi. h k (omega arith) (omega arith)))
      (λ r q.
      split q (λ h. (i, omega arith, omega arith, (λ k lo hi. absurd (omega arith)), h))
      (λ h. let w = h.1 in (w.0, omega (arith, w.1), omega (arith, w.2), onward P i h.0 w.3, w.4)))
      (λ r w.
      test (eqb w.0 i)
      (λ e. let q : w.0 ≡ i = omega tests in inl (subst (λ (k : ℕ). Q k r) q w.4))
      (λ e.
      let lo = w.1 in
      inr (w.3 i (omega arith) (omega tests), (w.0, omega tests, omega (arith, w.2), (λ k l h. w.3 k (omega arith) h), w.4))))

  pub exactly_first :
      (n : ℕ) → Exactly (first_refusal J n) ((k : ℕ) → k < n → P k) (λ r. (p : ℕ) × (p < n) × ((k : ℕ) → k < p → P k) × Q p r)
  exactly_first n =
      exactly_so (from_exactly n 0)
      (λ h k b. h k (omega arith) (omega arith))
      (λ h k lo hi. h k (omega arith))
      (λ r w. (w.0, omega (arith, w.2), (λ k b. w.3 k (omega arith) b), w.4))
      (λ r w. (w.0, omega arith, omega (arith, w.1), (λ k lo hi. w.2 k hi), w.3))

-- Two judgements that pass alike, and refuse by one number.
pub data SameNumber : Judgement → Judgement → Type 0 where
  pass : SameNumber passed passed
  refuse : {r r' : Reason} → number_of r ≡ number_of r' → SameNumber (Err r) (Err r')

pub same_or :
    {a a' b b' : Judgement} → SameNumber a a' → (a ≡ passed → SameNumber b b') → SameNumber (or_else a b) (or_else a' b')
same_or pass y = y refl
same_or (refuse e) y = refuse e

-- Where one refuses, so does the other.
pub same_refused :
    {j j' : Judgement} {r : Reason}
    → SameNumber j j'
    → j ≡ Err r
    → (r' : Reason) × (j' ≡ Err r') × (number_of r ≡ number_of r')
same_refused {r = r} pass e = refused_passed r (sym e)
same_refused {r = r} (refuse {r = q} {r' = r'} n) e = let g : r ≡ q = cc in (r', refl, ap number_of g ∙ n)

-- They are so if they pass alike and every reason of theirs has the number n.
pub same_exactly :
    (n : ℕ) {j j' : Judgement} {P P' : Type 0} {Q Q' : Reason → Type 0}
    → Exactly j P Q
    → Exactly j' P' Q'
    → (P → P')
    → (P' → P)
    → ((r : Reason) → Q r → number_of r ≡ n)
    → ((r : Reason) → Q' r → number_of r ≡ n)
    → SameNumber j j'
same_exactly n x y to from is is' =
    split x.holds
    (λ p. rw (x.passes p, y.passes (to p)) pass)
    (λ w.
    let e = x.refuses w.0 w.1 in
    split y.holds
    (λ p. refused_passed w.0 (sym e ∙ x.passes (from p)))
    (λ w'. rw (e, y.refuses w'.0 w'.1) (refuse (is w.0 w.1 ∙ sym (is' w'.0 w'.1)))))
