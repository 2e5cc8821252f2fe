-- What `min_by_key` gives of the places of a set: the choice of the rules, where keys are in their order.
use Prim.Native.Nat.{ℕ, zero, suc}
use native.Mathlib.Numerals.{add-one}
use mathlib.Core.Bool.{Bool, cond}
use mathlib.Core.List.{List, [], ◌∷◌, map-id}
use mathlib.Core.Path.{◌≡◌, refl, sym, ap, subst, ◌∙◌}
use borrow.Author.Tests.{lt-ltb, le-ltb}
use lib.Dec.{ltb, eqb}
use denote.Ref.{Bor}
use denote.Param.Members.{Mut}
use Rattle.std.proofs.Common.{Ordering, Less, Equal, Greater, Option, Some, None}
use Rattle.std.specs.Ordering.{min_by_ordering, nat_cmp}
use Rattle.lists.proofs.Cases.{test, tests}
use Rattle.std.specs.Fn.{CalledAt}
use Rattle.std.specs.List.{FoldsTo, range_with_len}
use Rattle.std.specs.Iterator.{KeyTurn, PicksMinByKey}
use Rattle.std.proofs.lemmas.Iterator.{YieldsList, items_from_drains}
use Rattle.lists.specs.Places.{places, from}
use Rattle.lists.specs.Order.{ahead, choose}
use Rattle.std.specs.Option.{MatchOption}
use Rattle.std.proofs.Math.Option.{none, some}

range-places : (a n : ℕ) → range_with_len a n ≡ from a n
unfolding from
range-places a zero = refl
range-places a (suc n) = rw (add-one, range-places (suc a) n)

abbrev pub Picked : (ℕ → ℕ → Bool) → List ℕ → Option ℕ → Type 0
Picked lt all r = MatchOption r (choose lt all ≡ none) (λ b. choose lt all ≡ some b)

-- What is known of a place and its key is `Key`; the order of any two places is that of their keys.
module _ {F : Type 0} (g : Mut F (Bor ℕ × Unit {0}) ℕ) (f : F) (Key : ℕ → ℕ → Type 0) (lt : ℕ → ℕ → Bool)
    (calls : (x k : ℕ) (q : F) → CalledAt g f x k q → (q ≡ f) × Key x k)
    (below : (i j a b : ℕ) → Key i a → Key j b → lt i j ≡ ltb a b) where
  keys : (o : Ordering) (p x a b : ℕ) → Key p a → Key x b → Key (min_by_ordering o p x) (min_by_ordering o a b)
  keys Less p x a b u v = u
  keys Equal p x a b u v = u
  keys Greater p x a b u v = v

  picks : (p x a b : ℕ) → Key p a → Key x b → min_by_ordering (nat_cmp a b) p x ≡ cond (lt x p) x p
  picks p x a b u v =
      rw (below x p b a v u)
      (test (ltb a b)
      (λ t. rw (t, le-ltb b a (omega tests)) refl)
      (λ t.
      test (eqb a b)
      (λ w. rw (t, w, le-ltb b a (omega tests)) refl)
      (λ w. rw (t, w, lt-ltb b a (omega tests)) refl)))

  turns :
      (xs : List ℕ) (e : F) (k p : ℕ) (q : (F × ℕ) × ℕ) → e ≡ f → Key p k
      → FoldsTo {P = (F × ℕ) × ℕ} (KeyTurn min_by_ordering min_by_ordering g nat_cmp) ((e, k), p) xs q
      → q.1 ≡ ahead lt p xs
  unfolding ahead
  turns [] e k p q a b c = ap (λ w. w.1) (sym c)
  turns (x ∷ xs) e k p q a b c =
      let t = c.1 in
      let m = calls x t.0 c.0.0.0 (subst (λ w. CalledAt g w x t.0 c.0.0.0) a t.2) in
      let n : c.0.1 ≡ cond (lt x p) x p = t.5 ∙ rw (← t.3) (picks p x k t.0 b m.1) in
      let l : Key c.0.1 c.0.0.1 = rw (t.4, t.5) (keys t.1 p x k t.0 b m.1) in
      turns xs c.0.0.0 c.0.0.1 c.0.1 q m.0 l c.2 ∙ ap (λ w. ahead lt w xs) n

  module _ {S : Type 0} {steps : S → Option ℕ → S → Type 0} {s : S} where
    picked :
        (all : List ℕ) (r : Option ℕ) → PicksMinByKey steps g nat_cmp s f r → YieldsList steps (λ x. x) s all
        → Picked lt all r
    unfolding choose
    picked all None d y =
        ap (choose lt) (sym (sym (map-id []) ∙ items_from_drains [] (d.1.0, d.1.1, λ w. (d.0, d.1.2)) y))
    picked all (Some b) d y =
        let m = calls d.0 d.2 d.3 d.6 in
        rw (← sym (map-id (d.0 ∷ d.1)) ∙ items_from_drains (d.0 ∷ d.1) (d.5.1.0, d.5.1.1, λ w. (d.5.0, d.5.1.2)) y)
        (ap some (sym (turns d.1 d.3 d.2 d.0 (d.4, b) m.0 m.1 d.7)))

    pub least_place :
        (n : ℕ) (r : Option ℕ) → PicksMinByKey steps g nat_cmp s f r → YieldsList steps (λ x. x) s (range_with_len 0 n)
        → Picked lt (places n) r
    least_place n r d y = picked (places n) r d (rw (range-places 0 n) at y)
