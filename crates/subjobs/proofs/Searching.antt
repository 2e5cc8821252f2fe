-- The refusal of the smallest place, one place after the other: what a loop holds is that the places left decide as all do.
use Prim.Native.Nat.{ℕ, zero, suc, ◌+◌, ◌-◌, ◌<◌, ◌≤◌}
use mathlib.Core.Path.{◌≡◌, refl, sym, ap, ◌∙◌}
use native.Mathlib.Nat.{sub-zero}
use native.Mathlib.Numerals.{add-one}
use native.Mathlib.Omega.{arith}
use Rattle.lists.proofs.Count.{left_more, left_none}
use Rattle.subjobs.specs.Judging.{Judgement, passed}
use Rattle.std.specs.Prelude.{Err, Bool, not, Option, Some, None}
use Rattle.std.specs.List.{find, range_with_len}
use Rattle.std.specs.Option.{MatchOption, option_map_or}
use Rattle.lists.proofs.Cases.{test}
use Rattle.subjobs.specs.declared.Reason.{Reason}
use Rattle.subjobs.specs.Judging.{unless, or_else, refusal_from, first_refusal}

module _ (J : ℕ → Judgement) (n i : ℕ) where
  pub refusal_step : i < n → refusal_from J (n - i) i ≡ or_else (J i) (refusal_from J (n - (i + 1)) (i + 1))
  unfolding refusal_from
  refusal_step h = rw (left_more n i h, add-one)

  pub refusal_done : n ≤ i → refusal_from J (n - i) i ≡ passed
  unfolding refusal_from
  refusal_done h = rw (left_none n i h)

-- The same for what a loop holds: after a turn at place i, and at the end.
module _ (J : ℕ → Judgement) (n i : ℕ) {all : Judgement} (held : refusal_from J (n - i) i ≡ all) where
  pub refusal_turn : {j : Judgement} → i < n → J i ≡ j → or_else j (refusal_from J (n - (i + 1)) (i + 1)) ≡ all
  refusal_turn {j} h e = ap (λ (a : Judgement). or_else a (refusal_from J (n - (i + 1)) (i + 1))) (sym e) ∙ sym (refusal_step J n i h) ∙ held

  pub refusal_end : n ≤ i → passed ≡ all
  refusal_end h = sym (refusal_done J n i h) ∙ held

-- A loop that goes on while nobody is refused: what is left to look at decides the whole search.
pub record Seeking (J : ℕ → Judgement) (n i : ℕ) : Type 0 where
  pub place : i ≤ n
  pub rest : refusal_from J (n - i) i ≡ first_refusal J n

pub seek_start : (J : ℕ → Judgement) (n : ℕ) → Seeking J n 0
seek_start J n = record { place = omega arith; rest = rw sub-zero }

module _ {J : ℕ → Judgement} {n i : ℕ} (S : Seeking J n i) where
  pub seek_found : i < n → (r : Reason) → J i ≡ Err r → Err r ≡ first_refusal J n
  seek_found h r e = refusal_turn J n i S.rest h e

  pub seek_on : i < n → J i ≡ passed → Seeking J n (i + 1)
  seek_on h e = record { place = omega arith; rest = refusal_turn J n i S.rest h e }

  pub seek_done : n ≤ i → passed ≡ first_refusal J n
  seek_done h = refusal_end J n i S.rest h

-- A search may start behind a first place that passes.
pub refusal_second : (J : ℕ → Judgement) (n : ℕ) → J 0 ≡ passed → refusal_from J (n - 1) 1 ≡ refusal_from J n 0
unfolding refusal_from
refusal_second J zero e = refl
refusal_second J (suc n) e = let z : suc n - 1 ≡ n = omega arith in rw (z, e)

-- A search by `find`: what it finds is refused.
pub refusal_found :
    (J : ℕ → Judgement) (T : ℕ → Bool) (w : ℕ → Reason) → ((k : ℕ) → J k ≡ unless (not (T k)) (w k))
    → (n i : ℕ) → refusal_from J n i ≡ option_map_or (λ k. Err (w k)) (find T (range_with_len i n)) passed
unfolding refusal_from
refusal_found J T w same zero i = refl
refusal_found J T w same (suc n) i =
    test (T i) (λ t. rw (same i, t)) (λ t. rw (same i, t, add-one, refusal_found J T w same n (suc i)))

-- What `map_or` makes of it.
pub matched : (w : ℕ → Reason) (o : Option ℕ) (r : Judgement) → MatchOption o (r ≡ passed) (λ k. r ≡ Err (w k)) → r ≡ option_map_or (λ k. Err (w k)) o passed
matched w None r h = h
matched w (Some k) r h = h
