-- Executions in release order, and tails of them added up: one, number by number, and all, one after the other.
use Prim.Native.Nat.{ℕ, zero, suc, ◌+◌, ◌-◌, ◌*◌, ◌<◌, ◌≤◌}
use mathlib.Core.List.{List, [], ◌∷◌, map}
use Rattle.std.specs.Prelude.{sum}
use Rattle.std.proofs.lemmas.List.Recursion.{is_sum_by}
use Rattle.std.proofs.lemmas.List.Sums.{sum-map}
use mathlib.Core.Path.{◌≡◌, refl, sym, ap, ◌∙◌}
use native.Mathlib.Omega.{arith}
use lib.ListN.{length, take, drop, set, length-drop, length-map}
use lib.Seq.{drop-cons, drop-drop, drop-set-lt, take_all, take-set-lt}
use Rattle.lists.specs.Places.{weight, Every}
use Rattle.lists.proofs.Mapped.{at_map, take_more, part_within}
use Rattle.lists.proofs.Members.{every_at, every_drop}
use Rattle.lists.proofs.Sums.{weight-nil, weight-cons}
use Rattle.olda.specs.Parts.{at, completes, completions, Ranged, Tail, Tails}

weight_most : (rs cs xs : List ℕ) → Every (Ranged rs cs) xs → weight (at cs) xs ≤ 1_000_000 * length xs
weight_most rs cs [] e = omega (arith, weight-nil (at cs))
weight_most rs cs (x ∷ xs) e =
    omega (arith, weight-cons (at cs) x xs, weight_most rs cs xs e.1, e.0.execution)

-- No tail completes later than 128 sub-jobs in their ranges can make it.
pub tail_most : {rs cs xs : List ℕ} → Tail rs cs xs → completes (at rs) (at cs) xs ≤ 1_128_000_000
tail_most {rs} {cs} {xs} t =
    omega (arith, weight_most rs cs xs t.each, (every_at (Ranged rs cs) xs 0 t.some t.each).release, t.few)

-- One more execution is in es.
pub ordered_more :
    (cs xs es : List ℕ) {i : ℕ}
    → i < length xs
    → length xs ≤ length es
    → take i es ≡ take i (map (at cs) xs)
    → take (i + 1) (set es i (at cs (at xs i))) ≡ take (i + 1) (map (at cs) xs)
ordered_more cs xs es {i} h r s =
    rw (← at_map (at cs) xs i h) (take_more es (map (at cs) xs) i (omega arith) (omega (arith, length-map xs (at cs))) s)

sum_weight : (f : ℕ → ℕ) (xs : List ℕ) → sum (map f xs) ≡ weight f xs
sum_weight f xs = sum-map f xs ∙ sym (is_sum_by (weight f) f (weight-nil f) (weight-cons f) xs)

drop-map : (f : ℕ → ℕ) (xs : List ℕ) (i : ℕ) → drop i (map f xs) ≡ map f (drop i xs)
drop-map f xs zero = refl
drop-map f [] (suc i) = refl
drop-map f (x ∷ xs) (suc i) = drop-map f xs i

module _ (r c : ℕ → ℕ) where
  pub completions-length : (xs : List ℕ) → length (completions r c xs) ≡ length xs
  unfolding completions
  completions-length [] = refl
  completions-length (x ∷ xs) = ap suc (completions-length xs)

  pub completions-at : (xs : List ℕ) (i : ℕ) → i < length xs → at (completions r c xs) i ≡ completes r c (drop i xs)
  unfolding completions
  completions-at [] i h = absurd (omega arith)
  completions-at (x ∷ xs) zero h = refl
  completions-at (x ∷ xs) (suc i) h = completions-at xs i (omega arith)

-- The tails of xs, of which i have their completions in es; from there on it holds executions.
pub record Summed (rs cs xs es : List ℕ) (i : ℕ) : Type 0 where
  pub done : take i es ≡ take i (completions (at rs) (at cs) xs)
  pub left : drop i (take (length xs) es) ≡ drop i (map (at cs) xs)

module _ {rs cs xs old es : List ℕ} {i : ℕ} (t : Tails rs cs xs old) (s : Summed rs cs xs es i) where
  module _ (h : i < length xs) where
    -- The tail that starts at i, as it is handed on.
    whole : at rs (at xs i) + sum (take (length xs - i) (drop i es)) ≡ completes (at rs) (at cs) (drop i xs)
    whole =
        rw (part_within es (length xs) i (omega arith), s.left, drop-map (at cs) xs i, sum_weight (at cs) (drop i xs), drop-cons xs i 0 h)

    pub summed_small : at rs (at xs i) + sum (take (length xs - i) (drop i es)) < 4_294_967_296
    summed_small =
        let u : Tail rs cs (drop i xs) =
        record {
          some = simp length-drop (omega arith);
          few = simp length-drop (omega (arith, t.few));
          each = every_drop (Ranged rs cs) i xs t.each;
        } in
        omega (arith, whole, tail_most u)

    pub summed_more : {m : ℕ} → length es ≡ length old → m ≡ at rs (at xs i) + sum (take (length xs - i) (drop i es)) → Summed rs cs xs (set es i m) (i + 1)
    summed_more {m} r f =
        let c = completions (at rs) (at cs) xs in
        record {
          done = rw (f, whole, ← completions-at (at rs) (at cs) xs i h)
              (take_more es c i (omega (arith, t.room)) (omega (arith, completions-length (at rs) (at cs) xs)) s.done);
          left =
              rw (take-set-lt (length xs) es i m h, drop-set-lt (i + 1) (take (length xs) es) i m (omega arith))
              (sym (drop-drop 1 i (take (length xs) es)) ∙ ap (drop 1) s.left ∙ drop-drop 1 i (map (at cs) xs));
        }

pub summed_all : {rs cs xs es : List ℕ} {i : ℕ} → Summed rs cs xs es i → i ≡ length xs → take (length xs) es ≡ completions (at rs) (at cs) xs
summed_all {rs} {cs} {xs} s e =
    rw e at s.done ∙ take_all (length xs) (completions (at rs) (at cs) xs) (omega (arith, completions-length (at rs) (at cs) xs))
