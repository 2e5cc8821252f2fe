-- The completions that the code holds: what they say of the tails, of `best` and of `base`, and what becomes of them when
-- a sub-job leaves.
use Prim.Native.Nat.{ℕ, zero, suc, ◌+◌, ◌-◌, ◌<◌, ◌≤◌}
use mathlib.Core.List.{List, [], ◌∷◌}
use mathlib.Core.Path.{◌≡◌, refl, ap}
use native.Mathlib.Omega.{arith}
use borrow.Author.Count.{below_more}
use borrow.Author.Tests.{lt-ltb, le-ltb}
use lib.ListN.{length, drop}
use Rattle.lists.specs.Places.{weight}
use Rattle.lists.proofs.Members.{in_at}
use Rattle.lists.proofs.Sums.{weight_in}
use Rattle.rules.specs.Method.{best, base}
use Rattle.olda.specs.Parts.{at, rest, lessened, completions, Greatest}
use Rattle.olda.proofs.Adding.{completions-length}

-- The latest of the greatest of the first i numbers stands at k.
pub record Leading (ns : List ℕ) (k i : ℕ) : Type 0 where
  pub inside : k < i
  pub most : (j : ℕ) → j < i → at ns j ≤ at ns k
  pub latest : (j : ℕ) → k < j → j < i → at ns j < at ns k

module _ {ns : List ℕ} {k i : ℕ} (l : Leading ns k i) where
  module _ (h : i < length ns) where
    pub leading_new : at ns k ≤ at ns i → Leading ns i (i + 1)
    leading_new e =
        record {
          inside = omega arith;
          most = below_more (λ j. at ns j ≤ at ns i) i (λ j q. omega (arith, e, l.most j q)) (omega arith);
          latest = λ j q w. absurd (omega arith);
        }

    pub leading_old : at ns i < at ns k → Leading ns k (i + 1)
    leading_old e =
        record {
          inside = omega (arith, l.inside);
          most = below_more (λ j. at ns j ≤ at ns k) i l.most (omega arith);
          latest = λ j q w. below_more (λ n. k < n → at ns n < at ns k) i (λ n b v. l.latest n v b) (λ v. e) j w q;
        }

weight-rest : (f : ℕ → ℕ) (xs : List ℕ) (k : ℕ) → k < length xs → weight f (rest k xs) + f (at xs k) ≡ weight f xs
unfolding weight
weight-rest f [] k h = absurd (omega arith)
weight-rest f (x ∷ xs) zero h = omega arith
weight-rest f (x ∷ xs) (suc k) h = let ih = weight-rest f xs k (omega arith) in omega arith

module _ (r c : ℕ → ℕ) where
  -- A tail's completion holds the execution of each of its sub-jobs.
  completions_hold : (xs : List ℕ) (k i : ℕ) → k < length xs → i < k → c (at xs k) ≤ at (completions r c xs) i
  unfolding completions
  completions_hold [] k i h l = absurd (omega arith)
  completions_hold (x ∷ xs) zero i h l = absurd (omega arith)
  completions_hold (x ∷ xs) (suc k) zero h l = omega (arith, weight_in c (x ∷ xs) (in_at (x ∷ xs) (suc k) h))
  completions_hold (x ∷ xs) (suc k) (suc i) h l = completions_hold xs k i (omega arith) (omega arith)

  -- When a sub-job leaves, the tails that it was in are shorter by its execution and the one that it starts is gone.
  completions-rest : (xs : List ℕ) (k : ℕ) → k < length xs → rest k (lessened k (c (at xs k)) (completions r c xs)) ≡ completions r c (rest k xs)
  unfolding completions weight
  completions-rest [] k h = absurd (omega arith)
  completions-rest (x ∷ xs) zero h = refl
  completions-rest (x ∷ xs) (suc k) h =
      let w = weight-rest c xs k (omega arith) in
      let z : r x + (c x + weight c xs) - c (at xs k) ≡ r x + (c x + weight c (rest k xs)) = omega arith in
      rw (z, completions-rest xs k (omega arith))

  -- The same of a list that is the completions; v is the execution of the sub-job at k.
  module _ (xs es : List ℕ) (k v : ℕ) (e : es ≡ completions r c xs) (h : k < length xs) (q : c (at xs k) ≡ v) where
    pub held_enough : (i : ℕ) → i < k → v ≤ at es i
    held_enough i j = omega (arith, completions_hold xs k i h j, ap (λ (ms : List ℕ). at ms i) e)

    pub held_rest : rest k (lessened k v es) ≡ completions r c (rest k xs)
    held_rest = rw (e, ← q) (completions-rest xs k h)

  -- Completions below m leave `best` below it.
  best_below : (xs : List ℕ) (m : ℕ) → 0 < m → ((j : ℕ) → j < length xs → at (completions r c xs) j < m) → best r c xs < m
  unfolding best completions
  best_below [] m h f = h
  best_below (x ∷ xs) m h f = omega (arith, f 0 (omega arith), best_below xs m h (λ j l. f (suc j) (omega arith)))

  -- The latest of the greatest completions is `best`, and its tail is `base`.
  pub greatest_tail :
      (xs : List ℕ) (k : ℕ)
      → 1 ≤ at (completions r c xs) k
      → Greatest (completions r c xs) k
      → (at (completions r c xs) k ≡ best r c xs) × (drop k xs ≡ base r c xs)
  unfolding best base completions
  greatest_tail [] k o g = absurd (omega (arith, g.inside))
  greatest_tail (x ∷ xs) zero o g =
      let l = best_below xs (r x + weight c (x ∷ xs)) o (λ j q. g.latest (suc j) (omega arith) (omega (arith, completions-length r c xs))) in
      (omega arith, rw (lt-ltb _ _ l))
  greatest_tail (x ∷ xs) (suc k) o g =
      let w =
      greatest_tail xs k o
      record {
        inside = omega (arith, g.inside);
        most = λ j q. g.most (suc j) (omega arith);
        latest = λ j q l. g.latest (suc j) (omega arith) (omega arith);
      }
      in
      let m = g.most 0 (omega arith) in
      (omega (arith, w.0), rw (le-ltb (best r c xs) (r x + weight c (x ∷ xs)) (omega (arith, w.0))) w.1)
