-- The choice of one of a list, one after the other: the base sub-job.
use Prim.Native.Nat.{ℕ, ◌+◌, ◌<◌, ◌≤◌}
use mathlib.Core.Bool.{Bool, true, false, cond}
use mathlib.Core.List.{List}
use mathlib.Core.Logic.{◌⊎◌}
use mathlib.Core.Option.{some}
use mathlib.Core.Path.{◌≡◌, refl, ◌∙◌}
use native.Mathlib.Numerals.{add-one}
use native.Mathlib.Omega.{arith}
use borrow.Author.Tests.{lt-ltb, le-ltb}
use lib.ListN.{length, drop, drop_of_length-le}
use lib.Seq.{drop-cons}
use Rattle.lists.specs.Order.{reversed, ahead, choose}
use Rattle.lists.proofs.Cases.{split}
use Rattle.subjobs.specs.Sets.{by_pair}
use Rattle.olda.specs.Parts.{at, lower_by, Choosing, Chosen}

-- Of the first i of xs p is chosen: against those left it is the choice of all.
pub record Ahead (lt : ℕ → ℕ → Bool) (xs : List ℕ) (p i : ℕ) : Type 0 where
  pub same : choose lt xs ≡ some (ahead lt p (drop i xs))

module _ (lt : ℕ → ℕ → Bool) (xs : List ℕ) where
  ahead_first : 0 < length xs → Ahead lt xs (at xs 0) 1
  unfolding choose
  ahead_first h = record { same = rw (drop-cons xs 0 0 h) }

  module _ {p i : ℕ} (a : Ahead lt xs p i) where
    module _ (h : i < length xs) where
      step : choose lt xs ≡ some (ahead lt (cond (lt (at xs i) p) (at xs i) p) (drop (i + 1) xs))
      unfolding ahead
      step = rw add-one (rw (drop-cons xs i 0 h) at a.same)

      ahead_new : lt (at xs i) p ≡ true → Ahead lt xs (at xs i) (i + 1)
      ahead_new t = record { same = rw t at step }

      ahead_old : lt (at xs i) p ≡ false → Ahead lt xs p (i + 1)
      ahead_old t = record { same = rw t at step }

    ahead_all : length xs ≤ i → choose lt xs ≡ some p
    unfolding ahead
    ahead_all h = rw (drop_of_length-le xs h) at a.same

-- The order of raised bounds: the greater bound, or an equal one and the pair behind.
module _ (us js ks : List ℕ) (p q : ℕ) where
  lower_more : at us p < at us q → lower_by us js ks p q ≡ true
  lower_more l = rw (lt-ltb (at us p) (at us q) l)

  lower_less : at us q < at us p → lower_by us js ks p q ≡ false
  lower_less l = rw (le-ltb (at us p) (at us q) (omega arith), lt-ltb (at us q) (at us p) l)

  lower_same : at us p ≡ at us q → lower_by us js ks p q ≡ by_pair (at js) (at ks) p q
  lower_same e = rw (le-ltb (at us p) (at us q) (omega arith), le-ltb (at us q) (at us p) (omega arith))

-- The base sub-job of the first i of xs stands at k, and its bound is `top`.
pub record Topped (xs us js ks : List ℕ) (k top i : ℕ) : Type 0 where
  pub inside : k < length xs
  pub bound : top ≡ at us (at xs k)
  pub best : Ahead (reversed (lower_by us js ks)) xs (at xs k) i

pub topped_one : {xs us js ks : List ℕ} {n : ℕ} → Choosing xs us n → Topped xs us js ks 0 (at us (at xs 0)) 1
topped_one {xs} {us} {js} {ks} a =
    record { inside = a.some; bound = refl; best = ahead_first (reversed (lower_by us js ks)) xs a.some }

module _ {xs us js ks : List ℕ} {k top i : ℕ} (t : Topped xs us js ks k top i) where
  module _ (h : i < length xs) where
    pub topped_new :
        (top < at us (at xs i)) ⊎ ((top ≡ at us (at xs i)) × (by_pair (at js) (at ks) (at xs k) (at xs i) ≡ true))
        → Topped xs us js ks i (at us (at xs i)) (i + 1)
    topped_new w =
        record {
          inside = h;
          bound = refl;
          best = ahead_new (reversed (lower_by us js ks)) xs t.best h
              (split (rw t.bound at w) (λ l. lower_more us js ks _ _ l) (λ l. lower_same us js ks _ _ l.0 ∙ l.1));
        }

    pub topped_old :
        (at us (at xs i) < top) ⊎ ((top ≡ at us (at xs i)) × (by_pair (at js) (at ks) (at xs k) (at xs i) ≡ false))
        → Topped xs us js ks k top (i + 1)
    topped_old w =
        record {
          inside = t.inside;
          bound = t.bound;
          best = ahead_old (reversed (lower_by us js ks)) xs t.best h
              (split (rw t.bound at w) (λ l. lower_less us js ks _ _ l) (λ l. lower_same us js ks _ _ l.0 ∙ l.1));
        }

  pub topped_all : length xs ≤ i → Chosen xs us js ks k
  topped_all h = record { inside = t.inside; last = ahead_all (reversed (lower_by us js ks)) xs t.best h }
