-- Lists written one number after the other: as far as the loop got, the array is what it is to be.
use Prim.Native.Nat.{ℕ, ◌+◌, ◌<◌, ◌≤◌}
use mathlib.Core.List.{List}
use mathlib.Core.Path.{◌≡◌, refl, sym, ◌∙◌}
use native.Mathlib.Omega.{arith}
use lib.ListN.{length, get_or, take, set, length-set}
use lib.Seq.{take_all}
use Rattle.lists.proofs.Mapped.{take_more}

-- The first n numbers of b go into a; i of them are there.
pub record Copied (a b : List ℕ) (n i : ℕ) : Type 0 where
  pub most : i ≤ n
  pub room : n ≤ length a
  pub enough : n ≤ length b
  pub same : take i a ≡ take i b

pub copied_none : (a b : List ℕ) (n : ℕ) → n ≤ length a → n ≤ length b → Copied a b n 0
copied_none a b n h l = record { most = omega arith; room = h; enough = l; same = refl }

pub copied_next : {a b : List ℕ} {n i v : ℕ} → Copied a b n i → i < n → v ≡ get_or b i 0 → Copied (set a i v) b n (i + 1)
copied_next {a} {b} {n} {i} k h e =
    record {
      most = omega arith;
      room = simp length-set (omega arith);
      enough = omega arith;
      same = rw e (take_more a b i (omega arith) (omega arith) k.same);
    }

pub copied_all : {a b : List ℕ} {n i : ℕ} → Copied a b n i → n ≤ i → take n a ≡ take n b
copied_all {n = n} {i = i} k h = let z : i ≡ n = omega arith in rw z at k.same

pub copied_whole : {a b : List ℕ} {n i : ℕ} → Copied a b n i → n ≤ i → length a ≡ n → a ≡ take n b
copied_whole {a} {n = n} k h l = sym (take_all n a (omega arith)) ∙ copied_all k h
