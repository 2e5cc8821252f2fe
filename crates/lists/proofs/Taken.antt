-- A rearrangement of the places of a set. It sends each place to the one that stands there, back again leads where a place
-- stands in it, and a list taken in its order has at each place what the list has there.
use Prim.Native.Nat.{ℕ, zero, suc, ◌<◌, ◌≤◌}
use mathlib.Core.Bool.{cond}
use mathlib.Core.List.{List, [], ◌∷◌, map, Memᴰ}
use mathlib.Core.Path.{◌≡◌, refl, sym, ap, ◌∙◌}
use native.Mathlib.Omega.{arith}
use borrow.Author.Tests.{eq-eqb, ne_eqb}
use lib.Dec.{eqb}
use lib.ListN.{length, get_or, length-map}
use lib.Seq.{ext_get_or}
use Rattle.lists.specs.Places.{places, weight, without, Nodup, Rearranges, taken}
use Rattle.lists.proofs.Members.{in_at, in_places, places_in, in_without, from-length, nodup_from}
use Rattle.lists.proofs.Sums.{weight-nil, weight-cons, weight_out, weight-length}
use Rattle.lists.proofs.Mapped.{at_map, places_at}
use Rattle.lists.proofs.Rearranged.{Same}
use Rattle.lists.proofs.Renamed.{Moved, moved_map}

-- A group in which nobody stands twice weighs no more than a group that has all of it.
weight_within :
    (f : ℕ → ℕ) (xs ys : List ℕ) → Nodup xs → ((i : ℕ) → Memᴰ i xs → Memᴰ i ys) → weight f xs ≤ weight f ys
weight_within f [] ys d of = omega (arith, weight-nil f)
weight_within f (x ∷ xs) ys d of =
    omega (
      arith,
      weight-cons f x xs,
      weight_out f x ys (of x (Memᴰ.head refl)),
      weight_within f xs (without x ys) d.1 (λ i m. in_without x ys (of i (Memᴰ.tail m)) (λ e. d.0 (rw e at m))),
    )

-- Of n places no more than n can stand in a list that has none twice.
pub few_places : (n : ℕ) (xs : List ℕ) → Nodup xs → ((i : ℕ) → Memᴰ i xs → i < n) → length xs ≤ n
few_places n xs d h =
    omega (
      arith,
      weight_within (λ i. 1) xs (places n) d (λ i m. in_places n i (h i m)),
      weight-length xs,
      weight-length (places n),
      from-length 0 n,
    )

-- Two lists with the same members, each once, are one group.
pub same_members :
    (xs ys : List ℕ)
    → Nodup xs
    → Nodup ys
    → ((i : ℕ) → Memᴰ i xs → Memᴰ i ys)
    → ((i : ℕ) → Memᴰ i ys → Memᴰ i xs)
    → Same xs ys
same_members xs ys d e to from f = omega (arith, weight_within f xs ys d to, weight_within f ys xs e from)

-- Where a place stands in a list.
pub standing : List ℕ → ℕ → ℕ
standing [] p = 0
standing (x ∷ xs) p = cond (eqb x p) 0 (suc (standing xs p))

standing_at : (xs : List ℕ) (k : ℕ) → Nodup xs → k < length xs → standing xs (get_or xs k 0) ≡ k
unfolding standing
standing_at [] k d h = absurd (omega arith)
standing_at (x ∷ xs) zero d h = rw (eq-eqb x x refl)
standing_at (x ∷ xs) (suc k) d h =
    rw (ne_eqb x (get_or xs k 0) (λ e. d.0 (rw e (in_at xs k (omega arith))))) (ap suc (standing_at xs k d.1 (omega arith)))

module _ (ps : List ℕ) (n : ℕ) (r : Rearranges ps n) where
  rearranges_same : Same ps (places n)
  rearranges_same =
      same_members ps (places n) r.0 (nodup_from 0 n) (λ i m. in_places n i ((r.1 i).0 m)) (λ i m. (r.1 i).1 (places_in n i m))

  pub rearranges_length : length ps ≡ n
  rearranges_length =
      omega (arith, rearranges_same (λ i. 1), weight-length ps, weight-length (places n), from-length 0 n)

  all_at : map (λ i. get_or ps i 0) (places (length ps)) ≡ ps
  all_at =
      let l = length-map (places (length ps)) (λ i. get_or ps i 0) ∙ from-length 0 (length ps) in
      ext_get_or 0 (map (λ i. get_or ps i 0) (places (length ps))) ps l
      (λ i h.
      at_map (λ j. get_or ps j 0) (places (length ps)) i (omega (arith, l, from-length 0 (length ps)))
      ∙ ap (λ (j : ℕ). get_or ps j 0) (places_at (length ps) i (omega (arith, l))))

  pub rearranges_places : map (λ i. get_or ps i 0) (places n) ≡ ps
  rearranges_places = ap (λ (m : ℕ). map (λ i. get_or ps i 0) (places m)) (sym rearranges_length) ∙ all_at

  -- It is a renaming of the places, and `standing` leads back.
  pub rearranges_moved : Moved (λ i. get_or ps i 0) (places n) (places n)
  rearranges_moved f =
      moved_map (λ i. get_or ps i 0) (places n) f ∙ ap (weight f) rearranges_places ∙ rearranges_same f

  pub rearranges_back : (i : ℕ) → Memᴰ i (places n) → standing ps (get_or ps i 0) ≡ i
  rearranges_back i m = standing_at ps i r.0 (omega (arith, places_in n i m, rearranges_length))

  pub taken-length : (xs : List ℕ) → length (taken ps xs) ≡ n
  taken-length xs = length-map ps (λ p. get_or xs p 0) ∙ rearranges_length

  pub taken_at : (xs : List ℕ) (i : ℕ) → i < n → get_or (taken ps xs) i 0 ≡ get_or xs (get_or ps i 0) 0
  taken_at xs i h = at_map (λ p. get_or xs p 0) ps i (omega (arith, rearranges_length))
