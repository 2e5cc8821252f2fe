-- A group in another order. Two lists are the same group if every sum over them is equal; then they have the same
-- members, and their subsets the same sums and the same least.
use Prim.Native.Nat.{ℕ}
use mathlib.Core.Bool.{Bool}
use mathlib.Core.List.{List, [], Memᴰ}
use mathlib.Core.Logic.{◌≢◌}
use mathlib.Core.Path.{◌≡◌, refl, sym}
use Rattle.lists.specs.Places.{filter, weight, least, Nodup}
use Rattle.lists.proofs.Renamed.{moved_filter, moved_in, moved_filled, moved_nil, moved_least, moved_nodup}

abbrev pub Same : List ℕ → List ℕ → Type 0
Same xs ys = (f : ℕ → ℕ) → weight f xs ≡ weight f ys

pub same_sym : (xs ys : List ℕ) → Same xs ys → Same ys xs
same_sym xs ys e f = sym (e f)

pub same_filter : (U : ℕ → Bool) (xs ys : List ℕ) → Same xs ys → Same (filter U xs) (filter U ys)
same_filter U xs ys e = moved_filter (λ i. i) xs ys e U

pub same_in : (xs ys : List ℕ) → Same xs ys → {i : ℕ} → Memᴰ i xs → Memᴰ i ys
same_in xs ys e m = moved_in (λ i. i) xs ys e m

pub same_filled : (xs ys : List ℕ) → Same xs ys → xs ≢ [] → ys ≢ []
same_filled xs ys e = moved_filled (λ i. i) xs ys e

pub same_nil : (xs ys : List ℕ) → Same xs ys → xs ≡ [] → ys ≡ []
same_nil xs ys e = moved_nil (λ i. i) xs ys e

pub same_least : (f : ℕ → ℕ) (xs ys : List ℕ) → Same xs ys → least f xs ≡ least f ys
same_least f xs ys e = moved_least (λ i. i) xs ys e f f (λ i m. refl)

pub same_nodup : (xs ys : List ℕ) → Same xs ys → Nodup xs → Nodup ys
same_nodup xs ys e = moved_nodup (λ i. i) xs ys e (λ i. i) (λ i m. refl)
