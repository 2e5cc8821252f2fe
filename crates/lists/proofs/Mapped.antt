-- Lists read place by place: numbers held in the order of a list of places, `map f xs`; the places of a set; one number
-- more of a copy; the first of many equal numbers; a part from the middle.
use Prim.Native.Nat.{ℕ, zero, suc, ◌+◌, ◌-◌, ◌<◌, ◌≤◌}
use mathlib.Core.List.{List, [], ◌∷◌, map}
use mathlib.Core.Path.{◌≡◌, refl, sym, ap, ◌∙◌}
use native.Mathlib.Omega.{arith}
use native.Mathlib.Nat.{sub-zero}
use native.Mathlib.Numerals.{add-one}
use lib.ListN.{length, get_or, take, drop, set, replicate, length-map}
use lib.Seq.{take-nil, take-suc, take-suc-set, length-take-le, get_or-take, ext_get_or}
use Rattle.lists.specs.Places.{from, places}
use Rattle.lists.proofs.Members.{from-length}

pub at_map : (f : ℕ → ℕ) (xs : List ℕ) (i : ℕ) → i < length xs → get_or (map f xs) i 0 ≡ f (get_or xs i 0)
at_map f [] i h = absurd (omega arith)
at_map f (x ∷ xs) zero h = refl
at_map f (x ∷ xs) (suc i) h = at_map f xs i (omega arith)

from_at : (k n i : ℕ) → i < n → get_or (from k n) i 0 ≡ k + i
unfolding from
from_at k zero i h = absurd (omega arith)
from_at k (suc n) zero h = omega arith
from_at k (suc n) (suc i) h = from_at (suc k) n i (omega arith) ∙ omega arith

pub places_at : (n i : ℕ) → i < n → get_or (places n) i 0 ≡ i
places_at n i h = from_at 0 n i h ∙ omega arith

-- One number more is the same in both lists.
pub take_more : (a b : List ℕ) (i : ℕ) → i < length a → i < length b → take i a ≡ take i b → take (i + 1) (set a i (get_or b i 0)) ≡ take (i + 1) b
take_more a b i h l e = rw (add-one, take-suc-set a i (get_or b i 0) h, take-suc b i 0 l, e)

pub take-replicate : (n m a : ℕ) → n ≤ m → take n (replicate m a) ≡ replicate n a
take-replicate zero m a h = refl
take-replicate (suc n) zero a h = absurd (omega arith)
take-replicate (suc n) (suc m) a h = ap (λ (l : List ℕ). a ∷ l) (take-replicate n m a (omega arith))

pub zeros_at : (n i : ℕ) → get_or {A = ℕ} (replicate n 0) i 0 ≡ 0
zeros_at zero i = refl
zeros_at (suc n) zero = refl
zeros_at (suc n) (suc i) = zeros_at n i

-- The numbers of the first n places, if they are known one by one.
pub take-map : (f : ℕ → ℕ) (xs : List ℕ) (n : ℕ) → n ≤ length xs → ((i : ℕ) → i < n → get_or xs i 0 ≡ f i) → take n xs ≡ map f (places n)
take-map f xs n h e =
    let l : length (take n xs) ≡ n = length-take-le n xs h in
    let k : length (places n) ≡ n = from-length 0 n in
    ext_get_or 0 (take n xs) (map f (places n)) (l ∙ sym (length-map (places n) f ∙ k))
    (λ i b.
    let j : i < n = omega arith in
    get_or-take n xs i 0 j ∙ e i j ∙ sym (at_map f (places n) i (omega arith) ∙ ap f (places_at n i j)))

-- A part from k to n of a list is the tail from k on of its first n.
pub part_within : (l : List ℕ) (n k : ℕ) → k ≤ n → take (n - k) (drop k l) ≡ drop k (take n l)
part_within l n zero h = rw sub-zero
part_within [] zero (suc k) h = absurd (omega arith)
part_within [] (suc n) (suc k) h = take-nil (suc n - suc k)
part_within (x ∷ l) zero (suc k) h = absurd (omega arith)
part_within (x ∷ l) (suc n) (suc k) h =
    let z : suc n - suc k ≡ n - k = omega arith in rw z (part_within l n k (omega arith))
