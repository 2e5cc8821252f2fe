-- Sets one after another: where each starts, what is asked set by set, and what is written set by set into one list, with w
-- entries for each sub-job.
use Prim.Native.Nat.{ℕ, zero, suc, ◌+◌, ◌*◌, ◌≤◌, ◌<◌}
use mathlib.Core.List.{List, [], ◌∷◌, ◌++◌, flatten, append_assoc, append-nil}
use mathlib.Core.Path.{◌≡◌, refl, sym, ap, ◌∙◌}
use native.Mathlib.Numerals.{add-one}
use native.Mathlib.Omega.{arith}
use lib.ListN.{length, get_or, take, drop, length-append, length-drop, drop_of_length-le, take-append-drop}
use lib.Seq.{take_all, take_at, drop_at, drop-cons, drop-drop, drop-append-add, length-take-le}
use Rattle.lists.specs.Places.{total}
use Rattle.lists.proofs.Sums.{weight-nil, weight-cons, total_left}
use Rattle.stretches.specs.Stretches.{stretch, replaced, start, each}

module _ {A : Type 0} (f : ℕ → ℕ → A) where
  pub each_nil : (a : ℕ) → each f a [] ≡ []
  unfolding each
  each_nil a = refl

  pub each-cons : (a n : ℕ) (ns : List ℕ) → each f a (n ∷ ns) ≡ f a n ∷ each f (a + n) ns
  unfolding each
  each-cons a n ns = refl

  pub each-length : (a : ℕ) (ns : List ℕ) → length (each f a ns) ≡ length ns
  each-length a [] = rw (each_nil a)
  each-length a (n ∷ ns) = rw (each-cons a n ns) (ap suc (each-length (a + n) ns))

  -- those that are left, from one set on
  pub each_left : (a : ℕ) (ns : List ℕ) (k : ℕ) → k < length ns
      → each f a (drop k ns) ≡ f a (get_or ns k 0) ∷ each f (a + get_or ns k 0) (drop (k + 1) ns)
  each_left a ns k h = rw (add-one, drop-cons ns k 0 h) (each-cons a (get_or ns k 0) (drop (suc k) ns))

-- What was asked of set k.
each_from :
    {A : Type 0} (f : ℕ → ℕ → A) (d : A) (a : ℕ) (ns : List ℕ) (k : ℕ) → k < length ns
    → get_or (each f a ns) k d ≡ f (a + start ns k) (get_or ns k 0)
each_from f d a [] k h = absurd (omega arith)
each_from f d a (n ∷ ns) zero h = rw (each-cons f a n ns, weight-nil (λ n. n)) (ap (λ (x : ℕ). f x n) (omega arith))
each_from f d a (n ∷ ns) (suc k) h =
    let e : a + n + start ns k ≡ a + start (n ∷ ns) (suc k) = omega (arith, weight-cons (λ n. n) n (take k ns)) in
    rw (each-cons f a n ns) (each_from f d (a + n) ns k (omega arith) ∙ ap (λ (x : ℕ). f x (get_or ns k 0)) e)

pub each_at :
    {A : Type 0} (f : ℕ → ℕ → A) (d : A) (ns : List ℕ) (k : ℕ) → k < length ns
    → get_or (each f 0 ns) k d ≡ f (start ns k) (get_or ns k 0)
each_at f d ns k h = each_from f d 0 ns k h ∙ ap (λ (x : ℕ). f x (get_or ns k 0)) (omega arith)

-- A set starts behind those before it, and those from it on make up the rest.
pub start_left : (ns : List ℕ) (k : ℕ) → start ns k + total (drop k ns) ≡ total ns
start_left [] zero = omega (arith, weight-nil (λ n. n))
start_left [] (suc k) = omega (arith, weight-nil (λ n. n))
start_left (n ∷ ns) zero = omega (arith, weight-nil (λ n. n))
start_left (n ∷ ns) (suc k) =
    omega (arith, start_left ns k, weight-cons (λ n. n) n (take k ns), weight-cons (λ n. n) n ns)

flatten-cons : (l : List ℕ) (ls : List (List ℕ)) → flatten (l ∷ ls) ≡ l ++ flatten ls
unfolding flatten
flatten-cons l ls = refl

flatten_nil : flatten {A = ℕ} [] ≡ []
unfolding flatten
flatten_nil = refl

-- The first k sets are written, the next one starts at a; what is behind is as found.
pub record Written (w : ℕ) (g : ℕ → ℕ → List ℕ) (ns old new : List ℕ) (a k : ℕ) : Type 0 where
  pub most : k ≤ length ns
  pub begun : a + total (drop k ns) ≡ total ns
  pub room : length new ≡ length old
  pub done : take (w * a) new ++ flatten (each g a (drop k ns)) ≡ flatten (each g 0 ns)
  pub rest : drop (w * a) new ≡ drop (w * a) old

module _ (w : ℕ) (g : ℕ → ℕ → List ℕ) (ns old : List ℕ) where
  pub written_none : Written w g ns old old 0 0
  written_none =
      let z : w * 0 ≡ 0 = omega arith in
      record { most = omega arith; begun = omega arith; room = refl; done = rw z; rest = refl }

  module _ (new : List ℕ) (a k : ℕ) (W : Written w g ns old new a k) where
    pub written_start : a ≡ start ns k
    written_start = omega (arith, W.begun, start_left ns k)

    -- The stretch of the next set is as found.
    pub written_stretch : (b m : ℕ) → b ≡ w * a → stretch b m new ≡ stretch b m old
    written_stretch b m e = ap (take m) (rw e W.rest)

    module _ (h : k < length ns) (n : ℕ) (en : n ≡ get_or ns k 0) where
      pub written_inside : a + n ≤ total ns
      written_inside = omega (arith, W.begun, total_left ns k h)

      pub written_more :
          (b m : ℕ) (v new' : List ℕ)
          → b ≡ w * a
          → m ≡ w * n
          → b + m ≤ length new
          → v ≡ g a n
          → length v ≡ m
          → new' ≡ replaced b m v new
          → Written w g ns old new' (a + n) (k + 1)
      written_more b m v new' eb em i ev lv e =
          let behind : w * (a + n) ≡ b + m = omega arith in
          let cut : new' ≡ take b new ++ v ++ drop (b + m) new =
          e ∙ ap (λ (l : List ℕ). take b new ++ (v ++ l)) (drop-drop m b new) ∙ sym (append_assoc (take b new) v (drop (b + m) new))
          in
          let front : length (take b new ++ v) ≡ b + m = length-append (take b new) v ∙ rw (length-take-le b new (omega arith), lv) in
          let next : v ++ flatten (each g (a + n) (drop (k + 1) ns)) ≡ flatten (each g a (drop k ns)) =
          rw (each_left g a ns k h, ← en, flatten-cons (g a n) (each g (a + n) (drop (k + 1) ns)), ev)
          in
          record {
            most = omega arith;
            begun = omega (arith, W.begun, total_left ns k h);
            room = rw cut (length-append (take b new ++ v) (drop (b + m) new) ∙ rw (front, length-drop (b + m) new) (omega (arith, W.room)));
            done =
                rw (behind, cut, take_at (take b new ++ v) (drop (b + m) new) (b + m) front)
                (append_assoc (take b new) v (flatten (each g (a + n) (drop (k + 1) ns)))
                ∙ ap (λ (l : List ℕ). take b new ++ l) next
                ∙ rw eb W.done);
            rest =
                rw (behind, cut, drop_at (take b new ++ v) (drop (b + m) new) (b + m) front)
                (sym (drop-drop m b new) ∙ ap (drop m) (rw eb W.rest) ∙ drop-drop m b old);
          }

    pub written_all : length ns ≤ k → length old ≡ w * total ns → new ≡ flatten (each g 0 ns)
    written_all h l =
        let none = drop_of_length-le ns {i = k} h in
        let all : a ≡ total ns = omega (arith, W.begun, ap total none, weight-nil (λ n. n)) in
        (rw (none, each_nil g a, flatten_nil, append-nil, take_all (w * a) new (omega (arith, W.room, ap (λ (x : ℕ). w * x) all))) at W.done)

-- Sums, with w entries for each sub-job.
module _ (w : ℕ) where
  scaled_nil : w * total [] ≡ 0
  scaled_nil = ap (λ (x : ℕ). w * x) (weight-nil (λ n. n)) ∙ omega arith

  scaled_cons : (n : ℕ) (ns : List ℕ) → w * total (n ∷ ns) ≡ w * n + w * total ns
  scaled_cons n ns = ap (λ (x : ℕ). w * x) (weight-cons (λ n. n) n ns) ∙ omega arith

-- Of lists one after another, with w entries for each sub-job, the k-th is the k-th stretch, and they have the lengths' sum.
module _ (w : ℕ) (g : ℕ → ℕ → List ℕ) where
  abbrev Long : ℕ → List ℕ → Type 0
  Long a ns = (k : ℕ) → k < length ns → length (g (a + start ns k) (get_or ns k 0)) ≡ w * get_or ns k 0

  first_start : (a n : ℕ) (ns : List ℕ) → a + start (n ∷ ns) 0 ≡ a
  first_start a n ns = omega (arith, weight-nil (λ n. n))

  next_start : (a n : ℕ) (ns : List ℕ) (k : ℕ) → a + start (n ∷ ns) (suc k) ≡ a + n + start ns k
  next_start a n ns k = omega (arith, weight-cons (λ n. n) n (take k ns))

  first_long : (a n : ℕ) (ns : List ℕ) → Long a (n ∷ ns) → length (g a n) ≡ w * n
  first_long a n ns l = rw (first_start a n ns) at (l 0 (omega arith))

  next_long : (a n : ℕ) (ns : List ℕ) → Long a (n ∷ ns) → Long (a + n) ns
  next_long a n ns l k h = rw (next_start a n ns k) at (l (suc k) (omega arith))

  flat_length : (a : ℕ) (ns : List ℕ) → Long a ns → length (flatten (each g a ns)) ≡ w * total ns
  flat_length a [] l = rw (each_nil g a, flatten_nil) (sym (scaled_nil w))
  flat_length a (n ∷ ns) l =
      rw (each-cons g a n ns, flatten-cons, length-append (g a n) (flatten (each g (a + n) ns)))
      (omega (arith, first_long a n ns l, flat_length (a + n) ns (next_long a n ns l), scaled_cons w n ns))

  flat_from :
      (a : ℕ) (ns : List ℕ) → Long a ns → (k : ℕ) → k < length ns
      → stretch (w * start ns k) (w * get_or ns k 0) (flatten (each g a ns)) ≡ g (a + start ns k) (get_or ns k 0)
  flat_from a [] l k h = absurd (omega arith)
  flat_from a (n ∷ ns) l zero h =
      rw (scaled_nil w, first_start a n ns, each-cons g a n ns, flatten-cons)
      (take_at (g a n) (flatten (each g (a + n) ns)) (w * n) (first_long a n ns l))
  flat_from a (n ∷ ns) l (suc k) h =
      let f = g a n in
      let rest = flatten (each g (a + n) ns) in
      let e : w * start (n ∷ ns) (suc k) ≡ length f + w * start ns k =
      omega (arith, first_long a n ns l, scaled_cons w n (take k ns))
      in
      rw (e, next_start a n ns k, each-cons g a n ns, flatten-cons, drop-append-add f rest (w * start ns k))
      (flat_from (a + n) ns (next_long a n ns l) k (omega arith))

  module _ (ns : List ℕ) (l : Long 0 ns) where
    pub joined_length : length (flatten (each g 0 ns)) ≡ w * total ns
    joined_length = flat_length 0 ns l

    pub joined_stretch :
        (k : ℕ) → k < length ns
        → stretch (w * start ns k) (w * get_or ns k 0) (flatten (each g 0 ns)) ≡ g (start ns k) (get_or ns k 0)
    joined_stretch k h = flat_from 0 ns l k h ∙ ap (λ (x : ℕ). g x (get_or ns k 0)) (omega arith)

-- Two lists with the same stretches are the same.
pub same_stretches :
    (w : ℕ) (ns l l' : List ℕ)
    → length l ≡ w * total ns
    → length l' ≡ w * total ns
    → ((k : ℕ) → k < length ns → stretch (w * start ns k) (w * get_or ns k 0) l ≡ stretch (w * start ns k) (w * get_or ns k 0) l')
    → l ≡ l'
same_stretches w [] l l' e f h =
    sym (take_all 0 l (omega (arith, scaled_nil w))) ∙ take_all 0 l' (omega (arith, scaled_nil w))
same_stretches w (n ∷ ns) l l' e f h =
    let s = scaled_cons w n ns in
    let front : take (w * n) l ≡ take (w * n) l' = rw (scaled_nil w) at (h 0 (omega arith)) in
    let back =
    same_stretches w ns (drop (w * n) l) (drop (w * n) l') (omega (arith, length-drop (w * n) l)) (omega (arith, length-drop (w * n) l'))
    (λ k b.
    let c : w * n + w * start ns k ≡ w * start (n ∷ ns) (suc k) = sym (scaled_cons w n (take k ns)) in
    rw (drop-drop, drop-drop, c) (h (suc k) (omega arith)))
    in
    sym (take-append-drop (w * n) l) ∙ rw (front, back) (take-append-drop (w * n) l')
