-- The laws of an order and of the choice by one. After these `choose` stays shut.
use Prim.Native.Nat.{ℕ, ◌<◌, zero, suc}
use mathlib.Core.Bool.{Bool, true, false, cond}
use mathlib.Core.List.Memᴰ
use mathlib.Core.List.{List, [], ◌∷◌, Memᴰ}
use mathlib.Core.Logic.{◌≢◌, ◌⊎◌, inl, inr}
use mathlib.Core.Option.{none, some}
use mathlib.Core.Path.{◌≡◌, refl, sym, ◌∙◌, ap}
use native.Mathlib.Omega.{arith}
use Rattle.lists.specs.Order.{by, lex, reversed, ahead, choose, Last}
use Rattle.lists.proofs.Cases.{split, test, clash, tests, tested}
use Rattle.lists.proofs.Members.{in_cons, in_nil, in_from}
use lib.Dec.{ltb}
use Rattle.lists.specs.Places.{from, places}
use borrow.Author.Tests.{le-ltb, ltb-true}

-- A strict order in which two that no third parts count as alike.
pub record Order (lt : ℕ → ℕ → Bool) : Type 0 where
  pub irrefl : (i : ℕ) → lt i i ≡ false
  pub trans : (i j k : ℕ) → lt i j ≡ true → lt j k ≡ true → lt i k ≡ true
  pub parts : (i j k : ℕ) → lt i k ≡ true → (lt i j ≡ true) ⊎ (lt j k ≡ true)

-- Of two members of xs, one comes before the other.
abbrev pub Total : (ℕ → ℕ → Bool) → List ℕ → Type 0
Total lt xs = (i j : ℕ) → Memᴰ i xs → Memᴰ j xs → lt i j ≡ false → lt j i ≡ false → i ≡ j

module _ (lt : ℕ → ℕ → Bool) where
  ahead_in : (p : ℕ) (xs : List ℕ) → Memᴰ (ahead lt p xs) (p ∷ xs)
  unfolding ahead
  ahead_in p [] = Memᴰ.head refl
  ahead_in p (x ∷ xs) =
      test (lt x p)
      (λ h. rw h (in_cons (ahead_in x xs) (λ e. Memᴰ.tail (Memᴰ.head e)) (λ t. Memᴰ.tail (Memᴰ.tail t))))
      (λ h. rw h (in_cons (ahead_in p xs) (λ e. Memᴰ.head e) (λ t. Memᴰ.tail (Memᴰ.tail t))))

  -- Nobody is chosen of nobody, and otherwise a member is.
  pub choose_cases : (xs : List ℕ) → ((xs ≡ []) × (choose lt xs ≡ none)) ⊎ ((b : ℕ) × Memᴰ b xs × (choose lt xs ≡ some b))
  unfolding choose
  choose_cases [] = inl (refl, refl)
  choose_cases (x ∷ xs) = inr (ahead lt x xs, ahead_in x xs, refl)

  pub chosen_in : (xs : List ℕ) {b : ℕ} → choose lt xs ≡ some b → Memᴰ b xs
  chosen_in xs {b} e =
      split (choose_cases xs)
      (λ w. let n = w.1 in let z : ◌≡◌ {A = ℕ} 0 1 = cc in absurd (omega arith))
      (λ w. let n = w.2 in let q : b ≡ w.0 = cc in Memᴰ.cast q w.1)

  pub chosen_none : (xs : List ℕ) → choose lt xs ≡ none → xs ≡ []
  chosen_none xs e =
      split (choose_cases xs) (λ w. w.0) (λ w. let n = w.2 in let z : ◌≡◌ {A = ℕ} 0 1 = cc in absurd (omega arith))

module _ (lt : ℕ → ℕ → Bool) (o : Order lt) where
  pub asym : (i j : ℕ) → lt i j ≡ true → lt j i ≡ false
  asym i j h = test (lt j i) (λ g. clash (o.trans i j i h g) (o.irrefl i)) (λ g. g)

  -- i before j, and k not before j: i before k
  pub before_trans : (i j k : ℕ) → lt i j ≡ true → lt k j ≡ false → lt i k ≡ true
  before_trans i j k h g = split (o.parts i k j h) (λ q. q) (λ q. clash q g)

  -- j not before i, and j before k: i before k
  pub trans_before : (i j k : ℕ) → lt j i ≡ false → lt j k ≡ true → lt i k ≡ true
  trans_before i j k g h = split (o.parts j i k h) (λ q. clash q g) (λ q. q)

  -- neither parts i from j nor j from k
  pub alike : (i j k : ℕ) → lt i j ≡ false → lt j k ≡ false → lt i k ≡ false
  alike i j k p q = test (lt i k) (λ h. split (o.parts i j k h) (λ a. clash a p) (λ a. clash a q)) (λ h. h)

  pub reversed_order : Order (reversed lt)
  reversed_order =
      record {
        irrefl = o.irrefl;
        trans = λ i j k a b. o.trans k j i b a;
        parts = λ i j k h. split (o.parts k j i h) (λ q. inr q) (λ q. inl q);
      }

  ahead_first : (p : ℕ) (xs : List ℕ) {i : ℕ} → (i ≡ p) ⊎ Memᴰ i xs → lt i (ahead lt p xs) ≡ false
  unfolding ahead
  ahead_first p [] m = split m (λ e. rw e (o.irrefl p)) (λ t. in_nil t)
  ahead_first p (x ∷ xs) {i} m =
      test (lt x p)
      (λ h.
      rw h
      (split m
      (λ e. test (lt p (ahead lt x xs)) (λ q. clash (o.trans x p _ h q) (ahead_first x xs (inl refl))) (λ q. rw e q))
      (λ t. in_cons t (λ e. ahead_first x xs (inl e)) (λ u. ahead_first x xs (inr u)))))
      (λ h.
      rw h
      (split m
      (λ e. ahead_first p xs (inl e))
      (λ t.
      in_cons t
      (λ e. test (lt x (ahead lt p xs)) (λ q. clash (before_trans x _ p q (ahead_first p xs (inl refl))) h) (λ q. rw e q))
      (λ u. ahead_first p xs (inr u)))))

  -- Nobody comes before the one chosen.
  pub chosen_first : (xs : List ℕ) {b i : ℕ} → choose lt xs ≡ some b → Memᴰ i xs → lt i b ≡ false
  unfolding choose
  chosen_first [] e m = in_nil m
  chosen_first (x ∷ xs) {b} {i} e m =
      let q : ahead lt x xs ≡ b = cc in
      rw (← q) (in_cons m (λ e. ahead_first x xs (inl e)) (λ t. ahead_first x xs (inr t)))

  -- In a total order all others come after the one chosen; so the choice by the reversed order is the last of all.
  pub chosen_before :
      (xs : List ℕ) → Total lt xs → {b : ℕ} → choose lt xs ≡ some b → (i : ℕ) → Memᴰ i xs → (i ≡ b) ⊎ (lt b i ≡ true)
  chosen_before xs tot {b} e i m =
      test (lt b i) (λ h. inr h) (λ h. inl (tot i b m (chosen_in lt xs e) (chosen_first xs e m) h))

-- Orders by a number, and one order after another.
pub by_order : (f : ℕ → ℕ) → Order (by f)
by_order f =
    record {
      irrefl = λ i. omega tested;
      trans = λ i j k a b. omega tested;
      parts = λ i j k h. test (by f i j) (λ q. inl q) (λ q. inr (omega tested));
    }

module _ (lt lt' : ℕ → ℕ → Bool) (i j : ℕ) where
  -- What it says that i comes before j by lt, then lt', and what it says that it does not.
  pub lex_yes : lex lt lt' i j ≡ true → (lt i j ≡ true) ⊎ ((lt i j ≡ false) × (lt j i ≡ false) × (lt' i j ≡ true))
  lex_yes h =
      test (lt i j) (λ a. inl a)
      (λ a.
      test (lt j i) (λ b. clash (rw (a, b) at h) refl)
      (λ b. inr (a, b, rw (a, b) at h)))

  pub lex_no : lex lt lt' i j ≡ false → (lt i j ≡ false) × ((lt j i ≡ true) ⊎ (lt' i j ≡ false))
  lex_no h =
      test (lt i j) (λ a. clash refl (rw a at h))
      (λ a. test (lt j i) (λ b. (a, inl b)) (λ b. (a, inr (rw (a, b) at h))))

  pub yes_lex : lt i j ≡ true → lex lt lt' i j ≡ true
  yes_lex a = rw a

  pub tie_lex : lt i j ≡ false → lt j i ≡ false → lex lt lt' i j ≡ lt' i j
  tie_lex a b = rw (a, b)

  pub no_lex : Order lt → lt j i ≡ true → lex lt lt' i j ≡ false
  no_lex o b = rw (asym lt o j i b, b)

pub lex_order : (lt lt' : ℕ → ℕ → Bool) → Order lt → Order lt' → Order (lex lt lt')
lex_order lt lt' o o' =
    record {
      irrefl = λ i. rw (o.irrefl i, o'.irrefl i);
      trans = λ i j k a b.
          split (lex_yes lt lt' i j a)
          (λ p.
          split (lex_yes lt lt' j k b)
          (λ q. yes_lex lt lt' i k (o.trans i j k p q))
          (λ q. yes_lex lt lt' i k (before_trans lt o i j k p q.1)))
          (λ p.
          split (lex_yes lt lt' j k b)
          (λ q. yes_lex lt lt' i k (trans_before lt o i j k p.1 q))
          (λ q.
          tie_lex lt lt' i k (alike lt o i j k p.0 q.0) (alike lt o k j i q.1 p.1) ∙ o'.trans i j k p.2 q.2));
      parts = λ i j k h.
          test (lex lt lt' i j) (λ p. inl p)
          (λ p. test (lex lt lt' j k) (λ q. inr q) (λ q. clash h (neither i j k p q)));
    }
  where
    neither : (i j k : ℕ) → lex lt lt' i j ≡ false → lex lt lt' j k ≡ false → lex lt lt' i k ≡ false
    neither i j k p q =
        let a = lex_no lt lt' i j p in
        let b = lex_no lt lt' j k q in
        split a.1
        (λ f.
        split b.1
        (λ g. no_lex lt lt' i k o (o.trans k j i g f))
        (λ g. no_lex lt lt' i k o (trans_before lt o k j i b.0 f)))
        (λ f.
        split b.1
        (λ g. no_lex lt lt' i k o (before_trans lt o k j i g a.0))
        (λ g.
        test (lt k i) (λ h. no_lex lt lt' i k o h)
        (λ h. tie_lex lt lt' i k (alike lt o i j k a.0 b.0) h ∙ alike lt' o' i j k f g)))

-- Two that an order after another does not part, neither of the two parts.
pub lex_neither :
    (lt lt' : ℕ → ℕ → Bool) → Order lt
    → (i j : ℕ) → lex lt lt' i j ≡ false → lex lt lt' j i ≡ false
    → (lt i j ≡ false) × (lt j i ≡ false) × (lt' i j ≡ false) × (lt' j i ≡ false)
lex_neither lt lt' o i j p q =
    let a = lex_no lt lt' i j p in
    let b = lex_no lt lt' j i q in
    split a.1 (λ f. clash f b.0) (λ f. split b.1 (λ g. clash g a.0) (λ g. (a.0, b.0, f, g)))

-- So an order after another is total where the last is.
pub lex_total : (lt lt' : ℕ → ℕ → Bool) → Order lt → (xs : List ℕ) → Total lt' xs → Total (lex lt lt') xs
lex_total lt lt' o xs tot i j a b p q = let w = lex_neither lt lt' o i j p q in tot i j a b w.2 w.3

-- Only one is last.
pub last_one : (lt : ℕ → ℕ → Bool) → Order lt → (xs : List ℕ) (b b' : ℕ) → Last lt xs b → Last lt xs b' → b ≡ b'
last_one lt o xs b b' l l' =
    split (l'.1 b l.0) (λ e. e)
    (λ h. split (l.1 b' l'.0) (λ e. sym e) (λ g. clash g (asym lt o b b' h)))

-- In a total order the choice by the reversed order is the last of all.
pub last_chosen :
    (lt : ℕ → ℕ → Bool) → Order lt → (xs : List ℕ) → Total lt xs → xs ≢ [] → (b : ℕ) × (Last lt xs b × (choose (reversed lt) xs ≡ some b))
last_chosen lt o xs tot n =
    split (choose_cases (reversed lt) xs)
    (λ w. absurd (n w.0))
    (λ w. (
      w.0,
      ((w.1, chosen_before (reversed lt) (reversed_order lt o) xs (λ i j a b p q. tot i j a b q p) w.2), w.2),
    ))

-- Among places in list order the choice keeps the first of those that tie: it is the choice by the order and then by place.
ahead-nil : (lt : ℕ → ℕ → Bool) (p : ℕ) → ahead lt p [] ≡ p
unfolding ahead
ahead-nil lt p = refl

ahead-cons : (lt : ℕ → ℕ → Bool) (p x : ℕ) (xs : List ℕ) → ahead lt p (x ∷ xs) ≡ ahead lt (cond (lt x p) x p) xs
unfolding ahead
ahead-cons lt p x xs = refl

lex_later : (lt : ℕ → ℕ → Bool) (p a : ℕ) → p < a → lex lt (by (λ i. i)) a p ≡ lt a p
lex_later lt p a h =
    let q : ltb a p ≡ false = le-ltb a p (omega arith) in
    test (lt a p) (λ e. rw e) (λ e. test (lt p a) (λ y. rw (e, y)) (λ y. rw (e, y, q)))

ahead_place : (lt : ℕ → ℕ → Bool) (p a n : ℕ) → p < a → ahead lt p (from a n) ≡ ahead (lex lt (by (λ i. i))) p (from a n)
unfolding from
ahead_place lt p a zero h = ahead-nil lt p ∙ sym (ahead-nil (lex lt (by (λ i. i))) p)
ahead_place lt p a (suc n) h =
    ahead-cons lt p a (from (suc a) n)
    ∙ test (lt a p)
    (λ e. rw e (ahead_place lt a (suc a) n (omega arith)))
    (λ e. rw e (ahead_place lt p (suc a) n (omega arith)))
    ∙ ap (λ (b : Bool). ahead (lex lt (by (λ i. i))) (cond b a p) (from (suc a) n)) (sym (lex_later lt p a h))
    ∙ sym (ahead-cons (lex lt (by (λ i. i))) p a (from (suc a) n))

choose_place : (lt : ℕ → ℕ → Bool) (n : ℕ) → choose lt (places n) ≡ choose (lex lt (by (λ i. i))) (places n)
unfolding choose from
choose_place lt zero = refl
choose_place lt (suc n) = ap some (ahead_place lt 0 1 n (omega arith))

pub chosen_earliest : (lt : ℕ → ℕ → Bool) → Order lt → (n b i : ℕ) → choose lt (places n) ≡ some b → i < n → i < b → lt b i ≡ true
chosen_earliest lt o n b i e k h =
    split
    (chosen_before (lex lt (by (λ j. j))) (lex_order lt (by (λ j. j)) o (by_order (λ j. j))) (places n)
    (lex_total lt (by (λ j. j)) o (places n) (λ u v p q f g. omega tests))
    (sym (choose_place lt n) ∙ e) i (in_from 0 n (omega arith) (omega arith)))
    (λ q. absurd (omega arith))
    (λ q. split (lex_yes lt (by (λ j. j)) b i q) (λ y. y) (λ y. absurd (omega (arith, ltb-true b i y.2))))
