-- Laws of the engine's bytes: one more number read or written, and numbers read back from their bytes.
use Prim.Native.Nat.{ℕ, zero, suc, ◌+◌, ◌*◌, ◌/◌, ◌%◌, ◌≤◌, ◌<◌}
use mathlib.Core.List.{List, [], ◌∷◌, ◌++◌, append-nil}
use mathlib.Core.Path.{◌≡◌, refl, sym, ap, ◌∙◌}
use native.Mathlib.Nat.{mul-suc, mul-zero}
use native.Mathlib.Numerals.{add-one}
use native.Mathlib.Omega.{arith}
use lib.Dec.{ltb}
use lib.ListN.{length, get_or, set, take, drop, length-append, length-take, drop_of_length-le, get_or-append}
use lib.Seq.{take-suc-set, take-suc, take_at, get_or_at, get_or-take, get_or-drop, take_all, drop-append-add, drop-drop}
use Rattle.lists.proofs.Cases.{test, tests}
use Rattle.std.specs.Int.{from_le_bytes}
use Rattle.std.specs.Simd.{first_chunks}
use mir.Syntax.{w32}
use Rattle.charoktan.specs.Records.{bytes, column, encoded, word, words}

-- What std reads from four bytes is the number there.
pub word-from_le_bytes : (r : List ℕ) → from_le_bytes w32 r ≡ word r 0
word-from_le_bytes r = omega arith

-- A number in a part of the bytes is the number there in all of them,
pub word-part : (bs : List ℕ) (p m x : ℕ) → x + 4 ≤ m → word (take m (drop p bs)) x ≡ word bs (p + x)
word-part bs p m x h =
    let at : (y : ℕ) → y < m → get_or (take m (drop p bs)) y 0 ≡ get_or bs (p + y) 0 = λ y b. get_or-take m (drop p bs) y 0 b ∙ get_or-drop p bs y 0 in
    let past : (k : ℕ) → p + (x + k) ≡ p + x + k = λ k. omega arith in
    rw (at x (omega arith), at (x + 1) (omega arith), at (x + 2) (omega arith), at (x + 3) (omega arith), past 1, past 2, past 3)

record_at : (w k i : ℕ) (bs d : List ℕ) → i < k → get_or (first_chunks w k bs) i d ≡ take w (drop (w * i) bs)
record_at w zero i bs d h = absurd (omega arith)
record_at w (suc k) zero bs d h = rw mul-zero
record_at w (suc k) (suc i) bs d h =
    record_at w k i (drop w bs) d (omega arith)
    ∙ ap (take w) (drop-drop (w * i) w bs ∙ ap (λ (x : ℕ). drop x bs) (omega (arith, mul-suc w i)))

-- and so is a number in the i-th record of w bytes.
pub word-record :
    (bs : List ℕ) (rs : List (List ℕ)) (w k i at : ℕ) (d r : List ℕ) → rs ≡ first_chunks w k bs → i < k → at + 4 ≤ w
    → r ≡ get_or rs i d
    → word r at ≡ word bs (w * i + at)
word-record bs rs w k i at d r q h b e = rw (e, q, record_at w k i bs d h) (word-part bs (w * i) w at b)

-- One more number read from records of w bytes.
pub column_more :
    (bs out : List ℕ) (rs : List (List ℕ)) (d r : List ℕ) (w k n i v : ℕ)
    → rs ≡ first_chunks w n bs
    → i < n
    → k + 4 ≤ w
    → i < length out
    → take i out ≡ column bs w k i
    → r ≡ get_or rs i d
    → v ≡ word r k
    → take (i + 1) (set out i v) ≡ column bs w k (i + 1)
unfolding column
column_more bs out rs d r w k n i v q l b h e p z =
    rw (add-one, take-suc-set out i v h, e, z ∙ word-record bs rs w n i k d r q l b p)

pub length-column : (bs : List ℕ) (w k n : ℕ) → length (column bs w k n) ≡ n
unfolding column
length-column bs w k zero = refl
length-column bs w k (suc n) = simp length-append (omega (arith, length-column bs w k n))

-- The k-th of them.
pub column_at : (bs : List ℕ) (w j n k : ℕ) → k < n → get_or (column bs w j n) k 0 ≡ word bs (w * k + j)
unfolding column
column_at bs w j zero k h = absurd (omega arith)
column_at bs w j (suc n) k h =
    test (ltb k n)
    (λ e.
    get_or-append (column bs w j n) (word bs (w * n + j) ∷ []) 0 k (omega (tests, length-column bs w j n))
    ∙ column_at bs w j n k (omega tests))
    (λ e.
    let q : k ≡ n = omega tests in
    rw q (get_or_at (column bs w j n) (word bs (w * n + j)) [] 0 n (length-column bs w j n)))

pub length-encoded : (vs : List ℕ) → length (encoded vs) ≡ 4 * length vs
unfolding encoded
length-encoded [] = refl
length-encoded (v ∷ vs) = omega (arith, length-append (bytes v) (encoded vs), length-encoded vs)

encoded_snoc : (vs : List ℕ) (v : ℕ) → encoded (vs ++ (v ∷ [])) ≡ encoded vs ++ bytes v
unfolding encoded
encoded_snoc [] v = refl
encoded_snoc (x ∷ vs) v = ap (λ (l : List ℕ). bytes x ++ l) (encoded_snoc vs v)

behind : (a old : List ℕ) (n m k : ℕ) → length a ≡ n → n + m ≡ k → drop (n + m) (a ++ drop n old) ≡ drop k old
behind a old n m k l e =
    ap (λ (x : ℕ). drop (x + m) (a ++ drop n old)) (sym l)
    ∙ drop-append-add a (drop n old) m
    ∙ drop-drop m n old
    ∙ ap (λ (x : ℕ). drop x old) e

-- One more number written.
pub encoded_more :
    (vs old out : List ℕ) (i : ℕ) → i < length vs → out ≡ encoded (take i vs) ++ drop (4 * i) old
    → take (4 * i) out ++ bytes (get_or vs i 0) ++ drop (4 * i + 4) out ≡ encoded (take (i + 1) vs) ++ drop (4 * (i + 1)) old
encoded_more vs old out i h e =
    let l : length (encoded (take i vs)) ≡ 4 * i = omega (arith, length-encoded (take i vs), length-take i vs) in
    rw (e, take_at (encoded (take i vs)) (drop (4 * i) old) (4 * i) l, add-one, take-suc vs i 0 h, encoded_snoc, behind (encoded (take i vs)) old (4 * i) 4 (4 * suc i) l (omega arith))

byte : (v : ℕ) → v ≡ v % 256 + 256 * (v / 256)
byte v = omega arith

joined :
    (a b c d p q r v : ℕ) → v ≡ a + 256 * p → p ≡ b + 256 * q → q ≡ c + 256 * r → r ≡ d
    → a + 256 * b + 65_536 * c + 16_777_216 * d ≡ v
joined a b c d p q r v e f g h = omega arith

last_byte : (v : ℕ) → v < 4_294_967_296 → v / 256 / 256 / 256 ≡ v / 256 / 256 / 256 % 256
last_byte v b = let h : v / 256 / 256 / 256 < 256 = omega arith in omega arith

four_bytes :
    (v : ℕ) → v < 4_294_967_296
    → v % 256 + 256 * (v / 256 % 256) + 65_536 * (v / 65_536 % 256) + 16_777_216 * (v / 16_777_216 % 256) ≡ v
four_bytes v b =
    let two : v / 65_536 ≡ v / 256 / 256 = omega arith in
    let three : v / 16_777_216 ≡ v / 256 / 256 / 256 = omega arith in
    rw (two, three)
    (joined (v % 256) (v / 256 % 256) (v / 256 / 256 % 256) (v / 256 / 256 / 256 % 256) (v / 256) (v / 256 / 256) (v / 256 / 256 / 256) v (byte v) (byte (v / 256)) (byte (v / 256 / 256)) (last_byte v b))

-- A number below 2^32 is read back from its bytes,
word-encoded : (vs : List ℕ) (i : ℕ) → i < length vs → get_or vs i 0 < 4_294_967_296 → word (encoded vs) (4 * i + 0) ≡ get_or vs i 0
unfolding encoded
word-encoded [] i h b = absurd (omega arith)
word-encoded (v ∷ vs) zero h b = four_bytes v b
word-encoded (v ∷ vs) (suc i) h b =
    let next : 4 * suc i + 0 ≡ suc (suc (suc (suc (4 * i + 0)))) = omega arith in
    let past : (k : ℕ) → suc (suc (suc (suc (4 * i + 0)))) + k ≡ suc (suc (suc (suc (4 * i + 0 + k)))) = λ k. omega arith in
    rw (next, past 1, past 2, past 3) (word-encoded vs i (omega arith) b)

column-encoded :
    (vs : List ℕ) → ((i : ℕ) → i < length vs → get_or vs i 0 < 4_294_967_296) → (n : ℕ) → n ≤ length vs
    → column (encoded vs) 4 0 n ≡ take n vs
unfolding column
column-encoded vs b zero h = refl
column-encoded vs b (suc n) h =
    rw (column-encoded vs b n (omega arith), word-encoded vs n h (b n h)) (sym (take-suc vs n 0 h))

-- and so is a list of them.
pub words-encoded :
    (vs : List ℕ) (n : ℕ) → length vs ≡ n → ((i : ℕ) → i < n → get_or vs i 0 < 4_294_967_296) → words (encoded vs) n ≡ vs
words-encoded vs n l b =
    column-encoded vs (λ i h. b i (omega arith)) n (omega arith) ∙ take_all n vs (omega arith)

-- Nothing of what was there is left.
pub all_written : (new old : List ℕ) (n : ℕ) → length old ≡ n → new ++ drop n old ≡ new
all_written new old n e = rw (drop_of_length-le old {i = n} (omega arith), append-nil)

-- Numbers written one after another over what was there: k of them stand there.
pub record Put (vs old out : List ℕ) (k : ℕ) : Type 0 where
  pub most : k ≤ length vs
  pub long : length old ≡ 4 * length vs
  pub done : out ≡ encoded (take k vs) ++ drop (4 * k) old

pub put_none : (vs old : List ℕ) → length old ≡ 4 * length vs → Put vs old old 0
unfolding encoded
put_none vs old l = record { most = omega arith; long = l; done = refl }

module _ {vs old out : List ℕ} {k : ℕ} (P : Put vs old out k) where
  pub put_next :
      {v : ℕ} {out' : List ℕ}
      → k < length vs
      → v ≡ get_or vs k 0
      → out' ≡ take (4 * k) out ++ bytes v ++ drop (4 * k + 4) out
      → Put vs old out' (k + 1)
  put_next h q e =
      record { most = omega arith; long = P.long; done = e ∙ rw q (encoded_more vs old out k h P.done) }

  pub put_whole : length vs ≤ k → out ≡ encoded vs
  put_whole h =
      let n : k ≡ length vs = omega (arith, P.most) in
      P.done ∙ rw (n, take_all (length vs) vs (omega arith)) (all_written (encoded vs) old (4 * length vs) P.long)
