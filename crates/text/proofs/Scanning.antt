-- How the definitions of Reading.antt go on from one byte to the next.
use Prim.Native.Nat.{ℕ, zero, suc, ◌+◌, ◌*◌, ◌-◌, ◌^◌, ◌<◌, ◌≤◌}
use Rattle.std.specs.Prelude.{min}
use mathlib.Core.Bool.{true, false, cond, ◌||◌, ◌&&◌, and-false, and-true}
use mathlib.Core.List.{List, [], ◌∷◌, ◌++◌, append_assoc, append-nil}
use mathlib.Core.Path.{◌≡◌, refl, sym, ap, ◌∙◌}
use native.Mathlib.Nat.{sub-zero, add-zero, zero-add, pow-suc}
use Rattle.std.proofs.Math.Nat.{pow-le-pow_right}
use native.Mathlib.Numerals.{add-one}
use native.Mathlib.Omega.{arith}
use borrow.Author.Tests.{le-leb, lt-leb, le-ltb, leb-true, eq-eqb, ne_eqb, eqb-true, eqb-false}
use lib.Dec.{ltb, leb, eqb}
use lib.ListN.{length, get_or, take, drop, set, take-append-drop, length-set, drop_of_length-le}
use lib.Seq.{length-take-le, get_or-take, take-take, take-suc-set, drop-set-lt, drop-drop, drop-cons, drop-length, get_or-drop}
use Rattle.std.specs.List.{take_while, starts_with, prefix_len, between}
use Rattle.std.specs.Char.{is_ascii_digit}
use Rattle.std.proofs.Common.{Option, Some, None}
use Rattle.std.proofs.lemmas.List.Sums.{take_while-cons}
use Rattle.std.proofs.lemmas.List.Folds.{length-prefix_len}
use Rattle.std.proofs.lemmas.Slice.{between_to_end}
use Rattle.lists.proofs.Cases.{test, clash, both, tests, neither}
use Rattle.lists.proofs.Count.{left_none}
use Rattle.text.proofs.Stored.{last_left}
use Rattle.text.specs.Format.{value_from}
use Rattle.text.specs.Reading.{byte_at, digits, number, number_at, followed, field_at, cell_at, line_end, Fields, on_cell, record_at, starts, Recorded}

-- A byte that is a digit.
pub digit : (b : ℕ) → (ltb b 48 || ltb 57 b) ≡ false → (48 ≤ b) × (b ≤ 57)
digit b e =
    let h = neither {a = ltb b 48} {b = ltb 57 b} e in
    let low = h.0 in
    let high = h.1 in
    (omega tests, omega tests)

-- The value of i digits is below the i-th power of 10.
pub value_below : (v b i : ℕ) → v < 10 ^ i → b ≤ 57 → v * 10 + (b - 48) < 10 ^ (i + 1)
value_below v b i h d = rw add-one (omega (arith, pow-suc 10 i))

-- What stands at a place of the first 11 bytes.
pub near_at : (text : List ℕ) (i b : ℕ) → i < 11 → b ≡ get_or text i 0 → get_or (take 11 text) i 0 ≡ b
near_at text i b h e = get_or-take 11 text i 0 h ∙ sym e

pub value_small : (v i : ℕ) → v < 10 ^ i → i < 11 → v < 10_000_000_000
value_small v i h l =
    let p : 10 ^ i ≤ 10 ^ 10 = pow-le-pow_right {n = 10} (omega arith) {i = i} {j = 10} (omega arith) in
    omega (arith, p)

-- The digits that a text begins with are what std's methods take.
abbrev pub run : List ℕ → List ℕ
run bs = take_while is_ascii_digit bs

is_digit : (b : ℕ) → (ltb b 48 || ltb 57 b) ≡ false → is_ascii_digit b ≡ true
is_digit b e = let d = digit b e in rw (le-leb 48 b d.0, le-leb b 57 d.1)

no_digit : (b : ℕ) → (ltb b 48 || ltb 57 b) ≡ true → is_ascii_digit b ≡ false
no_digit b e =
    test (is_ascii_digit b)
    (λ t. let q = both t in clash e (rw (le-ltb b 48 (leb-true _ _ q.0), le-ltb 57 b (leb-true _ _ q.1))))
    (λ t. t)

run_more : (b : ℕ) (bs : List ℕ) → (ltb b 48 || ltb 57 b) ≡ false → run (b ∷ bs) ≡ b ∷ run bs
run_more b bs e = take_while-cons is_ascii_digit b bs ∙ rw (is_digit b e)

-- The first n bytes show how long the run is, up to n.
run_near : (n : ℕ) (bs : List ℕ) → prefix_len is_ascii_digit (take n bs) ≡ min n (prefix_len is_ascii_digit bs)
run_near zero bs = omega arith
run_near (suc n) [] = omega arith
run_near (suc n) (b ∷ bs) =
    let ih = run_near n bs in
    test (is_ascii_digit b) (λ t. rw t (omega arith)) (λ t. rw t (omega arith))

-- What 11 bytes show of a run: all of it, or that it is of more than 10 digits.
module _ {n : ℕ} (bs : List ℕ) (e : n ≡ prefix_len is_ascii_digit (take 11 bs)) where
  pub run_within : n ≤ 10 → n ≡ prefix_len is_ascii_digit bs
  run_within h = omega (arith, run_near 11 bs)

  pub run_whole : n ≤ 10 → run (take 11 bs) ≡ run bs
  run_whole h =
      let m : prefix_len is_ascii_digit bs ≤ 11 = omega (arith, run_within h) in
      ap (λ (j : ℕ). take j (take 11 bs)) (sym e ∙ run_within h) ∙ take-take (prefix_len is_ascii_digit bs) 11 bs m

  pub run_short : (1 ≤ prefix_len is_ascii_digit bs) × (prefix_len is_ascii_digit bs ≤ 10) → (1 ≤ n) × (n ≤ 10)
  run_short h = omega (arith, run_near 11 bs)

-- The value of what is left of a run at a place of the text.
module _ (text : List ℕ) (v i : ℕ) where
  pub left_end : length text ≤ i → value_from v (run (drop i text)) ≡ v
  unfolding value_from
  left_end h = rw (drop_of_length-le text h) refl

  module _ (h : i < length text) where
    pub left_stop : is_ascii_digit (get_or text i 0) ≡ false → value_from v (run (drop i text)) ≡ v
    unfolding value_from
    left_stop e = rw (drop-cons text i 0 h, e) refl

    pub left_more :
        is_ascii_digit (get_or text i 0) ≡ true
        → value_from v (run (drop i text)) ≡ value_from (v * 10 + (get_or text i 0 - 48)) (run (drop (i + 1) text))
    unfolding value_from
    left_more e =
        let b = get_or text i 0 in
        let w : run (drop i text) ≡ b ∷ run (drop (suc i) text) =
        ap run (drop-cons text i 0 h) ∙ take_while-cons is_ascii_digit b (drop (suc i) text) ∙ rw e refl
        in
        rw (add-one i) (ap (value_from v) w)

digits_run :
    (v n i : ℕ) (bs : List ℕ)
    → digits v n i bs ≡ record { value = value_from v (run bs); count = n + length (run bs); end = i + length (run bs) }
unfolding digits value_from
digits_run v n i [] = rw (add-zero n, add-zero i)
digits_run v n i (b ∷ bs) =
    test (ltb b 48 || ltb 57 b) (λ e. rw (e, no_digit b e, add-zero n, add-zero i))
    (λ e.
    let c : n + 1 + length (run bs) ≡ n + suc (length (run bs)) = omega arith in
    let j : i + 1 + length (run bs) ≡ i + suc (length (run bs)) = omega arith in
    rw (run_more b bs e, e, digits_run (v * 10 + (b - 48)) (n + 1) (i + 1) bs, c, j))

-- What the run of digits says of the number: there is none past the end, none of no digit or of more than 10, and none of
-- a value too great.
pub number_past : (text : List ℕ) (i : ℕ) → length text < i → number_at text i ≡ None
unfolding number digits
number_past text i h = rw (drop_of_length-le text {i = i} (omega arith))

module _ (text : List ℕ) (i : ℕ) {rest : List ℕ} (e : rest ≡ between i (length text) text) where
  abbrev count : ℕ
  count = prefix_len is_ascii_digit rest

  abbrev told : ℕ
  told = value_from 0 (run rest)

  at_run : digits 0 0 i (drop i text) ≡ record { value = told; count = count; end = i + count }
  at_run =
      let r : drop i text ≡ rest = sym (e ∙ between_to_end text i (length text) (omega arith)) in
      rw (r, digits_run 0 0 i rest, length-prefix_len is_ascii_digit rest, zero-add (prefix_len is_ascii_digit rest))

  pub number_length : ((1 ≤ count) × (count ≤ 10) → ⊥) → number_at text i ≡ None
  unfolding number
  number_length h =
      rw at_run
      (test (leb 1 count && leb count 10)
      (λ t. let b = both t in absurd (h (leb-true _ _ b.0, leb-true _ _ b.1)))
      (λ t. rw t))

  pub number_great : 4_294_967_295 < told → number_at text i ≡ None
  unfolding number
  number_great h = rw (at_run, lt-leb _ _ h, and-false)

  pub number_is : 1 ≤ count → count ≤ 10 → told ≤ 4_294_967_295 → number_at text i ≡ Some (told, i + count)
  unfolding number
  number_is a b c = rw (at_run, le-leb _ _ a, le-leb _ _ b, le-leb _ _ c)

-- What std's test of a beginning says, byte by byte.
flip : (a b : ℕ) → eqb a b ≡ eqb b a
flip a b = test (eqb b a) (λ e. rw e (eq-eqb a b (sym (eqb-true b a e)))) (λ e. rw e (ne_eqb a b (λ q. eqb-false b a e (sym q))))

pub starts_std : (w text : List ℕ) → starts w text ≡ starts_with eqb text w
unfolding starts
starts_std [] text = refl
starts_std (w ∷ ws) [] = refl
starts_std (w ∷ ws) (b ∷ bs) =
    rw (starts_std ws bs, flip w b) (test (eqb b w) (λ e. rw e) (λ e. rw e))

pub crlf_std : (text : List ℕ) (i : ℕ) → starts_with eqb (between i (length text) text) (13 ∷ 10 ∷ []) ≡ (eqb (byte_at text i) 13 && eqb (byte_at text (i + 1)) 10)
crlf_std text i =
    let n : i + 0 ≡ i = add-zero i in
    ap (λ (bs : List ℕ). starts_with eqb bs (13 ∷ 10 ∷ [])) (between_to_end text i (length text) (omega arith))
    ∙ first (drop i text)
    ∙ rw (get_or-drop i text 0 0, get_or-drop i text 1 0, n)
  where
    first : (bs : List ℕ) → starts_with eqb bs (13 ∷ 10 ∷ []) ≡ (eqb (get_or bs 0 0) 13 && eqb (get_or bs 1 0) 10)
    first [] = refl
    first (b ∷ []) = simp and-false
    first (b ∷ c ∷ bs) = rw (flip 13 b, flip 10 c, and-true)

-- A record, field by field: the list holds the values read, and what is left to read decides the whole.
pub record Filled (text : List ℕ) (at : ℕ) (out₀ out : List ℕ) (i k : ℕ) : Type 0 where
  pub same : length out ≡ length out₀
  pub few : k ≤ length out
  pub end : (record_at (length out₀) text at).end ≡ (record_at (length out - k) text i).end
  pub values : (record_at (length out₀) text at).values ≡ take k out ++ (record_at (length out - k) text i).values
  pub kept : drop k out ≡ drop k out₀

pub filled_none : (text : List ℕ) (at : ℕ) (out : List ℕ) → Filled text at out out at 0
filled_none text at out = record { same = refl; few = omega arith; end = rw sub-zero; values = rw sub-zero; kept = refl }

module _ {text out₀ out : List ℕ} {at i k : ℕ} (f : Filled text at out₀ out i k) where
  -- Nothing more is read.
  filled_end : (e : Option ℕ) → record_at (length out - k) text i ≡ record { values = []; end = e } → Recorded text at out₀ e out
  filled_end e q =
      let v : (record_at (length out₀) text at).values ≡ take k out = f.values ∙ rw (q, append-nil) in
      let l : length (take k out) ≡ k = length-take-le k out f.few in
      record {
        end = sym (f.end ∙ rw q);
        values = rw (v, l, ← f.kept) (sym (take-append-drop k out));
      }

  pub filled_all : length out₀ ≤ k → Recorded text at out₀ (line_end text i) out
  unfolding record_at
  filled_all h = filled_end (line_end text i) (rw (left_none (length out) k (omega (arith, f.same))))

  module _ (h : k < length out₀) where
    left : length out - k ≡ suc (length out - k - 1)
    left = omega (arith, f.same)

    pub cell_here :
        {c : Option (ℕ × ℕ)}
        → c ≡ cond (eqb (k + 1) (length out)) (field_at text i) (followed text 44 (field_at text i))
        → cell_at (length out - k - 1) text i ≡ c
    unfolding cell_at
    cell_here e = sym (e ∙ rw (last_left (length out) k (omega (arith, f.same))))

    pub filled_broken : cell_at (length out - k - 1) text i ≡ None → Recorded text at out₀ None out
    unfolding record_at
    filled_broken e = filled_end None (rw (left, e))

    pub filled_more :
        (v j : ℕ) → cell_at (length out - k - 1) text i ≡ Some (v, j) → Filled text at out₀ (set out k v) j (k + 1)
    unfolding record_at
    filled_more v j e =
        let z : length (set out k v) - (k + 1) ≡ length out - k - 1 = simp length-set (omega arith) in
        record {
          same = simp length-set f.same;
          few = simp length-set (omega (arith, f.same));
          end = f.end ∙ rw (left, e, z);
          values = f.values ∙ rw (left, e, z, add-one k, take-suc-set out k v (omega (arith, f.same))) (sym (append_assoc (take k out) _ _));
          kept = drop-set-lt (k + 1) out k v (omega arith) ∙ sym (drop-drop 1 k out) ∙ ap (drop 1) f.kept ∙ drop-drop 1 k out₀;
        }

-- A record that was read to the end of its line has all its fields.
record_full : (n : ℕ) (text : List ℕ) (i j : ℕ) → (record_at n text i).end ≡ Some j → length (record_at n text i).values ≡ n
unfolding record_at
record_full zero text i j e = refl
record_full (suc n) text i j e = by (cell_at n text i) (record_full n text) e
  where
    next : ℕ → ℕ → Fields
    next v k = record { values = v ∷ (record_at n text k).values; end = (record_at n text k).end }

    by : (c : Option (ℕ × ℕ)) → ((k j : ℕ) → (record_at n text k).end ≡ Some j → length (record_at n text k).values ≡ n)
        → (on_cell c next).end ≡ Some j → length (on_cell c next).values ≡ suc n
    by (Some (v, k)) ih e = ap suc (ih k j e)
    by None ih e = cc

pub recorded_all :
    {text out out' : List ℕ} {at : ℕ} {r : Option ℕ}
    → Recorded text at out r out'
    → (j : ℕ)
    → r ≡ Some j
    → (record_at (length out) text at ≡ record { values = out'; end = Some j }) × (length out' ≡ length out)
recorded_all {text} {out} {out'} {at} w j e =
    let f = sym w.end ∙ e in
    let l = record_full (length out) text at j f in
    let v : out' ≡ (record_at (length out) text at).values = w.values ∙ rw (l, drop-length out, append-nil) in
    (rw (v, ← f), rw v l)
