-- Stores one behind the other: how the parts of a text that the writer's functions put are one text.
use Prim.Native.Nat.{ℕ, suc, ◌+◌, ◌-◌, ◌/◌, ◌%◌, ◌<◌, ◌≤◌}
use mathlib.Core.Bool.{cond}
use mathlib.Core.List.{List, [], ◌∷◌, ◌++◌, append_assoc, append-nil}
use mathlib.Core.Path.{◌≡◌, refl, sym, ap, ◌∙◌}
use native.Mathlib.Nat.{add-zero}
use native.Mathlib.Numerals.{add-one}
use native.Mathlib.Omega.{arith}
use borrow.Author.Tests.{lt-ltb, le-ltb, eq-eqb, ne_eqb}
use lib.Dec.{leb, eqb}
use lib.ListN.{length, get_or, take, drop, set, length-append, length-drop, drop_of_length-le}
use lib.Seq.{sets, set_out, length-sets, take-suc, drop-cons}
use Rattle.lists.proofs.Cases.{test, tests, eqb_no}
use Rattle.text.specs.Writing.{figures, decimal, crlf, cell_text, line_text, reach, Wrote}

sets-append : (l : List ℕ) (i : ℕ) (a b : List ℕ) → sets l i (a ++ b) ≡ sets (sets l i a) (i + length a) b
sets-append l i [] b = rw (add-zero i)
sets-append l i (x ∷ a) b = sets-append (set l i x) (suc i) a b ∙ ap (λ (k : ℕ). sets (sets (set l i x) (suc i) a) k b) (omega arith)

sets_past : (l : List ℕ) (i : ℕ) (w : List ℕ) → length l ≤ i → sets l i w ≡ l
sets_past l i [] h = refl
sets_past l i (x ∷ w) h = rw (set_out l i x h) (sets_past l (suc i) w (omega arith))

-- Where there is no room left, nothing more is stored.
sets-reach : (l m : List ℕ) (at n : ℕ) (w : List ℕ) → length m ≡ length l → sets m (reach l at n) w ≡ sets m (at + n) w
sets-reach l m at n w h =
    test (leb (at + n) (length l))
    (λ e. ap (λ (i : ℕ). sets m i w) (omega tests))
    (λ e. sets_past m (reach l at n) w (omega tests) ∙ sym (sets_past m (at + n) w (omega tests)))

-- Nothing.
pub none : (l : List ℕ) (at : ℕ) → Wrote l at [] l at
none l at = record { text = refl; next = omega arith }

-- One text behind the other is both as one text.
pub then : {l a m b n : List ℕ} {at i j : ℕ} → Wrote l at a m i → Wrote m i b n j → Wrote l at (a ++ b) n j
then {l} {a} {m} {b} {n} {at} {i} {j} p q =
    let e : length m ≡ length l = ap length p.text ∙ length-sets l at a in
    record {
      text = q.text ∙ ap (λ (k : ℕ). sets m k b) p.next ∙ sets-reach l m at (length a) b e ∙ rw (p.text, sets-append l at a b);
      next = omega (arith, p.next, q.next, e, length-append a b);
    }

-- A word, byte by byte.
pub word_more :
    (word : List ℕ) {l m n : List ℕ} {at e e' : ℕ} (i : ℕ)
    → i < length word
    → Wrote l at (take i word) m e
    → Wrote m e (get_or word i 0 ∷ []) n e'
    → Wrote l at (take (i + 1) word) n e'
word_more word i h p q = rw (add-one i, take-suc word i 0 h) (then p q)

-- A number, digit by digit.
pub digit_none : (l : List ℕ) (at p x : ℕ) → p ≡ 0 → Wrote l at (figures p x) l at
unfolding figures
digit_none l at p x e = rw e (none l at)

tenth : (p x : ℕ) → 10 ≤ x → figures (suc p) x ≡ figures p (x / 10) ++ ((48 + x % 10) ∷ [])
unfolding figures
tenth p x h = rw (le-ltb _ _ h)

module _ {l m : List ℕ} {at i : ℕ} (p x : ℕ) (some : 0 < p) where
  pub digit_last : x < 10 → Wrote l at ((48 + x) ∷ []) m i → Wrote l at (figures p x) m i
  unfolding figures
  digit_last h w = let e : p ≡ suc (p - 1) = omega arith in rw (e, lt-ltb _ _ h) w

  pub digit_more :
      {n : List ℕ} {j : ℕ}
      → 10 ≤ x
      → Wrote l at (figures (p - 1) (x / 10)) m i
      → Wrote m i ((48 + x % 10) ∷ []) n j
      → Wrote l at (figures p x) n j
  digit_more h v w =
      let e : p ≡ suc (p - 1) = omega arith in
      rw (ap (λ k. figures k x) e ∙ tenth (p - 1) x h) (then v w)

-- The last of n is the one behind which none is left.
pub last_left : (n i : ℕ) → i < n → eqb (i + 1) n ≡ eqb (n - i - 1) 0
last_left n i h =
    test (eqb (i + 1) n) (λ e. e ∙ sym (eq-eqb _ _ (omega tests))) (λ e. e ∙ sym (ne_eqb _ _ (λ q. eqb_no (i + 1) n e (omega arith))))

-- A record, field by field: what is written and what is left make the whole line.
pub record Begun (values l : List ℕ) (at : ℕ) (m : List ℕ) (e i : ℕ) : Type 0 where
  pub text : List ℕ
  pub wrote : Wrote l at text m e
  pub whole : line_text values ≡ text ++ line_text (drop i values)

pub begun_none : (values l : List ℕ) (at : ℕ) → Begun values l at l at 0
begun_none values l at = record { text = []; wrote = none l at; whole = refl }

module _ (values : List ℕ) {l m : List ℕ} {at e i : ℕ} (b : Begun values l at m e i) where
  pub begun_more :
      {n : List ℕ} {e' : ℕ}
      → i < length values
      → Wrote m e (decimal (get_or values i 0) ++ cond (eqb (i + 1) (length values)) crlf (44 ∷ [])) n e'
      → Begun values l at n e' (i + 1)
  unfolding line_text
  begun_more h q =
      let z : length (drop (suc i) values) ≡ length values - i - 1 = length-drop (suc i) values ∙ omega arith in
      record {
        text = b.text ++ cell_text (length values - i - 1) (get_or values i 0);
        wrote = then b.wrote (rw (last_left (length values) i h) at q);
        whole = b.whole ∙ rw (drop-cons values i 0 h, z, add-one i) (sym (append_assoc b.text _ _));
      }

  pub begun_all : length values ≤ i → Wrote l at (line_text values) m e
  unfolding line_text
  begun_all h = rw (b.whole, drop_of_length-le values h, append-nil) b.wrote
