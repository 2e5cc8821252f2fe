-- What is written reads back: a record of any numbers, each field bare or in quotes and with any leading zeros that fit,
-- is a record of those numbers.
--
--   Style              == how a field is written: in quotes or bare, and with how many leading zeros
--   field_text st v     == a field of value v in this style
--   record_text st k vs == a record of the values vs, the first in the style of column k, the others in those of the next
--   Fit st k vs        == each value is a 32-bit number, and its field has at most 10 digits
use Prim.Native.Nat.{ℕ, zero, suc, ◌+◌, ◌*◌, ◌-◌, ◌/◌, ◌%◌, ◌^◌, ◌<◌, ◌≤◌}
use mathlib.Core.Bool.{Bool, cond}
use mathlib.Core.List.{List, [], ◌∷◌, ◌++◌}
use mathlib.Core.Path.{◌≡◌, refl, ◌∙◌}
use native.Mathlib.Nat.{pow-suc}
use native.Mathlib.Omega.{arith}
use lib.Dec.{ltb}
use lib.ListN.{length, replicate, length-append, length-replicate}
use Rattle.lists.specs.Places.{Every}
use Rattle.lists.proofs.Cases.{test}
use Rattle.lists.proofs.Members.{every_append}
use Rattle.text.specs.Writing.{figures, decimal}
use Rattle.text.specs.Format.{Digit, value_from, Number, Field, bare, quoted, Record, last, more}
use Rattle.text.proofs.Printed.{figures_digits}

value_append : (v : ℕ) (a b : List ℕ) → value_from v (a ++ b) ≡ value_from (value_from v a) b
unfolding value_from
value_append v [] b = refl
value_append v (d ∷ a) b = value_append (v * 10 + (d - 48)) a b

figures_some : (p x : ℕ) → 1 ≤ length (figures (suc p) x)
unfolding figures
figures_some p x =
    test (ltb x 10) (λ e. rw e (omega arith)) (λ e. rw e (omega (arith, length-append (figures p (x / 10)) ((48 + x % 10) ∷ []))))

figures_value : (p x : ℕ) → x < 10 ^ p → value_from 0 (figures p x) ≡ x
unfolding figures value_from
figures_value zero x h = omega arith
figures_value (suc p) x h =
    let g : x / 10 < 10 ^ p = omega (arith, pow-suc 10 p) in
    test (ltb x 10) (λ e. rw e (omega arith))
    (λ e. rw (e, value_append 0 (figures p (x / 10)) ((48 + x % 10) ∷ []), figures_value p (x / 10) g) (omega arith))

-- Leading zeros.
zeros_digits : (z : ℕ) → Every Digit (replicate z 48)
zeros_digits zero = tt
zeros_digits (suc z) = ((omega arith, omega arith), zeros_digits z)

zeros_value : (z : ℕ) (ds : List ℕ) → value_from 0 (replicate z 48 ++ ds) ≡ value_from 0 ds
unfolding value_from
zeros_value zero ds = refl
zeros_value (suc z) ds = zeros_value z ds

pub record Style : Type 0 where
  pub quoted : Bool
  pub zeros : ℕ

abbrev digits_text : Style → ℕ → List ℕ
digits_text st v = replicate st.zeros 48 ++ decimal v

abbrev pub field_text : Style → ℕ → List ℕ
field_text st v = cond st.quoted (34 ∷ (digits_text st v ++ (34 ∷ []))) (digits_text st v)

abbrev pub record_text : (ℕ → Style) → ℕ → List ℕ → List ℕ
record_text st k [] = []
record_text st k (v ∷ []) = field_text (st k) v
record_text st k (v ∷ u ∷ vs) = field_text (st k) v ++ (44 ∷ record_text st (suc k) (u ∷ vs))

abbrev pub Fit : (ℕ → Style) → ℕ → List ℕ → Type 0
Fit st k [] = Unit {0}
Fit st k (v ∷ vs) = (v ≤ 4_294_967_295) × ((st k).zeros + length (decimal v) ≤ 10) × Fit st (suc k) vs

number_written : (st : Style) (v : ℕ) → v ≤ 4_294_967_295 → st.zeros + length (decimal v) ≤ 10 → Number (digits_text st v) v
number_written st v s h =
    let l : length (digits_text st v) ≡ st.zeros + length (decimal v) = simp (length-append, length-replicate) in
    record {
      digits = every_append Digit (replicate st.zeros 48) (decimal v) (zeros_digits st.zeros) (figures_digits 10 v);
      some = omega (arith, l, figures_some 9 v);
      few = omega (arith, l);
      is = zeros_value st.zeros (decimal v) ∙ figures_value 10 v (omega arith);
      small = s;
    }

field_written : (st : Style) (v : ℕ) → v ≤ 4_294_967_295 → st.zeros + length (decimal v) ≤ 10 → Field (field_text st v) v
field_written st v s h =
    test st.quoted (λ e. rw e (quoted (number_written st v s h))) (λ e. rw e (bare (number_written st v s h)))

pub record_written :
    (st : ℕ → Style) (k v : ℕ) (vs : List ℕ) → Fit st k (v ∷ vs) → Record (suc (length vs)) (record_text st k (v ∷ vs)) (v ∷ vs)
record_written st k v [] h = last (field_written (st k) v h.0 h.1)
record_written st k v (u ∷ vs) h = more (field_written (st k) v h.0 h.1) (record_written st (suc k) u vs h.2)
