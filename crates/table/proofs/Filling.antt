-- The records while they are read, line by line.
use Prim.Native.Nat.{ℕ, zero, suc, ◌+◌, ◌-◌, ◌<◌, ◌≤◌}
use mathlib.Core.List.{List, [], ◌∷◌, ◌++◌, map-append}
use mathlib.Core.Path.{◌≡◌, refl, sym, ◌∙◌}
use native.Mathlib.Omega.{arith}
use borrow.Author.Tests.{le-leb, lt-leb}
use lib.ListN.{length, get_or, length-append, length-map}
use Rattle.std.proofs.Common.{Some, None, Ok, Err}
use Rattle.lists.proofs.Count.{left_more, left_none}
use Rattle.subjobs.specs.Sets.{Subjobs, size}
use Rattle.subjobs.specs.declared.Reason.{Reason}
use Rattle.subjobs.specs.declared.Reason.TheVariants as reason
use Rattle.text.specs.Reading.{record_at}
use Rattle.table.specs.Format.{fields, Rows, Parsed, records, refused}
use Rattle.table.specs.Reading.{records_from, set_of}
use Rattle.table.specs.Stores.{pushed, told}

-- The set of some rows has one place for each.
pub size_of : (rows : Rows) → size (set_of rows) ≡ length rows
size_of rows = length-map rows (λ (row : List ℕ). get_or row 0 0)

one_more : (rows : Rows) (row : List ℕ) → length (rows ++ (row ∷ [])) ≡ length rows + 1
one_more rows row = length-append rows (row ∷ [])

-- One row more, one sub-job more.
pushed_row : (rows : Rows) (row : List ℕ) → pushed (set_of rows) row ≡ set_of (rows ++ (row ∷ []))
pushed_row rows row = simp map-append

-- Nothing is left to read.
pub records_end : (n : ℕ) (rows : Rows) (text : List ℕ) (i : ℕ) → length text ≤ i → records_from n rows text i ≡ records rows
unfolding records_from
records_end zero rows text i h = rw (le-leb _ _ h)
records_end (suc n) rows text i h = rw (le-leb _ _ h)

-- The rows read before i make the set, and what is read from i on decides the whole.
pub record Reached (text : List ℕ) (at : ℕ) (s : Subjobs) (i : ℕ) : Type 0 where
  pub rows : Rows
  pub is : s ≡ set_of rows
  pub few : length rows ≤ 128
  pub rest : records_from (128 - length rows) rows text i ≡ records_from 128 [] text at

pub reached_start : (text : List ℕ) (at : ℕ) → Reached text at (set_of []) at
reached_start text at = record { rows = []; is = refl; few = omega arith; rest = refl }

module _ {text : List ℕ} {at i : ℕ} {s : Subjobs} (r : Reached text at s i) where
  pub many : size s ≡ length r.rows
  many = rw r.is (size_of r.rows)

  pub reached_end : length text ≤ i → Ok s ≡ told (records_from 128 [] text at)
  reached_end h = rw (← r.rest, records_end (128 - length r.rows) r.rows text i h, r.is)

  module _ (h : i < length text) where
    pub reached_many : 128 ≤ size s → Err reason.TooMany ≡ told (records_from 128 [] text at)
    unfolding records_from
    reached_many m = rw (← r.rest, left_none 128 (length r.rows) (omega (arith, many)), lt-leb _ _ h)

    module _ (m : size s < 128) where
      pub reached_broken :
          (record_at fields text i).end ≡ None → Err (reason.Malformed (size s + 2)) ≡ told (records_from 128 [] text at)
      unfolding records_from
      reached_broken e = rw (← r.rest, left_more 128 (length r.rows) (omega (arith, many)), lt-leb _ _ h, e, many)

      pub reached_more :
          (row : List ℕ) (j : ℕ) → record_at fields text i ≡ record { values = row; end = Some j } → Reached text at (pushed s row) j
      unfolding records_from
      reached_more row j e =
          record {
            rows = r.rows ++ (row ∷ []);
            is = rw r.is (pushed_row r.rows row);
            few = omega (arith, many, one_more r.rows row);
            rest = rw (one_more r.rows row) (sym (sym r.rest ∙ rw (left_more 128 (length r.rows) (omega (arith, many)), lt-leb _ _ h, e)));
          }

-- What was told, by what the reader answers.
pub told_refused : (p : Parsed) (r : Reason) → Err r ≡ told p → p ≡ refused r
told_refused (records rows) r e = cc
told_refused (refused x) r e = cc

pub told_records : (p : Parsed) (s : Subjobs) → Ok s ≡ told p → (rows : Rows) × (p ≡ records rows) × (s ≡ set_of rows)
told_records (records rows) s e = (rows, refl, cc)
told_records (refused x) s e = cc
