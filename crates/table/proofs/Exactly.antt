-- A text is read as Format.antt tells it: what `read` gives is what `Reads` says, and nothing else is.
use Prim.Native.Nat.{ℕ, zero, suc, ◌+◌, ◌-◌, ◌<◌, ◌≤◌}
use mathlib.Core.List.{List, [], ◌∷◌, ◌++◌}
use mathlib.Core.Logic.{◌≢◌, ◌↔◌}
use mathlib.Core.Path.{◌≡◌, refl, sym, ap, ◌∙◌}
use native.Mathlib.Omega.{arith}
use borrow.Author.Tests.{lt-ltb, le-ltb, lt-leb, leb-true, ltb-true, ltb-false}
use lib.Dec.{ltb, leb}
use lib.ListN.{length, drop, length-append, length-drop, drop_of_length-le}
use Rattle.std.proofs.Common.{Some, None}
use Rattle.lists.proofs.Cases.{split, test, tests}
use Rattle.text.specs.Reading.{Fields}
use Rattle.text.proofs.Grammar.{record_read, record_cases, first_some, line_read, line_cases}
use Rattle.subjobs.specs.Reasons.{place_of}
use Rattle.table.specs.Format.{header, fields, Rows, Parsed, records, refused, Records, none, more, Begins, Reads, long, headless, malformed, many, table}
use Rattle.table.specs.Reading.{records_from, read}
use Rattle.table.proofs.Filling.{records_end}

never : {X : Type 0} {j : ℕ} → None ≡ Some j → X
never e = cc

-- Something is left to read, or nothing.
some_left : (text : List ℕ) (i : ℕ) → i < length text → drop i text ≢ []
some_left text i h e = omega (arith, sym (length-drop i text) ∙ ap length e)

left_some : (text : List ℕ) (i : ℕ) (t : List ℕ) → drop i text ≡ t → 1 ≤ length t → i < length text
left_some text i t e h = omega (arith, sym (length-drop i text) ∙ ap length e)

filled : (t : List ℕ) → t ≢ [] → 1 ≤ length t
filled [] h = absurd (h refl)
filled (b ∷ t) h = omega arith

-- From the rows read on, what is found is what is told.
from_told :
    (n : ℕ) (text : List ℕ) (rows : Rows) (i : ℕ)
    → length rows + n ≡ 128
    → Begins text rows (drop i text)
    → Reads text (records_from n rows text i)
unfolding records_from
from_told zero text rows i h b =
    test (leb (length text) i)
    (λ t. rw t (table (rw (drop_of_length-le text (leb-true _ _ t)) at b) (omega arith)))
    (λ t. rw t (many b (omega arith) (some_left text i (omega tests))))
from_told (suc n) text rows i h b =
    test (leb (length text) i)
    (λ t. rw t (table (rw (drop_of_length-le text (leb-true _ _ t)) at b) (omega arith)))
    (λ t.
    split (record_cases fields (omega arith) text i)
    (λ q.
    let l = length-append rows (q.0 ∷ []) in
    rw (t, q.2)
    (from_told n text (rows ++ (q.0 ∷ [])) q.1 (omega arith)
    (record { short = b.short; rest = b.rest; first = b.first; read = more b.read q.3 })))
    (λ q.
    rw (t, q)
    (malformed b (omega arith) (some_left text i (omega tests))
    (λ row u f. let r = record_read fields text i f in never (sym q ∙ ap (λ (w : Fields). w.end) r.1)))))

pub reads : (text : List ℕ) → Reads text (read text)
unfolding read
reads text =
    test (ltb 16_384 (length text))
    (λ t. rw t (long (ltb-true _ _ t)))
    (λ t.
    let s = ltb-false 16_384 (length text) t in
    split (line_cases header text)
    (λ q. rw (t, q.1) (from_told 128 text [] q.0 refl (record { short = s; rest = drop q.0 text; first = q.2; read = none })))
    (λ q. rw (t, q) (headless s (λ u l. let r = line_read header text l in never (sym q ∙ r.1)))))

-- And what is told is found: the rows are read one by one,
rows_read :
    {s t : List ℕ} {rows : Rows}
    → Records s rows t
    → (text : List ℕ) (i : ℕ)
    → drop i text ≡ s
    → length rows ≤ 128
    → (j : ℕ) × (drop j text ≡ t) × (records_from 128 [] text i ≡ records_from (128 - length rows) rows text j)
unfolding records_from
rows_read none text i e h = (i, e, refl)
rows_read (more {t = t} {row = row} {rows = rows} r f) text i e h =
    let l = length-append rows (row ∷ []) in
    let q = rows_read r text i e (omega arith) in
    let d = record_read fields text q.0 (rw (sym q.1) at f) in
    let z : 128 - length rows ≡ suc (128 - length (rows ++ (row ∷ []))) = omega arith in
    let k = left_some text q.0 t q.1 (first_some f) in
    (d.0, d.2, q.2 ∙ rw (z, lt-leb _ _ k, d.1))

-- from behind the first line on.
begun_read :
    {text t : List ℕ} {rows : Rows}
    → Begins text rows t
    → length rows ≤ 128
    → (j : ℕ) × (drop j text ≡ t) × (read text ≡ records_from (128 - length rows) rows text j)
unfolding read
begun_read {text} b h =
    let l = line_read header text b.first in
    let q = rows_read b.read text l.0 l.2 h in
    (q.0, q.1, rw (le-ltb _ _ b.short, l.1) q.2)

pub told_read : {text : List ℕ} {p : Parsed} → Reads text p → read text ≡ p
unfolding read records_from
told_read (long h) = rw (lt-ltb _ _ h)
told_read (headless {text} h n) =
    split (line_cases header text) (λ q. absurd (n _ q.2)) (λ q. rw (le-ltb _ _ h, q))
told_read (malformed {text} {t} {rows} b h s n) =
    let q = begun_read b (omega arith) in
    let z : 128 - length rows ≡ suc (128 - length rows - 1) = omega arith in
    let k = left_some text q.0 t q.1 (filled t s) in
    split (record_cases fields (omega arith) text q.0) (λ r. absurd (n r.0 _ (rw q.1 at r.3))) (λ r. q.2 ∙ rw (z, lt-leb _ _ k, r))
told_read (many {text} {t} {rows} b h s) =
    let q = begun_read b (omega arith) in
    let z : 128 - length rows ≡ 0 = omega arith in
    let k = left_some text q.0 t q.1 (filled t s) in
    q.2 ∙ rw (z, lt-leb _ _ k)
told_read (table {text} {rows} b h) =
    let q = begun_read b h in
    q.2 ∙ records_end (128 - length rows) rows text q.0 (omega (arith, sym (length-drop q.0 text) ∙ ap length q.1))

-- A text is read as p exactly if that is what it says.
pub read_exactly : (text : List ℕ) (p : Parsed) → (read text ≡ p) ↔ Reads text p
read_exactly text p = (λ e. rw e at (reads text), told_read)

-- At most 128 records, or a refusal at one of their lines or at the next: the line that is printed is a small number.
abbrev pub Within : Parsed → Type 0
Within (records rows) = length rows ≤ 128
Within (refused r) = place_of r ≤ 129

within : {text : List ℕ} {p : Parsed} → Reads text p → Within p
within (long h) = omega arith
within (headless h n) = omega arith
within (malformed b h s n) = omega arith
within (many b h s) = omega arith
within (table b h) = h

pub read_within : (text : List ℕ) → Within (read text)
read_within text = within (reads text)
