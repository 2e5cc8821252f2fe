-- Reading is the grammar of Format.antt: what stands in a text is read (the laws -read), and what is read stands there,
-- or nothing is read (the laws -cases).
use Prim.Native.Nat.{ℕ, zero, suc, ◌+◌, ◌*◌, ◌-◌, ◌<◌, ◌≤◌}
use mathlib.Core.Bool.{true, ◌&&◌, ◌||◌}
use mathlib.Core.List.{List, [], ◌∷◌, ◌++◌, append_assoc, append-nil}
use mathlib.Core.Logic.{◌⊎◌, inl, inr}
use Rattle.std.proofs.Common.{Some, None}
use mathlib.Core.Path.{◌≡◌, refl, sym, ap, ◌∙◌}
use native.Mathlib.Nat.{add-zero, zero-add}
use native.Mathlib.Numerals.{add-one}
use native.Mathlib.Omega.{arith}
use borrow.Author.Tests.{le-ltb, le-leb, lt-leb, leb-true, eq-eqb, ne_eqb, eqb-true}
use lib.Dec.{ltb, leb, eqb}
use lib.ListN.{length, drop, length-drop, length-append, drop_of_length-le, get_or-eq_default}
use lib.Seq.{drop-drop, drop-append_seam, drop-cons, drop-length, get_or-drop}
use Rattle.lists.specs.Places.{Every}
use Rattle.lists.proofs.Cases.{split, test, clash, both, tests}
use Rattle.text.specs.Reading.{byte_at, Cell, digits, number, number_at, followed, field_at, cell_at, line_end, record_at, starts, after_line}
use Rattle.text.specs.Format.{Digit, value_from, Number, Field, bare, quoted, Record, last, more, Line, First}
use Rattle.text.proofs.Scanning.{digit}

-- What stands in a text from i on.
abbrev pub At : List ℕ → ℕ → List ℕ → Type 0
At text i w = drop i text ≡ w

module _ (text : List ℕ) (i : ℕ) where
  at_next : (a b : List ℕ) → At text i (a ++ b) → At text (i + length a) b
  at_next a b e = sym (drop-drop (length a) i text) ∙ rw e (drop-append_seam a b)

  at_end : At text i [] → length text ≤ i
  at_end e = omega (arith, sym (length-drop i text) ∙ ap length e)

  module _ (b : ℕ) (bs : List ℕ) (e : At text i (b ∷ bs)) where
    at_in : i < length text
    at_in = omega (arith, sym (length-drop i text) ∙ ap length e)

    at_byte : byte_at text i ≡ b
    at_byte = ap (λ (k : ℕ). byte_at text k) (sym (add-zero i)) ∙ sym (get_or-drop i text 0 0) ∙ rw e

    at_one : At text (i + 1) bs
    at_one = at_next (b ∷ []) bs e

  -- A byte that is not 0 stands in the text.
  byte_at_lem : (b : ℕ) → 0 < b → byte_at text i ≡ b → At text i (b ∷ drop (i + 1) text)
  byte_at_lem b h e =
      test (leb (length text) i)
      (λ t. let z = get_or-eq_default text 0 (leb-true _ _ t) in absurd (omega arith))
      (λ t. let l : i < length text = omega tests in drop-cons text i 0 l ∙ rw (e, add-one i))

-- A run of digits ends before s.
abbrev Stops : List ℕ → Type 0
Stops s = (v n i : ℕ) → digits v n i s ≡ record { value = v; count = n; end = i }

stops_none : Stops []
unfolding digits
stops_none v n i = refl

stops_at : (b : ℕ) (s : List ℕ) → (ltb b 48 || ltb 57 b) ≡ true → Stops (b ∷ s)
unfolding digits
stops_at b s e v n i = rw e

digits_read :
    (ds s : List ℕ) (v n i : ℕ)
    → Every Digit ds
    → digits v n i (ds ++ s) ≡ digits (value_from v ds) (n + length ds) (i + length ds) s
unfolding digits value_from
digits_read [] s v n i a = rw (add-zero n, add-zero i)
digits_read (d ∷ ds) s v n i a =
    let c : n + 1 + length ds ≡ n + suc (length ds) = omega arith in
    let j : i + 1 + length ds ≡ i + suc (length ds) = omega arith in
    rw (le-ltb d 48 a.0.0, le-ltb 57 d a.0.1, digits_read ds s (v * 10 + (d - 48)) (n + 1) (i + 1) a.1, c, j)

-- The digits that bs begins with.
digits_cases :
    (v n i : ℕ) (bs : List ℕ)
    → (ds : List ℕ)
    × (s : List ℕ)
    × (bs ≡ ds ++ s)
    × Every Digit ds
    × (digits v n i bs ≡ record { value = value_from v ds; count = n + length ds; end = i + length ds })
unfolding digits value_from
digits_cases v n i [] = ([], [], refl, tt, rw (add-zero n, add-zero i))
digits_cases v n i (b ∷ bs) =
    test (ltb b 48 || ltb 57 b)
    (λ e. ([], b ∷ bs, refl, tt, rw (e, add-zero n, add-zero i)))
    (λ e.
    let q = digits_cases (v * 10 + (b - 48)) (n + 1) (i + 1) bs in
    let c : n + 1 + length q.0 ≡ n + suc (length q.0) = omega arith in
    let j : i + 1 + length q.0 ≡ i + suc (length q.0) = omega arith in
    (b ∷ q.0, q.1, ap (λ (l : List ℕ). b ∷ l) q.2, (digit b e, q.3), rw (e, q.4, c, j)))

-- A word of value v stands at i, and is read as c; or nothing is.
abbrev Found : (List ℕ → ℕ → Type 0) → List ℕ → ℕ → Cell → Type 0
Found P text i c =
    ((w : List ℕ) × (v : ℕ) × P w v × At text i (w ++ drop (i + length w) text) × (c ≡ Some (v, i + length w)))
    ⊎ (c ≡ None)

-- A word with a byte behind it.
abbrev Behind : ℕ → (List ℕ → ℕ → Type 0) → List ℕ → ℕ → Type 0
Behind b P w v = (u : List ℕ) × P u v × (w ≡ u ++ (b ∷ []))

module _ (text : List ℕ) (i : ℕ) where
  number_read : (s : List ℕ) → Stops s → (ds : List ℕ) (v : ℕ) → Number ds v → At text i (ds ++ s) → number_at text i ≡ Some (v, i + length ds)
  unfolding number
  number_read s stop ds v w e =
      rw (
        e,
        digits_read ds s 0 0 i w.digits,
        stop,
        zero-add (length ds),
        w.is,
        le-leb 1 (length ds) w.some,
        le-leb (length ds) 10 w.few,
        le-leb v 4_294_967_295 w.small,
      )

  number_cases : Found Number text i (number_at text i)
  unfolding number
  number_cases =
      let q = digits_cases 0 0 i (drop i text) in
      let ds = q.0 in
      test (leb 1 (length ds) && leb (length ds) 10 && leb (value_from 0 ds) 4_294_967_295)
      (λ t.
      let a = both t in
      let b = both a.0 in
      let n : Number ds (value_from 0 ds) =
      record { digits = q.3; some = leb-true _ _ b.0; few = leb-true _ _ b.1; is = refl; small = leb-true _ _ a.1 } in
      inl (ds, value_from 0 ds, n, q.2 ∙ ap (λ (l : List ℕ). ds ++ l) (sym (at_next text i ds q.1 q.2)), rw (q.4, zero-add (length ds), t)))
      (λ t. inr (rw (q.4, zero-add (length ds), t)))

  followed_read :
      (b v : ℕ) (w s : List ℕ) → At text i (w ++ (b ∷ s)) → followed text b (Some (v, i + length w)) ≡ Some (v, i + length w + 1)
  followed_read b v w s e = rw (eq-eqb _ _ (at_byte text (i + length w) b s (at_next text i w (b ∷ s) e)))

  followed_cases : (P : List ℕ → ℕ → Type 0) (b : ℕ) → 0 < b → (c : Cell) → Found P text i c → Found (Behind b P) text i (followed text b c)
  followed_cases P b h c (inr e) = inr (rw e)
  followed_cases P b h c (inl (w, v, p, e, q)) =
      let j = i + length w in
      test (eqb (byte_at text j) b)
      (λ t.
      let l : i + length (w ++ (b ∷ [])) ≡ j + 1 = omega (arith, length-append w (b ∷ [])) in
      let f = e ∙ ap (λ (x : List ℕ). w ++ x) (byte_at_lem text j b h (eqb-true _ _ t)) ∙ sym (append_assoc w (b ∷ []) (drop (j + 1) text)) in
      inl (w ++ (b ∷ []), v, (w, p, refl), rw l f, rw (q, t, l)))
      (λ t. inr (rw (q, t)))

module _ (text : List ℕ) (i : ℕ) where
  field_read : (s : List ℕ) → Stops s → {w : List ℕ} {v : ℕ} → Field w v → At text i (w ++ s) → field_at text i ≡ Some (v, i + length w)
  unfolding field_at
  field_read s stop (bare {ds = []} {v = v} n) e = let h = n.some in absurd (omega arith)
  field_read s stop (bare {ds = d ∷ ds} {v = v} n) e =
      let b = at_byte text i d (ds ++ s) e in
      let h = n.digits.0 in
      rw (ne_eqb (byte_at text i) 34 (λ q. omega (arith, b, h))) (number_read text i s stop (d ∷ ds) v n e)
  field_read s stop (quoted {ds} {v} n) e =
      let f : At text (i + 1) (ds ++ (34 ∷ s)) = at_one text i 34 (ds ++ (34 ∷ []) ++ s) e ∙ append_assoc ds (34 ∷ []) s in
      rw (eq-eqb (byte_at text i) 34 (at_byte text i 34 (ds ++ (34 ∷ []) ++ s) e), number_read text (i + 1) (34 ∷ s) (stops_at 34 s refl) ds v n f, followed_read text (i + 1) 34 v ds s f)
      (ap (λ (k : ℕ). Some (v, k)) (omega (arith, length-append ds (34 ∷ []))))

  field_cases : Found Field text i (field_at text i)
  unfolding field_at
  field_cases =
      test (eqb (byte_at text i) 34)
      (λ t. rw t (in_quotes (eqb-true _ _ t) (followed_cases text (i + 1) Number 34 (omega arith) (number_at text (i + 1)) (number_cases text (i + 1)))))
      (λ t. rw t (as_bare (number_cases text i)))
    where
      as_bare : Found Number text i (number_at text i) → Found Field text i (number_at text i)
      as_bare (inl (w, v, n, e, q)) = inl (w, v, bare n, e, q)
      as_bare (inr e) = inr e

      in_quotes :
          {c : Cell} → byte_at text i ≡ 34 → Found (Behind 34 Number) text (i + 1) c → Found Field text i c
      in_quotes t (inr e) = inr e
      in_quotes t (inl (w, v, (ds, n, z), e, q)) =
          let k : i + 1 + length w ≡ i + suc (length w) = omega arith in
          inl (34 ∷ w, v, rw z (quoted n), byte_at_lem text i 34 (omega arith) t ∙ rw (e, k), rw (q, k))

  -- Of the fields of a record, the last and the others.
  last_read : (s : List ℕ) → Stops s → {w : List ℕ} {v : ℕ} → Field w v → At text i (w ++ s) → cell_at 0 text i ≡ Some (v, i + length w)
  unfolding cell_at
  last_read s stop f e = field_read s stop f e

  parted_read : (n : ℕ) → 0 < n → (s : List ℕ) {w : List ℕ} {v : ℕ} → Field w v → At text i (w ++ (44 ∷ s)) → cell_at n text i ≡ Some (v, i + length w + 1)
  unfolding cell_at
  parted_read n h s {w} {v} f e =
      rw (ne_eqb n 0 (λ q. omega arith), field_read (44 ∷ s) (stops_at 44 s refl) f e, followed_read text i 44 v w s e)

  last_cases : Found Field text i (cell_at 0 text i)
  unfolding cell_at
  last_cases = field_cases

  parted_cases : (n : ℕ) → Found (Behind 44 Field) text i (cell_at (suc n) text i)
  unfolding cell_at
  parted_cases n = rw (ne_eqb (suc n) 0 (λ q. omega arith)) (followed_cases text i Field 44 (omega arith) (field_at text i) field_cases)

  end_read : At text i [] → line_end text i ≡ Some i
  unfolding line_end
  end_read e = rw (le-leb _ _ (at_end text i e))

  crlf_read : (w : List ℕ) → At text i (13 ∷ 10 ∷ w) → line_end text i ≡ Some (i + 2)
  unfolding line_end
  crlf_read w e =
      rw (
        lt-leb _ _ (at_in text i 13 (10 ∷ w) e),
        eq-eqb _ _ (at_byte text i 13 (10 ∷ w) e),
        eq-eqb _ _ (at_byte text (i + 1) 10 w (at_one text i 13 (10 ∷ w) e)),
      )

  -- A line ends at i, or none does.
  end_cases : ((j : ℕ) × (line_end text i ≡ Some j) × Line [] (drop i text) (drop j text)) ⊎ (line_end text i ≡ None)
  unfolding line_end
  end_cases =
      test (leb (length text) i)
      (λ t. let z = drop_of_length-le text (leb-true _ _ t) in inl (i, rw t, inr (z, z)))
      (λ t.
      test (eqb (byte_at text i) 13 && eqb (byte_at text (i + 1)) 10)
      (λ u.
      let b = both u in
      let n : i + 1 + 1 ≡ i + 2 = omega arith in
      let f = byte_at_lem text (i + 1) 10 (omega arith) (eqb-true _ _ b.1) in
      inl (i + 2, rw (t, u), inl (byte_at_lem text i 13 (omega arith) (eqb-true _ _ b.0) ∙ rw (f, n))))
      (λ u. inr (rw (t, u))))

some_fields : {k : ℕ} {w vs : List ℕ} → Record k w vs → 0 < k
some_fields (last f) = omega arith
some_fields (more f r) = omega arith

-- The fields of a record, and what stands behind them.
fields_read :
    {k : ℕ} {w vs : List ℕ}
    → Record k w vs
    → (text : List ℕ) (i : ℕ) (s : List ℕ)
    → Stops s
    → At text i (w ++ s)
    → (j : ℕ) × At text j s × (record_at k text i ≡ record { values = vs; end = line_end text j })
unfolding record_at
fields_read (last {w} {v} f) text i s stop e = (i + length w, at_next text i w s e, rw (last_read text i s stop f e))
fields_read (more {k = k} {w = w} {s = u} f r) text i s stop e =
    let g = e ∙ append_assoc w (44 ∷ u) s in
    let n = at_one text (i + length w) 44 (u ++ s) (at_next text i w (44 ∷ (u ++ s)) g) in
    let q = fields_read r text (i + length w + 1) s stop n in
    (q.0, q.1, rw (parted_read text i k (some_fields r) (u ++ s) f g, q.2))

-- A record that is the first line from i on is read, and what follows it begins at the next line.
pub record_read :
    (k : ℕ) (text : List ℕ) (i : ℕ) {vs t : List ℕ}
    → First k (drop i text) vs t
    → (j : ℕ) × (record_at k text i ≡ record { values = vs; end = Some j }) × At text j t
record_read k text i {vs} {t} r =
    split r.stands
    (λ e.
    let q = fields_read r.is text i (13 ∷ 10 ∷ t) (stops_at 13 (10 ∷ t) refl) e in
    (q.0 + 2, q.2 ∙ rw (crlf_read text q.0 t q.1), at_next text q.0 (13 ∷ 10 ∷ []) t q.1))
    (λ e.
    let q = fields_read r.is text i [] stops_none (e.0 ∙ sym (append-nil r.line)) in
    (q.0, q.2 ∙ rw (end_read text q.0 q.1), q.1 ∙ sym e.1))

-- What stands in front of a line is a part of it.
longer : (w : List ℕ) {s u l t : List ℕ} → s ≡ w ++ u → Line l u t → Line (w ++ l) s t
longer w {s} {u} {l} {t} e (inl f) = inl (e ∙ rw (f, append_assoc w l (13 ∷ 10 ∷ t)))
longer w e (inr f) = inr (e ∙ ap (λ (x : List ℕ). w ++ x) f.0, f.1)

abbrev Cases : ℕ → List ℕ → ℕ → Type 0
Cases k text i =
    ((vs : List ℕ)
    × (j : ℕ)
    × (record_at k text i ≡ record { values = vs; end = Some j })
    × First k (drop i text) vs (drop j text))
    ⊎ ((record_at k text i).end ≡ None)

fields_cases : (n : ℕ) (text : List ℕ) (i : ℕ) → Cases (suc n) text i
unfolding record_at
fields_cases zero text i =
    split (last_cases text i)
    (λ q.
    split (end_cases text (i + length q.0))
    (λ l.
    let f = longer q.0 q.3 l.2 in
    inl (q.1 ∷ [], l.0, rw (q.4, l.1), record { line = q.0; is = last q.2; stands = rw (append-nil q.0) at f }))
    (λ m. inr (rw (q.4, m))))
    (λ m. inr (rw m))
fields_cases (suc n) text i =
    split (parted_cases text i n)
    (λ q.
    split (fields_cases n text (i + length q.0))
    (λ r.
    let u = q.2.0 in
    let f = longer q.0 q.3 r.3.stands in
    let g = rw (q.2.2, append_assoc u (44 ∷ []) r.3.line) at f in
    inl (q.1 ∷ r.0, r.1, rw (q.4, r.2), record { line = u ++ (44 ∷ r.3.line); is = more q.2.1 r.3.is; stands = g }))
    (λ m. inr (rw (q.4, m))))
    (λ m. inr (rw m))

-- The first line from i on is a record, and is read; or it is none.
pub record_cases : (k : ℕ) → 0 < k → (text : List ℕ) (i : ℕ) → Cases k text i
record_cases k h text i = let e : k ≡ suc (k - 1) = omega arith in rw e (fields_cases (k - 1) text i)

field_some : {w : List ℕ} {v : ℕ} → Field w v → 1 ≤ length w
field_some (bare n) = n.some
field_some (quoted n) = omega arith

record_some : {k : ℕ} {w vs : List ℕ} → Record k w vs → 1 ≤ length w
record_some (last f) = field_some f
record_some (more {w = w} {s = s} f r) = omega (arith, length-append w (44 ∷ s))

-- A record is no empty text.
pub first_some : {k : ℕ} {s vs t : List ℕ} → First k s vs t → 1 ≤ length s
first_some {t = t} r =
    split r.stands (λ e. rw e (omega (arith, record_some r.is, length-append r.line (13 ∷ 10 ∷ t))))
    (λ e. rw e.0 (record_some r.is))

-- The first line of a text.
starts_read : (ws bs : List ℕ) → starts ws (ws ++ bs) ≡ true
unfolding starts
starts_read [] bs = refl
starts_read (w ∷ ws) bs = rw (eq-eqb w w refl) (starts_read ws bs)

starts_cases : (ws text : List ℕ) → starts ws text ≡ true → text ≡ ws ++ drop (length ws) text
unfolding starts
starts_cases [] text e = refl
starts_cases (w ∷ ws) [] e = clash e refl
starts_cases (w ∷ ws) (b ∷ bs) e =
    test (eqb b w)
    (λ t. rw (eqb-true b w t) (ap (λ (l : List ℕ). w ∷ l) (starts_cases ws bs (rw t at e))))
    (λ t. clash e (rw t))

module _ (w text : List ℕ) where
  pub line_read : {t : List ℕ} → Line w text t → (j : ℕ) × (after_line w text ≡ Some j) × At text j t
  unfolding after_line
  line_read {t} (inl e) =
      let s : starts w text ≡ true = rw e (starts_read w (13 ∷ 10 ∷ t)) in
      let f : At text (length w) (13 ∷ 10 ∷ t) = rw e (drop-append_seam w (13 ∷ 10 ∷ t)) in
      (length w + 2, rw (s, crlf_read text (length w) t f), at_next text (length w) (13 ∷ 10 ∷ []) t f)
  line_read (inr (e, z)) =
      let s : starts w text ≡ true = rw e (rw (append-nil w) at (starts_read w [])) in
      let f : At text (length w) [] = rw e (drop-length w) in
      (length w, rw (s, end_read text (length w) f), rw z f)

  pub line_cases : ((j : ℕ) × (after_line w text ≡ Some j) × Line w text (drop j text)) ⊎ (after_line w text ≡ None)
  unfolding after_line
  line_cases =
      test (starts w text)
      (λ t.
      split (end_cases text (length w))
      (λ l. inl (l.0, rw (t, l.1), rw (append-nil w) at (longer w (starts_cases w text t) l.2)))
      (λ m. inr (rw (t, m))))
      (λ t. inr (rw t))
