-- What is promised of a table's records in another order holds: the set is the rearranged one, and so are the lines.
use Prim.Native.Nat.{ℕ, zero, suc, ◌+◌, ◌≤◌}
use mathlib.Core.Bool.{true}
use mathlib.Core.List.{List, [], ◌∷◌, ◌++◌, map, Memᴰ}
use mathlib.Core.Path.{◌≡◌, refl, sym, ap, ◌∙◌, subst}
use native.Mathlib.Omega.{arith}
use lib.ListN.{get_or}
use Rattle.lists.specs.Places.{places, Rearranges, taken}
use Rattle.lists.proofs.Cases.{split}
use Rattle.lists.proofs.Taken.{standing, rearranges_places}
use Rattle.subjobs.specs.declared.Reason.{Reason}
use Rattle.subjobs.specs.Reasons.{number_of}
use Rattle.subjobs.specs.Sets.{Subjobs, size, rearranged}
use Rattle.subjobs.specs.Faults as faults
use Rattle.subjobs.specs.Faults.{Fit, Faulty}
use Rattle.subjobs.proofs.Exactly.{same_refused}
use Rattle.subjobs.proofs.Fit.{judged, judged_exactly}
use Rattle.subjobs.proofs.Rearranging.{rearranged-size, rearranged_alike, rearranged_stands, rearranged_fit, rearranged_judged, taken_there}
use Rattle.rules.specs.Rules.{RefusedAt}
use Rattle.rules.specs.Method.{Outcome, placed, stuck, method}
use Rattle.rules.proofs.Obeys.{method-stuck}
use Rattle.rules.proofs.Renaming.{renamed_slack}
use Rattle.rules.proofs.Rearranging.{alike_renamed, method_moved, method_stays}
use Rattle.ticks.specs.Runs.{Run, run}
use Rattle.ticks.proofs.Rearranging.{run_moved}
use Rattle.olda.proofs.Results.{fit_inside}
use Rattle.table.specs.Format.{Rows}
use Rattle.table.specs.Reading.{column, set_of}
use Rattle.table.specs.Writing.{out_header}
use Rattle.table.specs.Answers.{joined, answer}
use Rattle.promises.specs.Words.{Assigned, at}
use Rattle.promises.specs.Text as text
use Rattle.promises.specs.Text.{refused_line, printed_line, printed, Tabled}
use Rattle.promises.specs.Reordering as says
use Rattle.promises.specs.Reordering.{TableMoves, TableReorders}
use Rattle.promises.proofs.Text.{rows_length, rows-size, gives, table_answers}

-- The records in the order of ps tell the rearranged set.
abbrev rows_in : List ℕ → Rows → Rows
rows_in ps rows = map (λ p. get_or rows p []) ps

field_at : (k p : ℕ) (rows : Rows) → get_or (get_or rows p []) k 0 ≡ get_or (column k rows) p 0
field_at k p [] = refl
field_at k zero (row ∷ rows) = refl
field_at k (suc p) (row ∷ rows) = field_at k p rows

column_moved : (k : ℕ) (ps : List ℕ) (rows : Rows) → column k (rows_in ps rows) ≡ taken ps (column k rows)
column_moved k [] rows = refl
column_moved k (p ∷ ps) rows = rw (field_at k p rows, column_moved k ps rows)

rows-rearranged : (ps : List ℕ) (rows : Rows) → set_of (rows_in ps rows) ≡ rearranged ps (set_of rows)
rows-rearranged ps rows =
    rw (
      column_moved 0 ps rows,
      column_moved 1 ps rows,
      column_moved 2 ps rows,
      column_moved 3 ps rows,
      column_moved 4 ps rows,
      column_moved 5 ps rows,
    )

joined_moved :
    (f g : ℕ → List ℕ) (π : ℕ → ℕ) (xs : List ℕ)
    → ((i : ℕ) → Memᴰ i xs → g i ≡ f (π i))
    → joined g xs ≡ joined f (map π xs)
unfolding joined
joined_moved f g π [] h = refl
joined_moved f g π (x ∷ xs) h =
    rw (h x (Memᴰ.head refl), joined_moved f g π xs (λ i m. h i (Memᴰ.tail m)))

-- A table whose set is refused by 3 or 4 says so, on some line.
fault_line :
    (t : List ℕ) {rows : Rows} {r : Reason}
    → Tabled t rows
    → Faulty (set_of rows) true r
    → (l : ℕ) × (answer t ≡ refused_line (number_of r) l) × (3 ≤ number_of r) × (number_of r ≤ 4)
fault_line t {rows} w (faults.lengths n) = absurd (n (rows_length rows))
fault_line t {rows} w (faults.many l m) = absurd (omega (arith, rows-size rows, w.1))
fault_line t w (faults.range p f l m h a b n) =
    (p + 2, sym ((table_answers t).1 _ (text.range w (faults.range p f l m h a b n))), omega arith, omega arith)
fault_line t w (faults.pair p j l m a h b k e) =
    (p + 2, sym ((table_answers t).1 _ (text.pair w (faults.pair p j l m a h b k e))), omega arith, omega arith)

module _ (s : Subjobs) (ps : List ℕ) (r : Rearranges ps (size s)) (f : Fit s true) where
  -- The line of a sub-job is the same wherever it stands.
  line_moved :
      (ds : List ℕ) (i : ℕ)
      → Memᴰ i (places (size (rearranged ps s)))
      → printed_line (rearranged ps s) (taken ps ds) i ≡ printed_line s ds (get_or ps i 0)
  line_moved ds i m =
      let e = rearranged_alike ps s r in
      let F : List ℕ = (run s ds s.executions).finishes in
      let ran : (run (rearranged ps s) (taken ps ds) (rearranged ps s).executions).finishes ≡ taken ps F =
      ap (λ (R : Run). R.finishes) (run_moved ps s r ds s.executions f)
      in
      rw (
        ran,
        e.job i m,
        e.subtask i m,
        taken_there ps s r F i m,
        renamed_slack (alike_renamed e) (at (taken ps ds)) (at ds) (taken_there ps s r ds) i m,
        taken_there ps s r ds i m,
      )

  printed_moved : (ds : List ℕ) → printed (rearranged ps s) (taken ps ds) ≡ out_header ++ joined (printed_line s ds) ps
  printed_moved ds =
      let n = rearranged-size ps s r in
      ap (λ (l : List ℕ). out_header ++ l)
      (joined_moved (printed_line s ds) (printed_line (rearranged ps s) (taken ps ds)) (λ i. get_or ps i 0) (places (size (rearranged ps s))) (line_moved ds)
      ∙ ap (λ (m : ℕ). joined (printed_line s ds) (map (λ i. get_or ps i 0) (places m))) n
      ∙ ap (joined (printed_line s ds)) (rearranges_places ps (size s) r))

module _ (t t' : List ℕ) (rows : Rows) (ps : List ℕ) (w : Tabled t rows) (w' : Tabled t' (rows_in ps rows)) (r : Rearranges ps (size (set_of rows))) where
  abbrev s : Subjobs
  s = set_of rows

  same : set_of (rows_in ps rows) ≡ rearranged ps s
  same = rows-rearranged ps rows

  faulty_moves : (q : Reason) → Faulty s true q → TableMoves s ps (answer t) (answer t')
  faulty_moves q h =
      let v = same_refused (rearranged_judged ps s r true (rows_length rows)) ((judged_exactly s true q).1 h) in
      let a = fault_line t w h in
      let b = fault_line t' {r = v.0} w' (rw same ((judged_exactly (rearranged ps s) true v.0).0 v.1)) in
      rw (a.1, b.1, ← v.2) (says.faulty (number_of q) a.0 b.0 a.2 a.3)

  module _ (f : Fit s true) where
    fit_moved : Fit (rearranged ps s) true
    fit_moved = rearranged_fit ps s r f

    late_moves : (p m : ℕ) → method s ≡ stuck p m → TableMoves s ps (answer t) (answer t')
    late_moves p m q =
        let a = (table_answers t).1 _ (text.late w f ((method-stuck s f p m).0 q)) in
        let refused =
        subst (λ (z : Subjobs). RefusedAt z (standing ps p) m) (sym same)
        ((method-stuck (rearranged ps s) fit_moved (standing ps p) m).0 (method_stays ps s r f p m q))
        in
        let b = (table_answers t').1 _ (text.late w' (rw same fit_moved) refused) in
        let now = rearranged_stands ps s r p (fit_inside s f p m q) in
        rw (← a, ← b) (says.late p (standing ps p) now.0 now.1)

    placed_moves : (ds : List ℕ) → method s ≡ placed ds → TableMoves s ps (answer t) (answer t')
    placed_moves ds q =
        let a = (table_answers t).1 _ (text.accepted w (gives s f q)) in
        let g : Assigned (set_of (rows_in ps rows)) (taken ps ds) = rw same (gives (rearranged ps s) fit_moved (method_moved ps s r f ds q)) in
        let b = (table_answers t').1 _ (text.accepted w' g) in
        let lines = ap (λ (z : Subjobs). printed z (taken ps ds)) same ∙ printed_moved s ps r f ds in
        rw (← a, ← b, lines) (says.accepted ds)

    by_method : (v : Outcome) → method s ≡ v → TableMoves s ps (answer t) (answer t')
    by_method (stuck p m) q = late_moves p m q
    by_method (placed ds) q = placed_moves ds q

pub table_reorders : TableReorders
table_reorders t t' rows ps w w' r =
    let k : Rearranges ps (size (set_of rows)) = rw (rows-size rows) r in
    split (judged (set_of rows) true).holds
    (λ f. by_method t t' rows ps w w' k f (method (set_of rows)) refl)
    (λ q. faulty_moves t t' rows ps w w' k q.0 q.1)
