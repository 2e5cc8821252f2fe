-- What is promised of the table program's text holds: reading by the law of `table`, the rest by what is promised of
-- `assign`.
use Rattle.std.specs.Prelude.{Ok, Err, Some, None}
use Prim.Native.Nat.{ℕ, ◌≤◌}
use mathlib.Core.Bool.{true}
use mathlib.Core.List.{List, map}
use mathlib.Core.Path.{◌≡◌, refl, sym, ap, ◌∙◌}
use native.Mathlib.Omega.{arith}
use borrow.Author.Tests.{eq-eqb}
use lib.Dec.{eqb}
use lib.ListN.{length, get_or, replicate, length-map, length-replicate}
use Rattle.lists.proofs.Cases.{split}
use Rattle.subjobs.specs.declared.Reason.{Reason}
use Rattle.subjobs.specs.declared.Reason.TheVariants.{Late}
use Rattle.subjobs.specs.Terms.{terms, bound}
use Rattle.subjobs.specs.Reasons.{number_of}
use Rattle.subjobs.specs.Sets.{Subjobs, size}
use Rattle.subjobs.specs.Judging.{judgement}
use Rattle.subjobs.specs.Faults as faults
use Rattle.subjobs.specs.Faults.{OneLength, Fit, Faulty}
use Rattle.subjobs.proofs.Fit.{fit_passes, judged, judged_exactly}
use Rattle.rules.specs.Method.{Outcome, placed, stuck, method}
use Rattle.rules.proofs.Obeys.{method-placed, method-stuck}
use Rattle.olda.specs.Answers.{Answer}
use Rattle.olda.specs.Answers as olda
use Rattle.table.specs.Format as format
use Rattle.table.specs.Format.{Rows, Parsed, records, refused, Reads}
use Rattle.table.specs.Reading.{read, set_of}
use Rattle.table.specs.Writing.{printed_line, refusal}
use Rattle.table.specs.Answers as table
use Rattle.table.proofs.Exactly.{read_exactly}
use Rattle.table.proofs.Longest.{answer-length}
use Rattle.table.proofs.OneLine.{accepted_lines}
use Rattle.subjobs.specs.Judging as judging
use Rattle.table.specs.Answers.{tabled, answer}
use Rattle.promises.specs.Words.{accepted, Assigned, at}
use Rattle.promises.specs.Text as says
use Rattle.promises.specs.Text.{refused_line, printed, Tabled, TableSays, TableAnswers, OneLineEach, AnswerFits}
use Rattle.promises.proofs.Faulted.{refused_number}
use Rattle.promises.proofs.Assign.{refused_answer, placed-answer, stuck-answer, report-accepted, assigned_rules}

-- An answer whose number is 0 is no refusal.
no_refusal : (a : Answer) → accepted (olda.values a) → judging.judged a ≡ Ok tt
no_refusal (Ok (Some r)) h = refl
no_refusal (Ok None) h = refl
no_refusal (Err r) h = absurd (refused_number r h)

-- A refusal's line has its number and the line that it names.
line_of_lem : (r : Reason) → refusal r ≡ refused_line (number_of r) (printed_line r)
unfolding refusal
line_of_lem r = refl

-- The records of a table are lists of one length.
pub rows_length : (rows : Rows) → OneLength (set_of rows) true
rows_length rows =
    record {
      subtasks = same 1;
      releases = same 2;
      executions = same 3;
      deadlines = same 4;
      criticals = same 5;
      further = refl;
    }
  where
    same : (k : ℕ) → length (map (λ (row : List ℕ). get_or row k 0) rows) ≡ length (map (λ (row : List ℕ). get_or row 0 0) rows)
    same k = length-map rows (λ (row : List ℕ). get_or row k 0) ∙ sym (length-map rows (λ (row : List ℕ). get_or row 0 0))

pub rows-size : (rows : Rows) → size (set_of rows) ≡ length rows
rows-size rows = length-map rows (λ (row : List ℕ). get_or row 0 0)

-- A set, with a result list of its size.
module _ (s : Subjobs) where
  abbrev room : List ℕ
  room = replicate (size s) 0

  long : length room ≡ size s
  long = length-replicate {A = ℕ} (size s) 0

  lent : eqb (length room) (size s) ≡ true
  lent = eq-eqb (length room) (size s) long

  tabled_refused : {r : Reason} → olda.answer s (size s) ≡ Err r → tabled s ≡ refusal r
  unfolding tabled
  tabled_refused e = rw e

  tabled_passed : {ds : List ℕ} → judging.judged (olda.answer s (size s)) ≡ Ok tt → olda.results s room ≡ ds → tabled s ≡ printed s ds
  unfolding tabled table.accepted
  tabled_passed e q = rw (e, q)

  judged_refused : {r : Reason} → judgement s true ≡ Err r → tabled s ≡ refusal r
  judged_refused {r} e =
      let j : judgement s (eqb (length room) (size s)) ≡ Err r = rw lent e in
      tabled_refused (ap (olda.answer s) (sym long) ∙ (refused_answer s room j).0)

  module _ (f : Fit s true) where
    fits : Fit s (eqb (length room) (size s))
    fits = rw lent f

    is_stuck : {p m : ℕ} → method s ≡ stuck p m → tabled s ≡ refusal (Late p m (bound (terms s) p))
    is_stuck {p} {m} q = tabled_refused (ap (olda.answer s) (sym long) ∙ (stuck-answer s room fits p m q).0)

    is_placed : {ds : List ℕ} → method s ≡ placed ds → tabled s ≡ printed s ds
    is_placed {ds} q =
        let a = placed-answer s room fits ds q in
        tabled_passed (ap (λ (n : ℕ). judging.judged (olda.answer s n)) (sym long) ∙ ap judging.judged a.0 ∙ no_refusal (Ok (olda.report s (at ds))) (report-accepted s ds)) a.1

    pub gives : {ds : List ℕ} → method s ≡ placed ds → Assigned s ds
    gives {ds} q = let a = placed-answer s room fits ds q in (room, rw a.0 (report-accepted s ds), a.1)

-- What the output is, by what the text is read as.
module _ (text : List ℕ) where
  read-refused : {r : Reason} → read text ≡ refused r → answer text ≡ refused_line (number_of r) (printed_line r)
  unfolding answer
  read-refused {r} e = rw e (line_of_lem r)

  read-records : {rows : Rows} → read text ≡ records rows → answer text ≡ tabled (set_of rows)
  unfolding answer
  read-records e = rw e

  module _ {rows : Rows} (t : Tabled text rows) where
    is_read : answer text ≡ tabled (set_of rows)
    is_read = read-records ((read_exactly text (records rows)).1 (format.table t.0 t.1))

    few : size (set_of rows) ≤ 128
    few = omega (arith, rows-size rows, t.1)

    by_fault : {r : Reason} → Faulty (set_of rows) true r → TableSays text (refused_line (number_of r) (printed_line r))
    by_fault (faults.lengths n) = absurd (n (rows_length rows))
    by_fault (faults.many l m) = absurd (omega (arith, few))
    by_fault (faults.range p f l m h a b n) = says.range t (faults.range p f l m h a b n)
    by_fault (faults.pair p j l m a h b k e) = says.pair t (faults.pair p j l m a h b k e)

    by_method : Fit (set_of rows) true → (w : Outcome) → method (set_of rows) ≡ w → TableSays text (tabled (set_of rows))
    by_method f (stuck p m) q =
        let s = set_of rows in
        rw (is_stuck s f q, line_of_lem (Late p m (bound (terms s) p))) (says.late t f ((method-stuck s f p m).0 q))
    by_method f (placed ds) q = rw (is_placed (set_of rows) f q) (says.accepted t (gives (set_of rows) f q))

    by_set : TableSays text (tabled (set_of rows))
    by_set =
        let s = set_of rows in
        split (judged s true).holds
        (λ f. by_method f (method s) refl)
        (λ q. rw (judged_refused s ((judged s true).refuses q.0 q.1), line_of_lem q.0) (by_fault q.1))

  by_reading : {p : Parsed} → read text ≡ p → Reads text p → TableSays text (answer text)
  by_reading e (format.long h) = rw (read-refused e) (says.long h)
  by_reading e (format.headless h n) = rw (read-refused e) (says.headless h n)
  by_reading e (format.malformed b h n m) = rw (read-refused e) (says.malformed b h n m)
  by_reading e (format.many b h n) = rw (read-refused e) (says.many b h n)
  by_reading e (format.table b h) = rw (read-records e) (by_set (b, h))

  refusing : {r : Reason} → Reads text (refused r) → refused_line (number_of r) (printed_line r) ≡ answer text
  refusing {r} h = sym (read-refused ((read_exactly text (refused r)).1 h))

  faulting : {rows : Rows} {r : Reason} → Tabled text rows → Faulty (set_of rows) true r → refused_line (number_of r) (printed_line r) ≡ answer text
  faulting {rows} {r} t f = sym (is_read t ∙ judged_refused (set_of rows) ((judged_exactly (set_of rows) true r).1 f) ∙ line_of_lem r)

  only : {o : List ℕ} → TableSays text o → o ≡ answer text
  only (says.long h) = refusing (format.long h)
  only (says.headless h n) = refusing (format.headless h n)
  only (says.malformed b h n m) = refusing (format.malformed b h n m)
  only (says.many b h n) = refusing (format.many b h n)
  only (says.range t f) = faulting t f
  only (says.pair t f) = faulting t f
  only (says.late {rows} {p} {m} t f h) =
      let s = set_of rows in
      sym (is_read t ∙ is_stuck s f ((method-stuck s f p m).1 h) ∙ line_of_lem (Late p m (bound (terms s) p)))
  only (says.accepted {rows} {ds} t h) =
      let s = set_of rows in
      let w = assigned_rules s ds h in
      let f : Fit s true = rw w.0.lengths.further at w.0 in
      sym (is_read t ∙ is_placed s f ((method-placed s f ds).1 (w.1, w.2)))

pub table_answers : TableAnswers
table_answers text = (by_reading text refl ((read_exactly text (read text)).0 refl), λ o h. only text h)

pub one_line_each : OneLineEach
unfolding table.accepted
one_line_each s ds h =
    let w = assigned_rules s ds h in
    let f : Fit s true = rw w.0.lengths.further at w.0 in
    accepted_lines s ds
    (record { passed = fit_passes s true f; is = (method-placed s f ds).1 (w.1, w.2) })

pub answer_fits : AnswerFits
answer_fits = answer-length
