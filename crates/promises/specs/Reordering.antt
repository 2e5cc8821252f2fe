-- The order of a set's list does not matter: of a call, and of the same call with all its lists rearranged alike, the same is
-- said of each sub-job.
--
--   Rearranges ps n       == each of the n places stands in ps, once, and no other (lists/specs/Places)
--   taken ps xs           == the list xs in the order of ps: at each place what xs has where ps says
--   rearranged ps s       == the set with its six lists in that order
--   Number n v            == the number of an answer with the values v is n
--   AssignMoves s ps out' v l v' l' == where a call of `assign` on s gives the values v and the list l, the rearranged call
--                            may give v' and l'; its result list held out' before
--   AssignReorders        == it does
--   SimulateMoves ps fs' v l u v' l' u' == the same of the simulator, with the totals u and u' after it
--   SimulateReorders      == it does
--   CheckReorders         == the checker answers with the same number
--   DoorMoves n ps out' v l v' l' == the same of charoktan_assign on n records, in the numbers that it returns
--   DoorReorders          == it does, if the engine hands over its records in another order
--   TableMoves s ps o o'  == where the table program's output on a table of the set s is o, that on its records in the order of
--                            ps may be o'
--   TableReorders         == it is
--   TurnedRound           == small sets and the same turned round
use Rattle.std.specs.Prelude.{ℕ, ◌+◌, ◌*◌, ◌<◌, ◌≤◌, List, [], ◌∷◌, ◌++◌, map, ◌≡◌, ℤ, pos, length, get_or}
use Rattle.lists.specs.Places.{Rearranges, taken}
use Rattle.subjobs.specs.Sets.{Subjobs, subjobs, size, rearranged}
use Rattle.subjobs.specs.Faults.{OneLength}
use Rattle.olda.specs.Answers as olda
use Rattle.edf.specs.declared.Totals.{Totals}
use Rattle.edf.specs.Answers as edf
use Rattle.checker.specs.Answers as checker
use Rattle.table.specs.Format.{Rows}
use Rattle.table.specs.Reading.{set_of}
use Rattle.table.specs.Writing.{out_header}
use Rattle.table.specs.Answers as table
use Rattle.table.specs.Answers.{joined}
use Rattle.charoktan.specs.Records.{count, records, encoded}
use Rattle.charoktan.specs.Answers.{assigned, assigned_bytes}
use Rattle.promises.specs.Words.{Number, refusal, at}
use Rattle.promises.specs.Assign.{Reported, results_fit}
use Rattle.promises.specs.Check.{proposed_fit}
use Rattle.promises.specs.Text.{refused_line, printed_line, printed, Tabled}
use Rattle.promises.specs.Door.{Whole}
use Rattle.promises.specs.Cases as cases
use Rattle.promises.specs.Cases.{Row, Holds, sub, least_slack, p6}

pub data AssignMoves (s : Subjobs) (ps out' : List ℕ) : List ℤ → List ℕ → List ℤ → List ℕ → Type 0 where
  -- refused by 2, 3 or 4: refused by the same number
  faulty :
      {n p f p' f' : ℕ} {l : List ℕ} → 2 ≤ n → n ≤ 4 → AssignMoves s ps out' (refusal n p f) l (refusal n p' f') out'
  -- refused by 5: with the same completion and bound, at the place where that sub-job stands now
  late :
      {p p' : ℕ} {m b : ℤ} {l : List ℕ}
      → p' < size s
      → at ps p' ≡ p
      → AssignMoves s ps out' (pos 5 ∷ pos p ∷ pos 0 ∷ m ∷ b ∷ []) l (pos 5 ∷ pos p' ∷ pos 0 ∷ m ∷ b ∷ []) out'
  -- nothing to place: nothing to place
  nothing : AssignMoves s ps out' (pos 0 ∷ []) [] (pos 0 ∷ []) []
  -- accepted: each sub-job keeps its deadline, the least slack is the same, and its place is the smallest that has it now
  placed :
      {ds : List ℕ} {p p' : ℕ} {x : ℤ}
      → Reported (rearranged ps s) (taken ps ds) p' x
      → AssignMoves s ps out' (pos 0 ∷ x ∷ pos p ∷ []) ds (pos 0 ∷ x ∷ pos p' ∷ []) (taken ps ds)

-- Of every call whose lists are of one length, and of any rearrangement.
abbrev pub AssignReorders : Type 0
AssignReorders =
    (s : Subjobs) (ps out out' : List ℕ)
    → OneLength s (results_fit s out)
    → length out' ≡ length out
    → Rearranges ps (size s)
    → AssignMoves s ps out' (olda.values (olda.answer s (length out))) (olda.results s out)
    (olda.values (olda.answer (rearranged ps s) (length out'))) (olda.results (rearranged ps s) out')

pub data SimulateMoves (ps fs' : List ℕ) : List ℤ → List ℕ → Totals → List ℤ → List ℕ → Totals → Type 0 where
  -- refused by 2, 3 or 4: refused by the same number; the totals are the same
  faulty :
      {n p f p' f' : ℕ} {l : List ℕ} {t : Totals}
      → 2 ≤ n
      → n ≤ 4
      → SimulateMoves ps fs' (refusal n p f) l t (refusal n p' f') fs' t
  -- refused by 8: refused by 8
  above : {l : List ℕ} {t : Totals} → SimulateMoves ps fs' (refusal 8 0 0) l t (refusal 8 0 0) fs' t
  -- accepted: each sub-job keeps its finish; the end and the totals are the same
  ran :
      {e : ℤ} {fs : List ℕ} {t : Totals} → SimulateMoves ps fs' (pos 0 ∷ e ∷ []) fs t (pos 0 ∷ e ∷ []) (taken ps fs) t

-- The deadlines and the asks are rearranged with the six lists. `simulate` and `run` share these words.
abbrev pub SimulateReorders : Type 0
SimulateReorders =
    (s : Subjobs) (ps ds asks fs fs' : List ℕ) (t : Totals)
    → OneLength s (edf.further_lists s ds asks (length fs))
    → length fs' ≡ length fs
    → Rearranges ps (size s)
    → let s' = rearranged ps s in
    let ds' = taken ps ds in
    let asks' = taken ps asks in
    SimulateMoves ps fs'
    (edf.values (edf.answer s ds asks (length fs) t)) (edf.finishes s ds asks fs t) (edf.totals s ds asks (length fs) t)
    (edf.values (edf.answer s' ds' asks' (length fs') t)) (edf.finishes s' ds' asks' fs' t) (edf.totals s' ds' asks' (length fs') t)

-- The proposed deadlines are rearranged with the six lists: accepted stays accepted, and refused by a number refused by it.
abbrev pub CheckReorders : Type 0
CheckReorders =
    (s : Subjobs) (ps ds : List ℕ)
    → OneLength s (proposed_fit s ds)
    → Rearranges ps (size s)
    → (n : ℕ)
    → Number n (checker.values (checker.answer s ds))
    → Number n (checker.values (checker.answer (rearranged ps s) (taken ps ds)))

pub data DoorMoves (n : ℕ) (ps out' : List ℕ) : ℕ → List ℕ → ℕ → List ℕ → Type 0 where
  -- refused by 2, 3 or 4: refused by the same number
  faulty :
      {k : ℕ} {l : List ℕ} (p p' : ℕ) → 2 ≤ k → k ≤ 4 → DoorMoves n ps out' (k + 65_536 * p) l (k + 65_536 * p') out'
  -- refused by 5: at the place where that record stands now
  late :
      {p p' : ℕ} {l : List ℕ} → p' < n → at ps p' ≡ p → DoorMoves n ps out' (5 + 65_536 * p) l (5 + 65_536 * p') out'
  -- accepted: each record keeps its deadline
  placed : (ds : List ℕ) → DoorMoves n ps out' 0 (encoded ds) 0 (encoded (taken ps ds))

-- The bytes of bs' are records too, those of bs in the order of ps.
abbrev pub DoorReorders : Type 0
DoorReorders =
    (bs bs' ps out out' : List ℕ)
    → Whole bs out
    → Whole bs' out'
    → records bs' ≡ rearranged ps (records bs)
    → Rearranges ps (count bs)
    → DoorMoves (count bs) ps out' (assigned bs (length out)) (assigned_bytes bs out) (assigned bs' (length out')) (assigned_bytes bs' out')

pub data TableMoves (s : Subjobs) (ps : List ℕ) : List ℕ → List ℕ → Type 0 where
  -- refused by 3 or 4: refused by the same number
  faulty : (n l l' : ℕ) → 3 ≤ n → n ≤ 4 → TableMoves s ps (refused_line n l) (refused_line n l')
  -- refused by 5: with the line on which that record stands now
  late : (p p' : ℕ) → p' < size s → at ps p' ≡ p → TableMoves s ps (refused_line 5 (p + 2)) (refused_line 5 (p' + 2))
  -- accepted: the same lines in the new order
  accepted : (ds : List ℕ) → TableMoves s ps (printed s ds) (out_header ++ joined (printed_line s ds) ps)

-- The text of text' is a table of the same records, in the order of ps.
abbrev pub TableReorders : Type 0
TableReorders =
    (text text' : List ℕ) (rows : Rows) (ps : List ℕ)
    → Tabled text rows
    → Tabled text' (map (λ p. get_or rows p []) ps)
    → Rearranges ps (length rows)
    → TableMoves (set_of rows) ps (table.answer text) (table.answer text')

-- two sub-jobs with slack 2
abbrev pub alike : Subjobs
alike = cases.set_of (sub 0 1 3 ∷ sub 1 1 4 ∷ [])

-- two sub-jobs of one job with equal bounds
abbrev pub one_job : Subjobs
one_job = subjobs (5 ∷ 5 ∷ []) (2 ∷ 1 ∷ []) (0 ∷ 0 ∷ []) (2 ∷ 3 ∷ []) (9 ∷ 9 ∷ []) (0 ∷ 0 ∷ [])

-- P6 and these, each with the same turned round. Of two equal least slacks the first place is reported both times.
abbrev pub turned : List Row
turned =
    cases.assigned p6 (least_slack 4 0) (5 ∷ 3 ∷ [])
    ∷ cases.assigned (rearranged (1 ∷ 0 ∷ []) p6) (least_slack 4 1) (3 ∷ 5 ∷ [])
    ∷ cases.assigned one_job (least_slack 4 0) (5 ∷ 3 ∷ [])
    ∷ cases.assigned (rearranged (1 ∷ 0 ∷ []) one_job) (least_slack 4 1) (3 ∷ 5 ∷ [])
    ∷ cases.assigned alike (least_slack 2 0) (1 ∷ 2 ∷ [])
    ∷ cases.assigned (rearranged (1 ∷ 0 ∷ []) alike) (least_slack 2 0) (2 ∷ 1 ∷ [])
    ∷ []

abbrev pub TurnedRound : Type 0
TurnedRound = Holds turned
