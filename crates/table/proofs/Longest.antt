-- The longest answer: a header of 35 bytes and 128 lines of at most 56. So there is always room for it.
use Rattle.std.specs.Prelude.{Ok, Err}
use Prim.Native.Nat.{ℕ, zero, suc, ◌+◌, ◌*◌, ◌<◌, ◌≤◌}
use mathlib.Core.List.{List, [], ◌∷◌}
use mathlib.Core.Path.{◌≡◌, refl, sym, ◌∙◌}
use native.Mathlib.Nat.{zero-add}
use native.Mathlib.Omega.{arith}
use lib.ListN.{length, replicate, length-append, length-map, length-replicate, get_or}
use lib.Seq.{sets-eq, length-sets, length-take-le}
use Rattle.lists.specs.Places.{from}
use Rattle.subjobs.specs.declared.Reason.{Reason}
use Rattle.subjobs.specs.Reasons.{number_of}
use Rattle.subjobs.specs.Sets.{Subjobs, size}
use Rattle.subjobs.specs.Judging.{Judgement, judged, if_passed}
use Rattle.olda.specs.Answers as olda
use Rattle.ticks.specs.Runs as ticks
use Rattle.text.specs.Writing.{Wrote}
use Rattle.text.proofs.Printed.{line_length}
use Rattle.table.specs.Format.{Parsed, records, refused}
use Rattle.table.specs.Reading.{read, set_of}
use Rattle.table.specs.Writing.{printed_line, refusal}
use Rattle.table.specs.Answers.{line_at, joined, accepted, tabled, on_parsed, answer, Tables, Counts}
use Rattle.table.specs.Stores.{numbers_at}
use Rattle.table.proofs.Printing.{line_at_is, refusal_is}
use Rattle.table.proofs.Outcomes.{Sound, in_time, accepted_sound}
use Rattle.table.proofs.Exactly.{Within, read_within}

refusal-length : (r : Reason) → length (refusal r) ≤ 31
refusal-length r = rw (refusal_is r) (omega (arith, line_length (number_of r ∷ printed_line r ∷ [])))

joined_length : (f : ℕ → List ℕ) (a n : ℕ) → ((i : ℕ) → i < a + n → length (f i) ≤ 56) → length (joined f (from a n)) ≤ 56 * n
unfolding joined from
joined_length f a zero h = omega arith
joined_length f a (suc n) h =
    omega
    (arith, length-append (f a) (joined f (from (suc a) n)), h a (omega arith), joined_length f (suc a) n (λ i l. h i (omega arith)))

accepted-length : (s : Subjobs) (ds : List ℕ) → Sound s ds → length (accepted s ds) ≤ 35 + 56 * size s
unfolding accepted
accepted-length s ds w =
    let fs = (ticks.run s ds s.executions).finishes in
    omega (
      arith,
      joined_length (line_at s ds fs) 0 (size s)
          (λ i l. rw (line_at_is s ds fs i (in_time s ds w i (omega arith))) (line_length (numbers_at s ds fs i))),
    )

tabled-length : (s : Subjobs) → size s ≤ 128 → length (tabled s) ≤ 7_203
unfolding tabled
tabled-length s m = by (judged (olda.answer s (size s))) refl
  where
    by : (j : Judgement) → judged (olda.answer s (size s)) ≡ j → length (if_passed j (accepted s (olda.results s (replicate (size s) 0))) refusal) ≤ 7_203
    by (Err r) e = omega (arith, refusal-length r)
    by (Ok tt) e =
        omega (arith, accepted-length s (olda.results s (replicate (size s) 0)) (accepted_sound s (replicate (size s) 0) (length-replicate {A = ℕ} (size s) 0) e))

-- No answer is longer than 7,203 bytes.
pub answer-length : (text : List ℕ) → length (answer text) ≤ 7_203
unfolding answer
answer-length text = by (read text) (read_within text)
  where
    by : (p : Parsed) → Within p → length (on_parsed p) ≤ 7_203
    by (records rows) h = tabled-length (set_of rows) (omega (arith, length-map rows (λ (r : List ℕ). get_or r 0 0)))
    by (refused r) h = omega (arith, refusal-length r)

-- An answer that was written into an output of that size stands there whole.
pub answer_written :
    (text : List ℕ) {out out' : List ℕ} {r : ℕ} → length out ≡ 7_203 → Wrote out 0 (answer text) out' r → Tables text out r out' × Counts r out'
answer_written text {out} {out'} {r} l w =
    let h = answer-length text in
    let e = zero-add (length (answer text)) in
    let c : r ≤ length out' = rw (w.text, length-sets out 0 (answer text)) (omega (arith, w.next)) in (
      record {
        count = omega (arith, w.next);
        bytes = w.text ∙ sets-eq (answer text) out 0 (omega arith) ∙ rw e;
      },
      (c, sym (length-take-le r out' c)),
    )
