-- What is known of a set that the assignment accepts, and of one that it refuses.
use Rattle.std.specs.Prelude.{Option, Ok, Err}
use Prim.Native.Nat.{ℕ, ◌<◌, ◌≤◌}
use mathlib.Core.Bool.{true}
use mathlib.Core.List.{List, ◌++◌}
use mathlib.Core.Path.{◌≡◌, refl, sym, ap, ◌∙◌}
use native.Mathlib.Omega.{arith}
use borrow.Author.Tests.{eq-eqb}
use lib.ListN.{length, replicate, length-replicate}
use Rattle.lists.specs.Places.{places}
use Rattle.lists.proofs.Members.{in_places}
use Rattle.subjobs.specs.declared.Reason.{Reason}
use Rattle.subjobs.specs.Reasons.{place_of}
use Rattle.subjobs.specs.Sets.{Subjobs, size}
use Rattle.subjobs.specs.Terms.{terms}
use Rattle.subjobs.specs.Faults.{Fit}
use Rattle.subjobs.specs.Judging.{Judgement, passed, judged, judgement, if_passed}
use Rattle.subjobs.proofs.Exactly.{refused_passed}
use Rattle.subjobs.proofs.Fit.{fit}
use Rattle.olda.specs.declared.Report.{Report}
use Rattle.rules.specs.Method.{Outcome, placed, stuck, method}
use Rattle.olda.specs.Answers as olda
use Rattle.rules.proofs.Obeys.{method-placed}
use Rattle.rules.proofs.Accepted.{accepted_six}
use Rattle.olda.proofs.Results.{refused_within}
use Rattle.ticks.specs.Runs as ticks
use Rattle.edf.specs.Answers as edf
use Rattle.ticks.proofs.Ticks as run
use Rattle.edf.proofs.Fresh.{fresh_finishes}
use Rattle.table.specs.Writing.{out_header, refusal}
use Rattle.table.specs.Answers.{line_at, joined, accepted, tabled}
use Rattle.table.specs.Stores.{PrintableAt}
use Rattle.table.proofs.Printing.{InTime}

-- A set that refusals 1 to 4 pass, with the deadlines that the method gives it.
pub record Sound (s : Subjobs) (ds : List ℕ) : Type 0 where
  pub passed : judgement s true ≡ passed
  pub is : method s ≡ placed ds

-- What a sound set gives.
module _ (s : Subjobs) (ds : List ℕ) (w : Sound s ds) where
  pub fits : Fit s true
  fits = fit s true w.passed

  placed_six : (length ds ≡ size s) × ((i : ℕ) → i < size s → InTime s ds i)
  placed_six =
      let q = (method-placed s fits ds).0 w.is in
      (q.0, λ i h. (accepted_six (terms s) (places (size s)) q.1 i (in_places (size s) i h)).1)

  pub sound_length : length ds ≡ size s
  sound_length = placed_six.0

  -- Every deadline given is at most the bound.
  pub in_time : (i : ℕ) → i < size s → InTime s ds i
  in_time = placed_six.1

  -- A run of it, from totals of nothing, is never refused.
  pub run_finishes :
      (fs : List ℕ)
      → length fs ≡ size s
      → edf.finishes s ds s.executions fs (record { busy = 0; idle = 0 }) ≡ (ticks.run s ds s.executions).finishes
  run_finishes fs l = fresh_finishes s ds s.executions w.passed fs sound_length fits.lengths.executions l

  pub run_length : length (ticks.run s ds s.executions).finishes ≡ size s
  run_length = run.run_length s ds s.executions

-- What the assignment accepts is sound.
module _ (s : Subjobs) (out : List ℕ) where
  sound_by :
      (j : Judgement) (w : Outcome)
      → judgement s true ≡ j
      → method s ≡ w
      → judged (if_passed j (olda.outcome s w) Err) ≡ Ok tt
      → Sound s (if_passed j (olda.written w out) (λ r. out))
  sound_by (Err r) w p m e = refused_passed r e
  sound_by (Ok tt) (stuck q k) p m e = refused_passed _ e
  sound_by (Ok tt) (placed ds) p m e = record { passed = p; is = m }

  pub accepted_sound :
      length out ≡ size s
      → judged (olda.answer s (size s)) ≡ Ok tt
      → Sound s (olda.results s out)
  unfolding olda.answer olda.results
  accepted_sound l e =
      rw (eq-eqb (length out) (size s) l)
      (sound_by (judgement s true) (method s) refl refl (rw (eq-eqb (size s) (size s) refl) at e))

-- Whatever the list held before.
pub accepted_same :
    (s : Subjobs) (out old : List ℕ)
    → length out ≡ size s
    → length old ≡ size s
    → judged (olda.answer s (size s)) ≡ Ok tt
    → olda.results s out ≡ olda.results s old
accepted_same s out old l k e =
    placed_same (sym (accepted_sound s out l e).is ∙ (accepted_sound s old k e).is)
  where
    placed_same : {a b : List ℕ} → placed a ≡ placed b → a ≡ b
    placed_same q = cc

-- The output for a set, by what the assignment says.
module _ (s : Subjobs) where
  pub tabled_refused : (r : Reason) → judged (olda.answer s (size s)) ≡ Err r → tabled s ≡ refusal r
  unfolding tabled
  tabled_refused r e = rw e

  pub tabled-accepted : judged (olda.answer s (size s)) ≡ passed → tabled s ≡ accepted s (olda.results s (replicate (size s) 0))
  unfolding tabled
  tabled-accepted e = rw e

-- With room for its deadlines and finishes, what the code finds of a set is the output that is told.
module _ (s : Subjobs) (ds : List ℕ) (l : length ds ≡ size s) where
  module _ {q : Reason} (e : olda.answer s (length ds) ≡ Err q) where
    -- A refusal names a place of the set.
    pub refused_place : size s ≤ 128 → place_of q ≤ 129
    refused_place m = omega (arith, refused_within s (length ds) q e)

    pub refused_text : tabled s ≡ refusal q
    refused_text = tabled_refused s q (ap judged (rw l at e))

  module _ (fs : List ℕ) (f : length fs ≡ size s) {o : Option Report} (e : olda.answer s (length ds) ≡ Ok o) where
    abbrev Given : List ℕ
    Given = olda.results s ds

    abbrev Finished : List ℕ
    Finished = edf.finishes s Given s.executions fs (record { busy = 0; idle = 0 })

    accepts : judged (olda.answer s (size s)) ≡ passed
    accepts = ap judged (rw l at e)

    sound : Sound s Given
    sound = accepted_sound s ds l accepts

    finished : Finished ≡ (ticks.run s Given s.executions).finishes
    finished = run_finishes s Given sound fs f

    pub accepted_printable : (i : ℕ) → i < size s → PrintableAt s Given Finished i
    accepted_printable i h =
        let n = (fits s Given sound).lengths in
        record {
          jobs = h;
          subtasks = omega (arith, n);
          deadlines = omega (arith, n);
          criticals = omega (arith, n);
          local = omega (arith, sound_length s Given sound);
          finish = rw finished (omega (arith, run_length s Given sound));
          in_time = in_time s Given sound i h;
        }

    pub accepted_text : tabled s ≡ out_header ++ joined (line_at s Given Finished) (places (size s))
    unfolding accepted
    accepted_text =
        rw (tabled-accepted s accepts, accepted_same s (replicate (size s) 0) ds (length-replicate {A = ℕ} (size s) 0) l accepts, finished)
