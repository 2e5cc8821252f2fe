-- What is promised of a room holds: what comes of each set is what `assign` says of it, in that set's own stretch.
use Rattle.std.specs.Prelude.{Ok, Err, Some, None}
use Prim.Native.Nat.{ℕ, ◌*◌, ◌<◌}
use mathlib.Core.List.{List, ◌∷◌}
use mathlib.Core.Path.{◌≡◌, refl, sym, ap, ◌∙◌, subst}
use native.Mathlib.Omega.{arith}
use lib.IntN.{ℤ, pos}
use lib.ListN.{length}
use lib.Seq.{ext_get_or}
use Rattle.lists.proofs.Cases.{split}
use Rattle.subjobs.specs.declared.Reason.{Reason}
use Rattle.subjobs.specs.Reasons as told
use Rattle.subjobs.specs.Sets.{Subjobs, size}
use Rattle.subjobs.specs.Judging.{values}
use Rattle.olda.specs.Answers.{Answer}
use Rattle.olda.specs.Answers as olda
use Rattle.stretches.specs.Stretches.{start}
use Rattle.stretches.specs.Answers.{Room, room, number, place, judgement, deadlines_after, numbers_after, places_after}
use Rattle.stretches.specs.Faults as faults
use Rattle.stretches.specs.Faults.{Fit, Faulty}
use Rattle.stretches.proofs.Stretched.{same_stretches}
use Rattle.stretches.proofs.Judged.{judged, read_exactly, refused_exactly}
use Rattle.stretches.proofs.Outcome.{refused_keeps, read_numbers, read_places, numbers_length, places_length, stretch-length, deadlines-length, after_length, number_told, place_told, stretch_left}
use Rattle.promises.specs.Words.{accepted, at}
use Rattle.promises.specs.Assign.{AssignSays}
use Rattle.promises.specs.Rooms as says
use Rattle.promises.specs.Rooms.{set_of, stretch_of, SetSays, RoomSays, RoomAnswers, OneCallPerSet, AcceptedSets, RefusedSetKeeps, RoomsAgree}
use Rattle.promises.proofs.Faulted.{refused_number}
use Rattle.promises.proofs.Assign.{assign_answers, assign_keeps}
use Rattle.promises.proofs.Door.{not_0, assign_refuses}

-- An answer's number is the first of its values.
number_first : {n : ℕ} {vs : List ℤ} (a : Answer) → pos n ∷ vs ≡ olda.values a → n ≡ number a
number_first (Ok (Some r)) e = cc
number_first (Ok None) e = cc
number_first (Err r) e = cc

pub accepted-number : (a : Answer) → accepted (olda.values a) → number a ≡ 0
accepted-number (Ok (Some r)) e = refl
accepted-number (Ok None) e = refl
accepted-number (Err r) e = absurd (refused_number r e)

pub number-accepted : (a : Answer) → number a ≡ 0 → accepted (olda.values a) × (place a ≡ 0)
number-accepted (Ok (Some r)) e = (refl, refl)
number-accepted (Ok None) e = (refl, refl)
number-accepted (Err r) e = absurd (not_0 r e)

-- One set.
module _ (s : Subjobs) (out : List ℕ) where
  abbrev answer : Answer
  answer = olda.answer s (length out)

  set_says : SetSays s out (number answer) (place answer) (olda.results s out)
  set_says = by_answer answer (assign_answers s out).0
    where
      by_answer : (a : Answer) → AssignSays s out (olda.values a) (olda.results s out) → SetSays s out (number a) (place a) (olda.results s out)
      by_answer (Ok (Some r)) h = says.placed h
      by_answer (Ok None) h = says.placed h
      by_answer (Err r) h = says.refused h (not_0 r)

  set_only : {n p : ℕ} {l : List ℕ} → SetSays s out n p l → (n ≡ number answer) × (p ≡ place answer) × (l ≡ olda.results s out)
  set_only (says.placed h) =
      let q = (assign_answers s out).1 _ _ h in
      let z = number_first answer q.0 in
      (z, sym (number-accepted answer (sym z)).1, q.1)
  set_only (says.refused h z) =
      let q = (assign_answers s out).1 _ _ h in
      let r = assign_refuses answer q.0 z in
      (r.2 ∙ sym (ap number r.1), r.3 ∙ sym (ap place r.1), q.1)

-- A room that is read fits.
fit_of : (R : Room) → accepted (values (judgement R)) → Fit R
fit_of R a =
    split (judged R).holds (λ F. F)
    (λ w. absurd (refused_number w.0 (subst (λ j. accepted (values j)) ((refused_exactly R w.0).1 w.1) a)))

module _ (R : Room) (F : Fit R) (k : ℕ) (h : k < length R.lengths) where
  abbrev found : List ℕ
  found = stretch_of R k R.deadlines

  long : length found ≡ at R.lengths k
  long = stretch-length R F k h R.deadlines (deadlines-length R F)

  one_call :
      (at (numbers_after R) k ≡ number (olda.answer (set_of R k) (length found)))
      × (at (places_after R) k ≡ place (olda.answer (set_of R k) (length found)))
      × (stretch_of R k (deadlines_after R) ≡ olda.results (set_of R k) found)
      × (size (set_of R k) ≡ at R.lengths k)
      × (length found ≡ at R.lengths k)
  one_call = (
    number_told R F k h ∙ ap (λ (n : ℕ). number (olda.answer (set_of R k) n)) (sym long),
    place_told R F k h ∙ ap (λ (n : ℕ). place (olda.answer (set_of R k) n)) (sym long),
    stretch_left R F k h,
    stretch-length R F k h R.sets.jobs refl,
    long,
  )

  says_set : SetSays (set_of R k) found (at (numbers_after R) k) (at (places_after R) k) (stretch_of R k (deadlines_after R))
  says_set = let o = one_call in rw (o.0, o.1, o.2) (set_says (set_of R k) found)

module _ (R : Room) where
  faulted : {r : Reason} → Faulty R r → RoomSays R (told.values r) R.deadlines R.numbers R.places
  faulted (faults.lengths n) = says.lengths (faults.lengths n)
  faulted (faults.large w n) = says.large (faults.large w n)

  says_so : RoomSays R (values (judgement R)) (deadlines_after R) (numbers_after R) (places_after R)
  says_so =
      split (judged R).holds
      (λ F. rw ((read_exactly R).1 F) (says.read F (after_length R F) (numbers_length R F) (places_length R F) (says_set R F)))
      (λ w.
      let e = (refused_exactly R w.0).1 w.1 in
      let q = refused_keeps R w.0 e in
      rw (e, q.0, q.1, q.2) (faulted w.1))

  of_fault :
      {r : Reason} → Faulty R r
      → (told.values r ≡ values (judgement R)) × (R.deadlines ≡ deadlines_after R) × (R.numbers ≡ numbers_after R) × (R.places ≡ places_after R)
  of_fault {r} f =
      let e = (refused_exactly R r).1 f in
      let q = refused_keeps R r e in
      (rw e, sym q.0, sym q.1, sym q.2)

  only :
      {v : List ℤ} {out ks ps : List ℕ} → RoomSays R v out ks ps
      → (v ≡ values (judgement R)) × (out ≡ deadlines_after R) × (ks ≡ numbers_after R) × (ps ≡ places_after R)
  only (says.lengths f) = of_fault f
  only (says.large f) = of_fault f
  only (says.read {out} {ks} {ps} F lo lk lp h) =
      let ns = R.lengths in
      let set : (k : ℕ) → k < length ns → (at ks k ≡ at (numbers_after R) k) × (at ps k ≡ at (places_after R) k) × (stretch_of R k out ≡ stretch_of R k (deadlines_after R)) =
      λ k b.
      let q = set_only (set_of R k) (stretch_of R k R.deadlines) (h k b) in
      let o = one_call R F k b in
      (q.0 ∙ sym o.0, q.1 ∙ sym o.1, q.2 ∙ sym o.2)
      in
      let one : (x : ℕ) → 1 * x ≡ x = λ x. omega arith in (
        rw ((read_exactly R).1 F),
        same_stretches 1 ns out (deadlines_after R) (omega (arith, lo, F.whole.sum)) (omega (arith, after_length R F, F.whole.sum))
            (λ k b. rw (one (start ns k), one (at ns k)) (set k b).2),
        ext_get_or 0 ks (numbers_after R) (lk ∙ sym (numbers_length R F)) (λ k b. (set k (omega (arith, lk))).0),
        ext_get_or 0 ps (places_after R) (lp ∙ sym (places_length R F)) (λ k b. (set k (omega (arith, lp))).1),
      )

  -- A refused room keeps its lists.
  pub room_keeps :
      (accepted (values (judgement R)) → ⊥)
      → (deadlines_after R ≡ R.deadlines) × (numbers_after R ≡ R.numbers) × (places_after R ≡ R.places)
  room_keeps n =
      split (judged R).holds
      (λ F. absurd (n (rw ((read_exactly R).1 F) refl)))
      (λ w. refused_keeps R w.0 ((refused_exactly R w.0).1 w.1))

-- Of numbers and places as found nothing is left.
pub room_writes :
    (s : Subjobs) (ns out ks ps ks' ps' : List ℕ)
    → accepted (values (judgement (room s ns out ks ps)))
    → length ks' ≡ length ks
    → length ps' ≡ length ps
    → (numbers_after (room s ns out ks ps) ≡ numbers_after (room s ns out ks' ps'))
    × (places_after (room s ns out ks ps) ≡ places_after (room s ns out ks' ps'))
    × (length (deadlines_after (room s ns out ks ps)) ≡ length out)
    × (length (numbers_after (room s ns out ks ps)) ≡ length ks)
    × (length (places_after (room s ns out ks ps)) ≡ length ps)
room_writes s ns out ks ps ks' ps' a lk lp =
    let R = room s ns out ks ps in
    let F = fit_of R a in
    let W = F.whole in
    let F' : Fit (room s ns out ks' ps') =
    record { whole = record { lists = W.lists; numbers = lk ∙ W.numbers; places = lp ∙ W.places; sum = W.sum }; few = record { sets = F.few.sets; places = F.few.places } }
    in (
      read_numbers R F ∙ sym (read_numbers (room s ns out ks' ps') F'),
      read_places R F ∙ sym (read_places (room s ns out ks' ps') F'),
      after_length R F ∙ sym (deadlines-length R F),
      numbers_length R F ∙ sym W.numbers,
      places_length R F ∙ sym W.places,
    )

pub room_answers : RoomAnswers
room_answers R = (says_so R, λ v out ks ps h. only R h)

pub one_call_per_set : OneCallPerSet
one_call_per_set R k a h = one_call R (fit_of R a) k h

pub accepted_sets : AcceptedSets
accepted_sets R k a h z =
    let o = one_call_per_set R k a h in
    let out = stretch_of R k R.deadlines in
    (out, (number-accepted (olda.answer (set_of R k) (length out)) (sym o.0 ∙ z)).0, sym o.2)

pub refused_set_keeps : RefusedSetKeeps
refused_set_keeps R k a h z =
    let o = one_call_per_set R k a h in
    let out = stretch_of R k R.deadlines in
    o.2 ∙ assign_keeps (set_of R k) out (assign_answers (set_of R k) out).0 (λ v. z (o.0 ∙ accepted-number (olda.answer (set_of R k) (length out)) v))

pub rooms_agree : RoomsAgree
rooms_agree R R' k k' a a' h h' es eo =
    let o = one_call_per_set R k a h in
    let o' = one_call_per_set R' k' a' h' in
    let same : olda.answer (set_of R k) (length (stretch_of R k R.deadlines)) ≡ olda.answer (set_of R' k') (length (stretch_of R' k' R'.deadlines)) =
    ap (λ (s : Subjobs). olda.answer s (length (stretch_of R k R.deadlines))) es
    ∙ ap (λ (l : List ℕ). olda.answer (set_of R' k') (length l)) eo
    in (
      o.0 ∙ ap number same ∙ sym o'.0,
      o.1 ∙ ap place same ∙ sym o'.1,
      o.2 ∙ ap (λ (s : Subjobs). olda.results s (stretch_of R k R.deadlines)) es ∙ ap (olda.results (set_of R' k')) eo ∙ sym o'.2,
    )
