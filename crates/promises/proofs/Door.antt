-- What is promised of the engine's door holds: what it returns and leaves is what the assignment and the checker say of the
-- records, in one number.
use Rattle.std.specs.Prelude.{Ok, Err, Some, None}
use Prim.Native.Nat.{ℕ, ◌+◌, ◌*◌, ◌/◌, ◌%◌, ◌<◌}
use mathlib.Core.Bool.{true}
use mathlib.Core.List.{List, [], ◌∷◌}
use mathlib.Core.Logic.{◌≢◌}
use mathlib.Core.Path.{◌≡◌, refl, sym, ap, ◌∙◌, subst}
use native.Mathlib.Omega.{arith}
use borrow.Author.Tests.{eqb-true, eq-eqb}
use lib.Dec.{eqb}
use lib.IntN.{ℤ, pos}
use lib.ListN.{length, length-replicate}
use Rattle.lists.proofs.Cases.{test, clash, both}
use Rattle.lists.proofs.Members.{in_places}
use Rattle.subjobs.specs.declared.Reason.{Reason}
use Rattle.subjobs.specs.Reasons.{number_of, place_of}
use Rattle.subjobs.specs.Sets.{Subjobs, size}
use Rattle.subjobs.proofs.Reported.{number_range}
use Rattle.olda.specs.Answers.{Answer}
use Rattle.olda.specs.Answers as olda
use Rattle.olda.proofs.Results as results
use Rattle.checker.specs.Answers as checker
use Rattle.checker.proofs.Reported as reported
use Rattle.charoktan.specs.Records.{count, records, encoded, words, fitting}
use Rattle.charoktan.specs.Answers.{code, assigned, assigned_bytes, checked}
use Rattle.charoktan.proofs.Coding.{length-encoded, words-encoded}
use Rattle.charoktan.proofs.Door.{fit_length, size-records, unfit, answered, unfit_check, answered_check}
use Rattle.promises.specs.Words.{accepted, Assigned}
use Rattle.promises.specs.Assign as assign
use Rattle.promises.specs.Assign.{AssignSays}
use Rattle.promises.specs.Check.{CheckSays}
use Rattle.promises.specs.Door as says
use Rattle.promises.specs.Door.{Whole, room, DoorAssignSays, DoorCheckSays, DoorAssigns, DoorChecks, ToldApart, DoorAgrees}
use Rattle.promises.proofs.Faulted.{faulted, refused_number}
use Rattle.promises.proofs.Assign.{nil, assign_answers, assigned_rules, deadlines_meet_six_and_seven}
use Rattle.promises.proofs.Check.{check_answers}
use Rattle.promises.proofs.Demand3.{checker_agrees}

-- The lengths fit exactly if the records are whole and the deadlines have 4 bytes for each.
pub whole : (bs ds : List ℕ) → fitting bs (length ds) ≡ true → Whole bs ds
whole bs ds e =
    let w = both {a = eqb (length bs % 24) 0} {b = eqb (length ds) (4 * count bs)} e in
    (eqb-true _ _ w.0, eqb-true _ _ w.1)

pub fits : (bs ds : List ℕ) → Whole bs ds → fitting bs (length ds) ≡ true
fits bs ds w = rw (eq-eqb (length bs % 24) 0 w.0, eq-eqb (length ds) (4 * count bs) w.1)

room-length : (bs : List ℕ) → length (room bs) ≡ count bs
room-length bs = length-replicate {A = ℕ} (count bs) 0

-- The values of an answer begin with 0, or are a refusal's, which begin with its number and place.
pub assign_refuses :
    {n p : ℕ} {vs : List ℤ} (a : Answer)
    → pos n ∷ pos p ∷ vs ≡ olda.values a
    → n ≢ 0
    → (r : Reason) × (a ≡ Err r) × (n ≡ number_of r) × (p ≡ place_of r)
assign_refuses {n} (Ok (Some r)) e z = let q : n ≡ 0 = cc in absurd (z q)
assign_refuses {n} (Ok None) e z = let q : n ≡ 0 = cc in absurd (z q)
assign_refuses {n} {p} (Err r) e z = (r, refl, cc, cc)

check_refuses :
    {n p : ℕ} {vs : List ℤ} (a : checker.Answer)
    → pos n ∷ pos p ∷ vs ≡ checker.values a
    → n ≢ 0
    → (r : Reason) × (a ≡ Err r) × (n ≡ number_of r) × (p ≡ place_of r)
check_refuses {n} (Ok tt) e z = let q : n ≡ 0 = cc in absurd (z q)
check_refuses {n} {p} (Err r) e z = (r, refl, cc, cc)

check_accepts : {vs : List ℤ} (a : checker.Answer) → pos 0 ∷ vs ≡ checker.values a → a ≡ Ok tt
check_accepts (Ok tt) e = refl
check_accepts (Err r) e = let q : 0 ≡ number_of r = cc in absurd (omega (arith, (number_range r).0))

check_taken : (a : checker.Answer) → accepted (checker.values a) → a ≡ Ok tt
check_taken (Ok tt) e = refl
check_taken (Err r) e = absurd (refused_number r e)

-- "Nothing to place" is said of an empty set alone, and leaves an empty list.
pub nothing_placed :
    (s : Subjobs) (out : List ℕ) {v : List ℤ} {l : List ℕ} → AssignSays s out v l → v ≡ pos 0 ∷ [] → (size s ≡ 0) × (l ≡ [])
nothing_placed s out (assign.faulty f) e =
    let w = faulted s (assign.results_fit s out) f in absurd (refused_number w.0 (subst accepted (sym (sym w.2 ∙ e)) refl))
nothing_placed s out (assign.late f h) e = let z : ◌≡◌ {A = ℕ} 5 0 = cc in absurd (omega arith)
nothing_placed s out (assign.nothing f z) e = (z, refl)
nothing_placed s out (assign.placed f l h r) e = let z : ◌≡◌ {A = ℕ} 0 1 = cc in absurd (omega arith)

pub not_0 : (r : Reason) → number_of r ≢ 0
not_0 r e = omega (arith, (number_range r).0)

module _ (bs out : List ℕ) where
  -- What the assignment answers on the records, with a result list of their number.
  asked : olda.answer (records bs) (count bs) ≡ olda.answer (records bs) (length (room bs))
  asked = ap (olda.answer (records bs)) (sym (room-length bs))

  said : AssignSays (records bs) (room bs) (olda.values (olda.answer (records bs) (length (room bs)))) (olda.results (records bs) (room bs))
  said = (assign_answers (records bs) (room bs)).0

  module _ (e : fitting bs (length out) ≡ true) where
    refused_so :
        {r : Reason} → olda.answer (records bs) (length (room bs)) ≡ Err r
        → (code r ≡ assigned bs (length out)) × (out ≡ assigned_bytes bs out)
    refused_so {r} q = let w = answered bs out e (Err r) (asked ∙ q) in (sym w.0, sym w.1)

    placed_so :
        {ds : List ℕ} (a : Answer)
        → olda.answer (records bs) (length (room bs)) ≡ a
        → accepted (olda.values a)
        → AssignSays (records bs) (room bs) (olda.values a) ds
        → (0 ≡ assigned bs (length out)) × (encoded ds ≡ assigned_bytes bs out)
    placed_so {ds} (Ok (Some r)) q acc h =
        let w = answered bs out e (Ok (Some r)) (asked ∙ q) in
        (sym w.0, ap encoded ((assign_answers (records bs) (room bs)).1 _ ds h).1 ∙ sym w.1)
    placed_so {ds} (Ok None) q acc h =
        let w = nothing_placed (records bs) (room bs) h refl in
        let none : length out ≡ 0 = omega (arith, fit_length bs (length out) e, size-records bs, w.0) in
        let a = answered bs out e (Ok None) (asked ∙ q) in
        (sym a.0, ap encoded w.1 ∙ nil (encoded []) (length-encoded []) ∙ sym (nil out none) ∙ sym a.1)
    placed_so (Err r) q acc h = absurd (refused_number r acc)

    fitted : DoorAssignSays bs out (assigned bs (length out)) (assigned_bytes bs out)
    fitted = by_answer (olda.answer (records bs) (length (room bs))) refl
      where
        by_answer :
            (a : Answer)
            → olda.answer (records bs) (length (room bs)) ≡ a
            → DoorAssignSays bs out (assigned bs (length out)) (assigned_bytes bs out)
        by_answer (Err r) q =
            let w = refused_so q in
            rw (← w.0, ← w.1) (says.refused (whole bs out e) (rw q at said) (not_0 r))
        by_answer (Ok (Some r)) q =
            let h = rw q at said in
            let w = placed_so (Ok (Some r)) q refl h in
            rw (← w.0, ← w.1) (says.placed (whole bs out e) h)
        by_answer (Ok None) q =
            let h = rw q at said in
            let w = placed_so (Ok None) q refl h in
            rw (← w.0, ← w.1) (says.placed (whole bs out e) h)

  says_so : DoorAssignSays bs out (assigned bs (length out)) (assigned_bytes bs out)
  says_so =
      test (fitting bs (length out)) fitted
      (λ n. let w = unfit bs out n in rw (w.0, w.1) (says.lengths (λ h. clash (fits bs out h) n)))

  -- What RULES says is what the door returns and leaves.
  only : {n : ℕ} {l : List ℕ} → DoorAssignSays bs out n l → (n ≡ assigned bs (length out)) × (l ≡ assigned_bytes bs out)
  only (says.lengths h) = test (fitting bs (length out)) (λ e. absurd (h (whole bs out e))) (λ n. let w = unfit bs out n in (sym w.0, sym w.1))
  only (says.refused {n} {p} w h z) =
      let v = ((assign_answers (records bs) (room bs)).1 _ _ h).0 in
      let q = assign_refuses (olda.answer (records bs) (length (room bs))) v z in
      let d = refused_so (fits bs out w) q.1 in
      (omega (arith, d.0, q.2, q.3), d.1)
  only (says.placed {vs} {ds} w h) =
      let v = ((assign_answers (records bs) (room bs)).1 _ _ h).0 in
      placed_so (fits bs out w) (olda.answer (records bs) (length (room bs))) refl (rw (← v) refl) (rw v at h)

  -- A number other than 0 leaves every byte.
  pub door_keeps : assigned bs (length out) ≢ 0 → assigned_bytes bs out ≡ out
  door_keeps z = kept says_so z
    where
      kept : {n : ℕ} {l : List ℕ} → DoorAssignSays bs out n l → n ≢ 0 → l ≡ out
      kept (says.lengths h) z = refl
      kept (says.refused w h n) z = refl
      kept (says.placed w h) z = absurd (z refl)

  -- The number 0 means that the assignment accepts the records, and its deadlines are written.
  pub door_placed :
      assigned bs (length out) ≡ 0
      → Whole bs out × Assigned (records bs) (olda.results (records bs) (room bs))
      × (assigned_bytes bs out ≡ encoded (olda.results (records bs) (room bs)))
  door_placed z = taken says_so z
    where
      taken :
          {n : ℕ} {l : List ℕ}
          → DoorAssignSays bs out n l
          → n ≡ 0
          → Whole bs out × Assigned (records bs) (olda.results (records bs) (room bs)) × (l ≡ encoded (olda.results (records bs) (room bs)))
      taken (says.lengths h) z = absurd (omega arith)
      taken (says.refused w h n) z = absurd (n (omega arith))
      taken (says.placed w h) z =
          let q = (assign_answers (records bs) (room bs)).1 _ _ h in
          (w, (room bs, rw (← q.0) refl, refl), ap encoded q.1)

pub door_assigns : DoorAssigns
door_assigns bs out = (says_so bs out, λ n l h. only bs out h)

module _ (bs ds : List ℕ) where
  checks_so : DoorCheckSays bs ds (checked bs ds)
  checks_so =
      test (fitting bs (length ds))
      (λ e. by_answer e (checker.answer (records bs) (words ds (count bs))) refl)
      (λ n. rw (unfit_check bs ds n) (says.lengths (λ h. clash (fits bs ds h) n)))
    where
      by_answer :
          fitting bs (length ds) ≡ true
          → (a : checker.Answer)
          → checker.answer (records bs) (words ds (count bs)) ≡ a
          → DoorCheckSays bs ds (checked bs ds)
      by_answer e (Ok tt) q =
          rw (answered_check bs ds e (Ok tt) q)
          (says.met (whole bs ds e) (rw q at (check_answers (records bs) (words ds (count bs))).0))
      by_answer e (Err r) q =
          rw (answered_check bs ds e (Err r) q)
          (says.refused (whole bs ds e) (rw q at (check_answers (records bs) (words ds (count bs))).0) (not_0 r))

  refused_check : {n p : ℕ} {vs : List ℤ} → Whole bs ds → CheckSays (records bs) (words ds (count bs)) (pos n ∷ pos p ∷ vs) → n ≢ 0 → n + 65_536 * p ≡ checked bs ds
  refused_check w h z =
      let v = (check_answers (records bs) (words ds (count bs))).1 _ h in
      let q = check_refuses (checker.answer (records bs) (words ds (count bs))) v z in
      omega (arith, answered_check bs ds (fits bs ds w) (Err q.0) q.1, q.2, q.3)

  check_only : {n : ℕ} → DoorCheckSays bs ds n → n ≡ checked bs ds
  check_only (says.lengths h) = test (fitting bs (length ds)) (λ e. absurd (h (whole bs ds e))) (λ n. sym (unfit_check bs ds n))
  check_only (says.refused w h z) = refused_check w h z
  check_only (says.met w h) =
      sym
      (answered_check bs ds (fits bs ds w) (Ok tt)
      (check_accepts (checker.answer (records bs) (words ds (count bs))) ((check_answers (records bs) (words ds (count bs))).1 _ h)))

pub door_checks : DoorChecks
door_checks bs ds = (checks_so bs ds, λ n h. check_only bs ds h)

-- A number below 65,536 and a place are told apart again.
pub parted :
    (returned : ℕ) (r : Reason) {n p m : ℕ} → returned ≡ n + 65_536 * p → n ≡ number_of r → p ≡ place_of r → place_of r < m
    → (returned % 65_536 ≡ n) × (returned / 65_536 ≡ p) × (p < m)
parted returned r e a b h = let w = number_range r in (omega arith, omega arith, omega arith)

pub told_apart : ToldApart
told_apart bs ds l n p vs w z = (
  λ h.
      let v = ((assign_answers (records bs) (room bs)).1 _ _ h).0 in
      let q = assign_refuses (olda.answer (records bs) (length (room bs))) v z in
      parted (assigned bs (length ds)) q.0 (sym (only bs ds (says.refused w h z)).0) q.2 q.3
      (results.refused_within (records bs) (length (room bs)) q.0 q.1),
  λ h.
      let v = (check_answers (records bs) (words ds (count bs))).1 _ h in
      let q = check_refuses (checker.answer (records bs) (words ds (count bs))) v z in
      parted (checked bs ds) q.0 (sym (refused_check bs ds w h z)) q.2 q.3
      (reported.refused_within (records bs) (words ds (count bs)) q.0 q.1),
)

-- Deadlines of records are small, so they are read back from their bytes.
pub read_back : (bs ds : List ℕ) → Assigned (records bs) ds → (length ds ≡ count bs) × (words (encoded ds) (count bs) ≡ ds)
read_back bs ds a =
    let s = records bs in
    let r = assigned_rules s ds a in
    let l : length ds ≡ count bs = r.1 ∙ size-records bs in
    let m = deadlines_meet_six_and_seven s ds a in (
      l,
      words-encoded ds (count bs) l
          (λ i h.
          let k : i < size s = omega (arith, size-records bs) in
          omega (arith, (m.0 i (in_places (size s) i k)).1, (r.0.ranges i k).deadline)),
    )

-- What the door wrote, read back, are the deadlines of an accepted set.
pub door_hands_on : (bs out : List ℕ) → assigned bs (length out) ≡ 0 → Assigned (records bs) (words (assigned_bytes bs out) (count bs))
door_hands_on bs out z =
    let w = door_placed bs out z in
    let ds = olda.results (records bs) (room bs) in
    rw (w.2, (read_back bs ds w.1).1) w.1

pub door_agrees : DoorAgrees
door_agrees bs out z =
    let w = door_placed bs out z in
    let s = records bs in
    let ds = olda.results s (room bs) in
    let back = read_back bs ds w.1 in
    let same : length (encoded ds) ≡ length out = omega (arith, length-encoded ds, back.0, w.0.1) in
    rw w.2
    (answered_check bs (encoded ds) (fits bs (encoded ds) (w.0.0, same ∙ w.0.1)) (Ok tt)
    (check_taken (checker.answer s (words (encoded ds) (count bs))) (rw back.1 (checker_agrees s ds w.1))))
