-- The door's room is the room of the lists that its bytes hold: set by set, what `charoktan_assign` makes of the records is
-- what `assign` makes of the stretches.
use Rattle.std.specs.Prelude.{Ok, Err, Some, None}
use Prim.Native.Nat.{ℕ, ◌+◌, ◌*◌, ◌/◌, ◌%◌, ◌<◌, ◌≤◌}
use mathlib.Core.Bool.{true}
use mathlib.Core.List.{List}
use mathlib.Core.Path.{◌≡◌, refl, sym, ap, ◌∙◌}
use native.Mathlib.Omega.{arith}
use borrow.Author.Tests.{eqb-true, eq-eqb}
use lib.Dec.{eqb}
use lib.ListN.{length, length-replicate}
use lib.Seq.{ext_get_or}
use Rattle.lists.specs.Places.{total}
use Rattle.lists.proofs.Cases.{test, clash, eqb_no}
use Rattle.subjobs.specs.declared.Reason.TheVariants.{TooLarge}
use Rattle.subjobs.specs.Sets.{Subjobs, size}
use Rattle.subjobs.specs.Judging.{values}
use Rattle.subjobs.proofs.Reported.{number_range}
use Rattle.olda.specs.Answers.{Answer}
use Rattle.olda.specs.Answers as olda
use Rattle.olda.proofs.Results as results
use Rattle.stretches.specs.Stretches.{stretch, start}
use Rattle.stretches.specs.Answers.{Room, set_at, number, place, few, judgement, deadlines_after, numbers_after, places_after}
use Rattle.stretches.specs.Faults as faults
use Rattle.stretches.specs.Faults.{Fit}
use Rattle.stretches.proofs.Stretched.{same_stretches}
use Rattle.stretches.proofs.Judged.{read_exactly, refused_exactly}
use Rattle.stretches.proofs.Outcome as lists
use Rattle.charoktan.specs.Records.{column, count, records, words}
use Rattle.charoktan.specs.Answers.{assigned, assigned_bytes}
use Rattle.charoktan.specs.Rooms.{RoomBytes, words_of, lengths_of, roomed, deadline_bytes, number_bytes, place_bytes}
use Rattle.charoktan.proofs.Coding.{length-column}
use Rattle.charoktan.proofs.Door.{size-records, records_lengths, answered}
use Rattle.charoktan.proofs.RoomDoor.{words_length, column-stretch, room_large, room_read}
use Rattle.promises.specs.Words.{Number, accepted, at}
use Rattle.promises.specs.Door.{Whole, room}
use Rattle.promises.specs.RoomDoor.{WholeRoom, records_of, bytes_of, room_of, DoorIsRoom}
use Rattle.promises.proofs.Door.{fits, door_placed, door_keeps, read_back}
use Rattle.promises.proofs.Assign.{assign_answers, assign_keeps}
use Rattle.promises.proofs.Rooms.{accepted-number, number-accepted}
use Rattle.promises.proofs.Outcomes.{assign_writes}
use Rattle.promises.proofs.RoomDoor as door

-- The records of a stretch are the stretch of the set.
records-stretch : (bs : List ℕ) (a n : ℕ) → a + n ≤ count bs → count (stretch (24 * a) (24 * n) bs) ≡ n
    → records (stretch (24 * a) (24 * n) bs) ≡ set_at (records bs) a n
unfolding records
records-stretch bs a n h e =
    let f : (j : ℕ) → j + 4 ≤ 24 → column (stretch (24 * a) (24 * n) bs) 24 j n ≡ stretch a n (column bs 24 j (count bs)) =
    λ j b. column-stretch bs 24 j (count bs) a n b h
    in
    rw (e, f 0 (omega arith), f 4 (omega arith), f 8 (omega arith), f 12 (omega arith), f 16 (omega arith), f 20 (omega arith))

-- One set: what the door returns holds the answer's number and place,
module _ (bs out : List ℕ) (w : Whole bs out) where
  code_told :
      (assigned bs (length out) % 65_536 ≡ number (olda.answer (records bs) (count bs)))
      × (assigned bs (length out) / 65_536 ≡ place (olda.answer (records bs) (count bs)))
  code_told = by_answer (olda.answer (records bs) (count bs)) refl
    where
      by_answer :
          (a : Answer) → olda.answer (records bs) (count bs) ≡ a
          → (assigned bs (length out) % 65_536 ≡ number a) × (assigned bs (length out) / 65_536 ≡ place a)
      by_answer (Ok (Some r)) q = let e = (answered bs out (fits bs out w) (Ok (Some r)) q).0 in (omega arith, omega arith)
      by_answer (Ok None) q = let e = (answered bs out (fits bs out w) (Ok None) q).0 in (omega arith, omega arith)
      by_answer (Err r) q =
          let e = (answered bs out (fits bs out w) (Err r) q).0 in
          let n = number_range r in
          let p = results.refused_within (records bs) (count bs) r q in
          (omega arith, omega arith)

  -- and what it leaves, read back, is what the assignment leaves of what was read there.
  bytes_told : words (assigned_bytes bs out) (count bs) ≡ olda.results (records bs) (words out (count bs))
  bytes_told =
      let s = records bs in
      let n = count bs in
      let found = words out n in
      let long : length found ≡ n = length-column out 4 0 n in
      let a = olda.answer s n in
      let t = code_told in
      test (eqb (assigned bs (length out)) 0)
      (λ e.
      let z = eqb-true (assigned bs (length out)) 0 e in
      let p = door_placed bs out z in
      let ok : accepted (olda.values (olda.answer s (length found))) = rw long (number-accepted a (omega (arith, t.0))).0 in
      ap (λ (l : List ℕ). words l n) p.2
      ∙ (read_back bs (olda.results s (room bs)) p.1).1
      ∙ sym (assign_writes s found (room bs) ok (length-replicate {A = ℕ} n 0 ∙ sym long)).0)
      (λ e.
      ap (λ (l : List ℕ). words l n) (door_keeps bs out (eqb_no (assigned bs (length out)) 0 e))
      ∙ sym
      (assign_keeps s found (assign_answers s found).0
      (λ v.
      let ok : accepted (olda.values a) = rw long at v in
      let q = accepted-number a ok in
      eqb_no (assigned bs (length out)) 0 e (omega (arith, t.0, t.1, (number-accepted a q).1)))))

module _ (B : RoomBytes) (w : WholeRoom B) where
  abbrev R : Room
  R = room_of B

  abbrev ns : List ℕ
  ns = lengths_of B

  whole : faults.Whole R
  whole =
      let r = w.records in
      record {
        lists =
            records_lengths B.records (eqb (length (words_of B.deadlines)) (size (records B.records)))
            (eq-eqb _ _ (words_length B.deadlines ∙ omega (arith, size-records B.records, r.1)));
        numbers = words_length B.numbers ∙ rw w.numbers (sym (words_length B.lengths));
        places = words_length B.places ∙ rw w.places (sym (words_length B.lengths));
        sum = w.sum ∙ sym (size-records B.records);
      }

  -- A room that is read.
  module _ (f : few (length B.lengths / 4) (count B.records) ≡ true) where
    e : door.fitted B
    e = door.room_fits B w

    F : Fit R
    F =
        let s = door.small_room B f in
        record {
          whole = whole;
          few =
              record {
                sets = omega (arith, words_length B.lengths, s.sets);
                places = omega (arith, size-records B.records, s.places);
              };
        }

    module _ (k : ℕ) (h : k < length ns) where
      abbrev a : ℕ
      a = start ns k

      abbrev n : ℕ
      n = at ns k

      here_count : count (records_of B k) ≡ n
      here_count = omega (arith, door.here_long B e f k h)

      same_set : records (records_of B k) ≡ set_at (records B.records) a n
      same_set = records-stretch B.records a n (door.stretched B e f k h).inside here_count

      asked : olda.answer (records (records_of B k)) (count (records_of B k)) ≡ olda.answer (set_at (records B.records) a n) n
      asked = ap (olda.answer (records (records_of B k))) here_count ∙ ap (λ (s : Subjobs). olda.answer s n) same_set

      number_same : at (door.numbers B e f) k ≡ at (numbers_after R) k
      number_same =
          door.number_so B e f k h
          ∙ (code_told (records_of B k) (bytes_of B k B.deadlines) (door.here_whole B e f k h)).0
          ∙ ap number asked
          ∙ sym (lists.number_told R F k h)

      place_same : at (door.places B e f) k ≡ at (places_after R) k
      place_same =
          door.place_so B e f k h
          ∙ (code_told (records_of B k) (bytes_of B k B.deadlines) (door.here_whole B e f k h)).1
          ∙ ap place asked
          ∙ sym (lists.place_told R F k h)

      stretch_same : stretch a n (words_of (deadline_bytes B)) ≡ stretch a n (deadlines_after R)
      stretch_same =
          let here = records_of B k in
          let found = bytes_of B k B.deadlines in
          let inside = (door.stretched B e f k h).inside in
          let after : stretch a n (words_of (deadline_bytes B)) ≡ words (assigned_bytes here found) n =
          sym (column-stretch (deadline_bytes B) 4 0 (length (deadline_bytes B) / 4) a n (omega arith) (omega (arith, door.after_length B e f, w.sum)))
          ∙ ap (λ (l : List ℕ). words l n) (door.bytes_so B e f k h)
          in
          let before : words found n ≡ stretch a n (words_of B.deadlines) =
          column-stretch B.deadlines 4 0 (length B.deadlines / 4) a n (omega arith) (omega (arith, w.records.1))
          in
          after
          ∙ rw here_count at (bytes_told here found (door.here_whole B e f k h))
          ∙ rw (same_set, before) (sym (lists.stretch_left R F k h))

    read :
        Number (roomed B) (values (judgement R))
        × (words_of (deadline_bytes B) ≡ deadlines_after R)
        × (words_of (number_bytes B) ≡ numbers_after R)
        × (words_of (place_bytes B) ≡ places_after R)
    read =
        let sets = words_length B.lengths in
        let one : (x : ℕ) → 1 * x ≡ x = λ x. omega arith in
        let all : length (words_of (deadline_bytes B)) ≡ 1 * total ns = words_length (deadline_bytes B) ∙ omega (arith, door.after_length B e f) in (
          rw (← (room_read B e f (record { deadlines = refl; numbers = refl; places = refl })).number, (read_exactly R).1 F) refl,
          same_stretches 1 ns (words_of (deadline_bytes B)) (deadlines_after R) all (lists.after_length R F ∙ omega (arith, whole.sum))
              (λ k h. rw (one (start ns k), one (at ns k)) (stretch_same k h)),
          door.number_words B e f
              ∙ ext_get_or 0 (door.numbers B e f) (numbers_after R) (door.numbers_length B e f ∙ sym sets ∙ sym (lists.numbers_length R F))
              (λ k h. number_same k (omega (arith, door.numbers_length B e f, sets))),
          door.place_words B e f
              ∙ ext_get_or 0 (door.places B e f) (places_after R) (door.places_length B e f ∙ sym sets ∙ sym (lists.places_length R F))
              (λ k h. place_same k (omega (arith, door.places_length B e f, sets))),
        )

  is_room :
      Number (roomed B) (values (judgement R))
      × (words_of (deadline_bytes B) ≡ deadlines_after R)
      × (words_of (number_bytes B) ≡ numbers_after R)
      × (words_of (place_bytes B) ≡ places_after R)
  is_room =
      test (few (length B.lengths / 4) (count B.records)) read
      (λ x.
      let d = room_large B (door.room_fits B w) x in
      let large : faults.Few R → ⊥ =
      λ s.
      clash
      (door.room_small B (record { sets = omega (arith, words_length B.lengths, s.sets); places = omega (arith, size-records B.records, s.places) }))
      x
      in
      let q = (refused_exactly R TooLarge).1 (faults.large whole large) in
      let l = lists.refused_keeps R TooLarge q in (
        rw (← d.number, q) refl,
        ap words_of (sym d.deadlines) ∙ sym l.0,
        ap words_of (sym d.numbers) ∙ sym l.1,
        ap words_of (sym d.places) ∙ sym l.2,
      ))

pub door_is_room : DoorIsRoom
door_is_room B w = is_room B w
