-- What is promised of `charoktan_room` holds: each set's number, place and bytes are those of one call of `charoktan_assign`
-- on its own stretch.
use Prim.Native.Nat.{ℕ, ◌+◌, ◌*◌, ◌/◌, ◌%◌, ◌<◌}
use mathlib.Core.Bool.{true}
use mathlib.Core.List.{List, flatten}
use mathlib.Core.Logic.{◌≢◌}
use mathlib.Core.Path.{◌≡◌, refl, sym, ap, ◌∙◌}
use native.Mathlib.Omega.{arith}
use borrow.Author.Tests.{eq-eqb, leb-true, le-leb}
use lib.Dec.{leb}
use lib.ListN.{length, drop, length-drop}
use lib.Seq.{ext_get_or, length-take-le}
use Rattle.lists.specs.Places.{total}
use Rattle.lists.proofs.Cases.{test, clash, both}
use Rattle.lists.proofs.Sums.{total_left}
use Rattle.stretches.specs.Stretches.{start, each}
use Rattle.stretches.specs.Answers.{few}
use Rattle.stretches.proofs.Stretched.{each-length, each_at, start_left, joined_length, joined_stretch, same_stretches}
use Rattle.charoktan.specs.Records.{count, encoded}
use Rattle.charoktan.specs.Answers.{assigned, assigned_bytes}
use Rattle.charoktan.specs.Rooms.{RoomBytes, words_of, lengths_of, code_at, bytes_at, fitting_room, roomed, deadline_bytes, number_bytes, place_bytes, RoomsBytes, Stretch}
use Rattle.charoktan.proofs.Coding.{length-encoded, words-encoded}
use Rattle.charoktan.proofs.Door.{place_small, assigned_length}
use Rattle.charoktan.proofs.RoomDoor.{words_length, stretch_long, bytes_long, room_unfit, room_fitted, room_large, room_reads, room_read}
use Rattle.promises.specs.Words.{at}
use Rattle.promises.specs.Door as doors
use Rattle.promises.specs.Door.{Whole, DoorAssignSays}
use Rattle.promises.specs.RoomDoor as says
use Rattle.promises.specs.RoomDoor.{WholeRoom, SmallRoom, records_of, bytes_of, DoorSetSays, DoorRoomSays, DoorRooms, DoorCallPerSet, DoorAcceptedSets, DoorRoomsAgree}
use Rattle.promises.proofs.Door.{whole, fits, door_assigns, told_apart, door_hands_on}

-- One set: what charoktan_assign returns holds its number and its place.
module _ (bs out : List ℕ) (w : Whole bs out) where
  set_says : {c : ℕ} {l : List ℕ} → c ≡ assigned bs (length out) → DoorAssignSays bs out c l → DoorSetSays bs out (c % 65_536) (c / 65_536) l
  set_says e (doors.lengths n) = absurd (n w)
  set_says e (doors.refused {n} {p} {vs} {l} w h z) =
      let t = (told_apart bs out l n p vs w z).0 h in
      rw (e, t.0, t.1) (says.refused h z)
  set_says e (doors.placed w h) = says.placed h

  set_only :
      {n p : ℕ} {l : List ℕ} → DoorSetSays bs out n p l
      → (n ≡ assigned bs (length out) % 65_536) × (p ≡ assigned bs (length out) / 65_536) × (l ≡ assigned_bytes bs out)
  set_only (says.refused {n} {p} {vs} {l} h z) =
      let t = (told_apart bs out l n p vs w z).0 h in
      (sym t.0, sym t.1, ((door_assigns bs out).1 _ _ (doors.refused w h z)).1)
  set_only (says.placed h) =
      let q = (door_assigns bs out).1 _ _ (doors.placed w h) in
      (omega (arith, q.0), omega (arith, q.0), q.1)

-- A call whose number is 0 is accepted.
accepted_code : (bs out : List ℕ) → assigned bs (length out) % 65_536 ≡ 0 → assigned bs (length out) ≡ 0
accepted_code bs out e = by_says (door_assigns bs out).0 refl e
  where
    by_says : {c : ℕ} {l : List ℕ} → DoorAssignSays bs out c l → c ≡ assigned bs (length out) → c % 65_536 ≡ 0 → c ≡ 0
    by_says (doors.lengths n) q e = absurd (omega arith)
    by_says (doors.refused {n} {p} {vs} {l} w h z) q e =
        let t = (told_apart bs out l n p vs w z).0 h in absurd (z (omega (arith, t.0, q)))
    by_says (doors.placed w h) q e = refl

module _ (B : RoomBytes) where
  abbrev ns : List ℕ
  ns = lengths_of B

  abbrev pub fitted : Type 0
  fitted = fitting_room B.records B.lengths (length B.deadlines) (length B.numbers) (length B.places) ≡ true

  abbrev small : Type 0
  small = few (length B.lengths / 4) (count B.records) ≡ true

  whole_room : fitted → WholeRoom B
  whole_room e =
      let w = room_fitted B e in
      record { records = whole B.records B.deadlines w.0; lengths = w.1; numbers = w.2; places = w.3; sum = w.4 }

  pub room_fits : WholeRoom B → fitted
  room_fits w =
      rw (fits B.records B.deadlines w.records, eq-eqb _ _ w.lengths, eq-eqb _ _ w.numbers, eq-eqb _ _ w.places, eq-eqb _ _ w.sum)

  pub small_room : small → SmallRoom B
  small_room e = let b = both {a = leb (length B.lengths / 4) 32} e in record { sets = leb-true _ _ b.0; places = leb-true _ _ b.1 }

  pub room_small : SmallRoom B → small
  room_small s = rw (le-leb _ _ s.sets, le-leb _ _ s.places)

  -- A room that is read.
  module _ (e : fitted) (f : small) where
    abbrev pub numbers : List ℕ
    numbers = each (λ a n. code_at B.records a n % 65_536) 0 ns

    abbrev pub places : List ℕ
    places = each (λ a n. code_at B.records a n / 65_536) 0 ns

    after : RoomsBytes B 0 (flatten (each (bytes_at B.records B.deadlines) 0 ns)) (encoded numbers) (encoded places)
    after = room_read B e f (record { deadlines = refl; numbers = refl; places = refl })

    sets : length ns ≡ length B.lengths / 4
    sets = words_length B.lengths

    pub numbers_length : length numbers ≡ length B.lengths / 4
    numbers_length = each-length (λ a n. code_at B.records a n % 65_536) 0 ns ∙ sets

    pub places_length : length places ≡ length B.lengths / 4
    places_length = each-length (λ a n. code_at B.records a n / 65_536) 0 ns ∙ sets

    pub stretched : (k : ℕ) → k < length ns → Stretch B.records B.deadlines (start ns k) (at ns k)
    stretched k h =
        let r = room_reads B e f in
        record {
          inside = omega (arith, start_left ns k, total_left ns k h, r.sum);
          few = r.lists.few;
          results = r.lists.results;
        }

    long : (k : ℕ) → k < length ns → length (bytes_at B.records B.deadlines (0 + start ns k) (at ns k)) ≡ 4 * at ns k
    long k h =
        let z : 0 + start ns k ≡ start ns k = omega arith in
        rw z (bytes_long B.records B.deadlines (start ns k) (at ns k) (24 * at ns k) (4 * at ns k) (stretched k h) refl refl)

    pub after_length : length (deadline_bytes B) ≡ 4 * total ns
    after_length = ap length (sym after.deadlines) ∙ joined_length 4 (bytes_at B.records B.deadlines) ns long

    module _ (k : ℕ) (h : k < length ns) where
      abbrev here : List ℕ
      here = records_of B k

      abbrev found : List ℕ
      found = bytes_of B k B.deadlines

      pub found_long : length found ≡ 4 * at ns k
      found_long = stretch_long B.records B.deadlines (start ns k) (at ns k) (24 * at ns k) (4 * at ns k) (stretched k h) refl refl

      pub here_long : length here ≡ 24 * at ns k
      here_long =
          length-take-le (24 * at ns k) (drop (24 * start ns k) B.records)
          (omega (arith, length-drop (24 * start ns k) B.records, (stretched k h).inside))

      pub here_whole : Whole here found
      here_whole = (omega (arith, here_long), omega (arith, here_long, found_long))

      code_so : code_at B.records (start ns k) (at ns k) ≡ assigned here (length found)
      code_so = ap (assigned here) (sym found_long)

      pub number_so : at numbers k ≡ assigned here (length found) % 65_536
      number_so = each_at (λ a n. code_at B.records a n % 65_536) 0 ns k h ∙ ap (λ (c : ℕ). c % 65_536) code_so

      pub place_so : at places k ≡ assigned here (length found) / 65_536
      place_so = each_at (λ a n. code_at B.records a n / 65_536) 0 ns k h ∙ ap (λ (c : ℕ). c / 65_536) code_so

      pub bytes_so : bytes_of B k (deadline_bytes B) ≡ assigned_bytes here found
      bytes_so = rw (← after.deadlines) (joined_stretch 4 (bytes_at B.records B.deadlines) ns long k h)

      says_set : DoorSetSays here found (at numbers k) (at places k) (bytes_of B k (deadline_bytes B))
      says_set = rw (number_so, place_so, bytes_so) (set_says here found here_whole refl (door_assigns here found).0)

    -- Numbers and places are read back from their bytes.
    pub number_words : words_of (number_bytes B) ≡ numbers
    number_words =
        let l : length (encoded numbers) / 4 ≡ length numbers = omega (arith, length-encoded numbers) in
        rw (← after.numbers, l)
        (words-encoded numbers (length numbers) refl (λ k h. omega (arith, number_so k (omega (arith, numbers_length, sets)))))

    pub place_words : words_of (place_bytes B) ≡ places
    place_words =
        let l : length (encoded places) / 4 ≡ length places = omega (arith, length-encoded places) in
        rw (← after.places, l)
        (words-encoded places (length places) refl
        (λ k h.
        let b : k < length ns = omega (arith, places_length, sets) in
        omega (arith, place_so k b, place_small (here k b) (length (found k b)))))

  says_so : DoorRoomSays B (roomed B) (deadline_bytes B) (number_bytes B) (place_bytes B)
  says_so =
      test (fitting_room B.records B.lengths (length B.deadlines) (length B.numbers) (length B.places))
      (λ e.
      test (few (length B.lengths / 4) (count B.records))
      (λ f.
      let a = after e f in
      let w = whole_room e in
      rw (← a.number, ← a.numbers, ← a.places)
      (says.read {out = deadline_bytes B} (numbers e f) (places e f) w (small_room f) (omega (arith, after_length e f, w.sum, w.records.1)) (numbers_length e f) (places_length e f)
      (λ k h. says_set e f k (omega (arith, sets e f)))))
      (λ n.
      let a = room_large B e n in
      rw (← a.number, ← a.deadlines, ← a.numbers, ← a.places) (says.large (whole_room e) (λ s. clash (room_small s) n))))
      (λ n.
      let a = room_unfit B n in
      rw (← a.number, ← a.deadlines, ← a.numbers, ← a.places) (says.lengths (λ w. clash (room_fits w) n)))

  only :
      {n : ℕ} {out ks ps : List ℕ} → DoorRoomSays B n out ks ps
      → (n ≡ roomed B) × (out ≡ deadline_bytes B) × (ks ≡ number_bytes B) × (ps ≡ place_bytes B)
  only (says.lengths h) =
      test (fitting_room B.records B.lengths (length B.deadlines) (length B.numbers) (length B.places))
      (λ e. absurd (h (whole_room e)))
      (λ n. let a = room_unfit B n in (a.number, a.deadlines, a.numbers, a.places))
  only (says.large w h) =
      test (few (length B.lengths / 4) (count B.records))
      (λ f. absurd (h (small_room f)))
      (λ n. let a = room_large B (room_fits w) n in (a.number, a.deadlines, a.numbers, a.places))
  only (says.read {out} ks ps w s lo lk lp h) =
      let e = room_fits w in
      let f = room_small s in
      let a = after e f in
      let sets-length = sets e f in
      let set : (k : ℕ) → k < length ns → (at ks k ≡ at (numbers e f) k) × (at ps k ≡ at (places e f) k) × (bytes_of B k out ≡ bytes_of B k (deadline_bytes B)) =
      λ k b.
      let q = set_only (records_of B k) (bytes_of B k B.deadlines) (here_whole e f k b) (h k (omega (arith, sets-length))) in
      (q.0 ∙ sym (number_so e f k b), q.1 ∙ sym (place_so e f k b), q.2 ∙ sym (bytes_so e f k b))
      in (
        a.number,
        same_stretches 4 ns out (deadline_bytes B) (omega (arith, lo, w.sum, w.records.1)) (after_length e f) (λ k b. (set k b).2),
        ap encoded (ext_get_or 0 ks (numbers e f) (lk ∙ sym (numbers_length e f)) (λ k b. (set k (omega (arith, lk, sets-length))).0)) ∙ a.numbers,
        ap encoded (ext_get_or 0 ps (places e f) (lp ∙ sym (places_length e f)) (λ k b. (set k (omega (arith, lp, sets-length))).1)) ∙ a.places,
      )

  -- Another number than 0 leaves every byte.
  pub room_door_keeps :
      roomed B ≢ 0 → (deadline_bytes B ≡ B.deadlines) × (number_bytes B ≡ B.numbers) × (place_bytes B ≡ B.places)
  room_door_keeps z = kept says_so z
    where
      kept :
          {n : ℕ} {out ks ps : List ℕ} → DoorRoomSays B n out ks ps → n ≢ 0 → (out ≡ B.deadlines) × (ks ≡ B.numbers) × (ps ≡ B.places)
      kept (says.lengths h) z = (refl, refl, refl)
      kept (says.large w h) z = (refl, refl, refl)
      kept (says.read ks ps w s lo lk lp h) z = absurd (z refl)

  pub room_door_read : roomed B ≡ 0 → fitted × small
  room_door_read z = taken says_so z
    where
      taken : {n : ℕ} {out ks ps : List ℕ} → DoorRoomSays B n out ks ps → n ≡ 0 → fitted × small
      taken (says.lengths h) z = absurd (omega arith)
      taken (says.large w h) z = absurd (omega arith)
      taken (says.read ks ps w s lo lk lp h) z = (room_fits w, room_small s)

pub door_rooms : DoorRooms
door_rooms B = (says_so B, λ n out ks ps h. only B h)

pub door_call_per_set : DoorCallPerSet
door_call_per_set B k z h =
    let r = room_door_read B z in
    let b : k < length (lengths_of B) = omega (arith, words_length B.lengths) in (
      ap (λ (l : List ℕ). at l k) (number_words B r.0 r.1) ∙ number_so B r.0 r.1 k b,
      ap (λ (l : List ℕ). at l k) (place_words B r.0 r.1) ∙ place_so B r.0 r.1 k b,
      bytes_so B r.0 r.1 k b,
    )

pub door_accepted_sets : DoorAcceptedSets
door_accepted_sets B k z h n =
    let r = room_door_read B z in
    let b : k < length (lengths_of B) = omega (arith, words_length B.lengths) in
    let o = door_call_per_set B k z h in
    let here = records_of B k in
    let found = bytes_of B k B.deadlines in
    let zero : assigned here (length found) ≡ 0 = accepted_code here found (sym o.0 ∙ n) in
    let l : length (assigned_bytes here found) / 4 ≡ count here = omega (arith, assigned_length here found, (here_whole B r.0 r.1 k b).1) in
    rw (o.2, l) (door_hands_on here found zero)

pub door_rooms_agree : DoorRoomsAgree
door_rooms_agree B B' k k' z z' h h' er eb =
    let o = door_call_per_set B k z h in
    let o' = door_call_per_set B' k' z' h' in
    let same : assigned (records_of B k) (length (bytes_of B k B.deadlines)) ≡ assigned (records_of B' k') (length (bytes_of B' k' B'.deadlines)) = rw (er, eb) in (
      o.0 ∙ ap (λ (c : ℕ). c % 65_536) same ∙ sym o'.0,
      o.1 ∙ ap (λ (c : ℕ). c / 65_536) same ∙ sym o'.1,
      o.2 ∙ rw (er, eb) (sym o'.2),
    )
