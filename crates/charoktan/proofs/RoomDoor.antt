-- A room at the door: its lengths, what the loop over the sets holds, and the ways out.
use Prim.Native.Nat.{ℕ, suc, ◌+◌, ◌*◌, ◌/◌, ◌%◌, ◌≤◌, ◌<◌}
use mathlib.Core.Bool.{true, false, ◌&&◌}
use mathlib.Core.List.{List, [], ◌++◌}
use mathlib.Core.Path.{◌≡◌, refl, sym, ap, ◌∙◌}
use native.Mathlib.Nat.{mul-suc, mul-le-mul_left}
use native.Mathlib.Omega.{arith}
use borrow.Author.Tests.{eqb-true, leb-true}
use lib.Dec.{leb, eqb}
use lib.ListN.{length, get_or, take, drop, length-drop}
use lib.Seq.{length-take-le, get_or-take, get_or-drop, ext_get_or}
use mir.Syntax.{w32}
use Rattle.std.specs.Int.{from_le_bytes}
use Rattle.std.specs.Simd.{first_chunks}
use Rattle.lists.specs.Places.{total}
use Rattle.lists.proofs.Cases.{both}
use Rattle.stretches.specs.Stretches.{stretch, start, each}
use Rattle.stretches.specs.Answers.{few}
use Rattle.stretches.specs.Stretches.{replaced}
use Rattle.stretches.proofs.Stretched.{each-length, each_at, Written, written_none, written_start, written_stretch, written_inside, written_more, written_all}
use Rattle.charoktan.specs.Records.{bytes, column, count, fitting, word}
use Rattle.charoktan.specs.Answers.{assigned, assigned_bytes}
use Rattle.charoktan.specs.Rooms.{RoomBytes, words_of, code_at, bytes_at, fitting_room, roomed, deadline_bytes, number_bytes, place_bytes, RoomsBytes, Stretch, Reads, AllRoomed}
use Rattle.charoktan.proofs.Coding.{word-from_le_bytes, word-part, word-record, length-column, column_at, Put, put_none, put_next, put_whole}
use Rattle.charoktan.proofs.Door.{fit_length, assigned_length}

pub words_length : (ls : List ℕ) → length (words_of ls) ≡ length ls / 4
words_length ls = length-column ls 4 0 (length ls / 4)

-- The length of set k is read from the k-th four bytes.
pub length_here :
    (ls : List ℕ) (rs : List (List ℕ)) (k : ℕ) → rs ≡ first_chunks 4 (length ls / 4) ls → k < length ls / 4
    → from_le_bytes w32 (get_or rs k []) ≡ get_or (words_of ls) k 0
length_here ls rs k q h =
    word-from_le_bytes (get_or rs k [])
    ∙ word-record ls rs 4 (length ls / 4) k 0 [] (get_or rs k []) q h (omega arith) refl
    ∙ sym (column_at ls 4 0 (length ls / 4) k h)

-- The numbers in a stretch of whole records are a stretch of the numbers.
pub column-stretch :
    (bs : List ℕ) (w j m a n : ℕ) → j + 4 ≤ w → a + n ≤ m
    → column (stretch (w * a) (w * n) bs) w j n ≡ stretch a n (column bs w j m)
column-stretch bs w j m a n hj h =
    let l : length (stretch a n (column bs w j m)) ≡ n =
    length-take-le n (drop a (column bs w j m)) (omega (arith, length-drop a (column bs w j m), length-column bs w j m))
    in
    ext_get_or 0 (column (stretch (w * a) (w * n) bs) w j n) (stretch a n (column bs w j m)) (length-column (stretch (w * a) (w * n) bs) w j n ∙ sym l)
    (λ i b.
    let c : i < n = omega (arith, length-column (stretch (w * a) (w * n) bs) w j n) in
    let d : w * i + w ≤ w * n = omega (arith, mul-le-mul_left {m = suc i} {n = n} w c, mul-suc w i) in
    column_at (stretch (w * a) (w * n) bs) w j n i c
    ∙ word-part bs (w * a) (w * n) (w * i + j) (omega arith)
    ∙ ap (word bs) (omega arith)
    ∙ sym (get_or-take n (drop a (column bs w j m)) i 0 c ∙ get_or-drop a (column bs w j m) i 0 ∙ column_at bs w j m (a + i) (omega arith)))

-- What the assignment of one set returned and left, in its place.
module _ (bs out : List ℕ) (a n i j : ℕ) (S : Stretch bs out a n) (ei : i ≡ 24 * n) (ej : j ≡ 4 * n) where
  pub stretch_long : length (stretch (4 * a) (4 * n) out) ≡ 4 * n
  stretch_long =
      length-take-le (4 * n) (drop (4 * a) out) (omega (arith, length-drop (4 * a) out, S.inside, S.results))

  pub code_here : {r : ℕ} → r ≡ assigned (stretch (24 * a) i bs) (length (stretch (4 * a) j out)) → r ≡ code_at bs a n
  code_here e = e ∙ rw (ei, ej, stretch_long)

  pub bytes_here :
      {l : List ℕ} → l ≡ assigned_bytes (stretch (24 * a) i bs) (stretch (4 * a) j out)
      → replaced (4 * a) j l out ≡ replaced (4 * a) (4 * n) (bytes_at bs out a n) out
  bytes_here e = rw (e, ei, ej)

  pub bytes_long : length (bytes_at bs out a n) ≡ 4 * n
  bytes_long = assigned_length (stretch (24 * a) (24 * n) bs) (stretch (4 * a) (4 * n) out) ∙ stretch_long

module _ (bs ls : List ℕ) where
  abbrev numbers : List ℕ
  numbers = each (λ a n. code_at bs a n % 65_536) 0 (words_of ls)

  abbrev places : List ℕ
  places = each (λ a n. code_at bs a n / 65_536) 0 (words_of ls)

  numbers_length : length numbers ≡ length ls / 4
  numbers_length = each-length (λ a n. code_at bs a n % 65_536) 0 (words_of ls) ∙ words_length ls

  places_length : length places ≡ length ls / 4
  places_length = each-length (λ a n. code_at bs a n / 65_536) 0 (words_of ls) ∙ words_length ls

  -- The first k sets were asked for, and what was told of them stands in the three lists.
  pub record Turned (old ks₀ ps₀ out ks ps : List ℕ) (a k : ℕ) : Type 0 where
    pub reads : Reads bs ls old ks₀ ps₀
    pub written : Written 4 (bytes_at bs old) (words_of ls) old out a k
    pub numbered : Put numbers ks₀ ks k
    pub placed : Put places ps₀ ps k

  pub turned_none : (old ks ps : List ℕ) → Reads bs ls old ks ps → Turned old ks ps old ks ps 0 0
  turned_none old ks ps S =
      record {
        reads = S;
        written = written_none 4 (bytes_at bs old) (words_of ls) old;
        numbered = put_none numbers ks (omega (arith, S.numbers, numbers_length));
        placed = put_none places ps (omega (arith, S.places, places_length));
      }

  module _ {old ks₀ ps₀ out ks ps : List ℕ} {a k : ℕ} (T : Turned old ks₀ ps₀ out ks ps a k) where
    module _ (h : k < length ls / 4) (n : ℕ) (en : n ≡ get_or (words_of ls) k 0) where
      inside : k < length (words_of ls)
      inside = omega (arith, words_length ls)

      pub turned_stretch : Stretch bs out a n
      turned_stretch =
          record {
            inside = omega (arith, written_inside 4 (bytes_at bs old) (words_of ls) old out a k T.written inside n en, T.reads.sum);
            few = T.reads.lists.few;
            results = T.written.room ∙ T.reads.lists.results;
          }

      pub turned_next :
          {out' ks' ps' : List ℕ} {r number place : ℕ}
          → r ≡ code_at bs a n
          → out' ≡ replaced (4 * a) (4 * n) (bytes_at bs out a n) out
          → number ≡ r % 65_536
          → place ≡ r / 65_536
          → ks' ≡ take (4 * k) ks ++ bytes number ++ drop (4 * k + 4) ks
          → ps' ≡ take (4 * k) ps ++ bytes place ++ drop (4 * k + 4) ps
          → Turned old ks₀ ps₀ out' ks' ps' (a + n) (k + 1)
      turned_next {out'} {ks'} {ps'} {r} er eo en' ep' ek ep =
          let W = T.written in
          let S = turned_stretch in
          let at : a ≡ start (words_of ls) k = written_start 4 (bytes_at bs old) (words_of ls) old out a k W in
          record {
            reads = T.reads;
            written =
                written_more 4 (bytes_at bs old) (words_of ls) old out a k W inside n en (4 * a) (4 * n) (bytes_at bs out a n) out' refl refl
                (omega (arith, S.inside, S.results))
                (rw (written_stretch 4 (bytes_at bs old) (words_of ls) old out a k W (4 * a) (4 * n) refl))
                (bytes_long bs out a n (24 * n) (4 * n) S refl refl)
                eo;
            numbered =
                put_next T.numbered (omega (arith, numbers_length))
                (rw (en', er, at, en) (sym (each_at (λ a n. code_at bs a n % 65_536) 0 (words_of ls) k inside)))
                ek;
            placed =
                put_next T.placed (omega (arith, places_length))
                (rw (ep', er, at, en) (sym (each_at (λ a n. code_at bs a n / 65_536) 0 (words_of ls) k inside)))
                ep;
          }

    pub turned_all : length ls / 4 ≤ k → AllRoomed bs ls old out ks ps
    turned_all h =
        record {
          deadlines =
              written_all 4 (bytes_at bs old) (words_of ls) old out a k T.written (omega (arith, words_length ls))
              (omega (arith, T.reads.sum, T.reads.lists.results));
          numbers = put_whole T.numbered (omega (arith, numbers_length));
          places = put_whole T.placed (omega (arith, places_length));
        }

module _ (B : RoomBytes) where
  abbrev fits : Type 0
  fits = fitting_room B.records B.lengths (length B.deadlines) (length B.numbers) (length B.places) ≡ true

  refused : (r : ℕ) → eqb r 0 ≡ false → roomed B ≡ r → RoomsBytes B r B.deadlines B.numbers B.places
  unfolding deadline_bytes number_bytes place_bytes
  refused r z e = record { number = sym e; deadlines = rw (e, z); numbers = rw (e, z); places = rw (e, z) }

  pub room_unfit :
      fitting_room B.records B.lengths (length B.deadlines) (length B.numbers) (length B.places) ≡ false
      → RoomsBytes B 1 B.deadlines B.numbers B.places
  unfolding roomed
  room_unfit e = refused 1 refl (rw e)

  module _ (e : fits) where
    pub room_fitted :
        (fitting B.records (length B.deadlines) ≡ true)
        × (length B.lengths % 4 ≡ 0)
        × (length B.numbers ≡ length B.lengths)
        × (length B.places ≡ length B.lengths)
        × (total (words_of B.lengths) ≡ count B.records)
    room_fitted =
        let records = fitting B.records (length B.deadlines) in
        let lengths = eqb (length B.lengths % 4) 0 in
        let numbers = eqb (length B.numbers) (length B.lengths) in
        let d = both {a = records && lengths && numbers && eqb (length B.places) (length B.lengths)} e in
        let c = both {a = records && lengths && numbers} d.0 in
        let b = both {a = records && lengths} c.0 in
        let a = both {a = records} b.0 in
        (a.0, eqb-true _ _ a.1, eqb-true _ _ b.1, eqb-true _ _ c.1, eqb-true _ _ d.1)

    pub room_large : few (length B.lengths / 4) (count B.records) ≡ false → RoomsBytes B 22 B.deadlines B.numbers B.places
    unfolding roomed
    room_large f = refused 22 refl (rw (e, f))

    module _ (f : few (length B.lengths / 4) (count B.records) ≡ true) where
      pub room_reads : Reads B.records B.lengths B.deadlines B.numbers B.places
      room_reads =
          let bs = B.records in
          let ls = B.lengths in
          let g = both {a = leb (length ls / 4) 32} f in
          let w = room_fitted in
          let whole = w.1 in
          record {
            lists = record { inside = omega arith; few = leb-true _ _ g.1; results = fit_length bs (length B.deadlines) w.0 };
            sum = w.4;
            few = leb-true _ _ g.0;
            numbers = omega (arith, w.2);
            places = omega (arith, w.3);
          }

      pub room_read :
          {out ks ps : List ℕ} → AllRoomed B.records B.lengths B.deadlines out ks ps → RoomsBytes B 0 out ks ps
      unfolding roomed deadline_bytes number_bytes place_bytes
      room_read a =
          record { number = rw (e, f); deadlines = rw (e, f) a.deadlines; numbers = rw (e, f) a.numbers; places = rw (e, f) a.places }
