-- What holds of every entry holds: one outcome, nothing changed after a refusal, all written after acceptance.
use Prim.Native.Nat.{ℕ}
use mathlib.Core.Bool.{◌&&◌}
use mathlib.Core.List.{List}
use mathlib.Core.Path.{◌≡◌, refl, sym, ap, ◌∙◌, subst}
use native.Mathlib.Omega.{arith}
use borrow.Author.Tests.{eqb-true}
use lib.Dec.{eqb}
use lib.IntN.{ℤ}
use lib.ListN.{length}
use Rattle.lists.proofs.Cases.{both}
use Rattle.subjobs.specs.Sets.{Subjobs, size}
use Rattle.subjobs.specs.Faults.{Fit}
use Rattle.rules.proofs.Obeys.{method-placed}
use Rattle.ticks.specs.Runs.{run}
use Rattle.ticks.proofs.Ticks.{run_length}
use Rattle.olda.specs.Answers as olda
use Rattle.edf.specs.declared.Totals.{Totals}
use Rattle.edf.specs.Answers as edf
use Rattle.charoktan.specs.Answers as door
use Rattle.charoktan.proofs.Door.{assigned_length}
use Rattle.promises.specs.Words.{accepted}
use Rattle.promises.specs.Assign.{results_fit}
use Rattle.promises.specs.Simulate as simulate
use Rattle.promises.specs.Simulate.{SimulateSays}
use Rattle.promises.specs.Outcomes.{RefusedKeeps, WritesAll, OneAssign, OneSimulate, OneRun, OneCheck, OneTable, OneCritical, OneRoom, OneDoorAssign, OneDoorCheck, OneDoorCritical, OneDoorRoom, OneJudge, OneLengths, OneTell, OneRecord, OneAfterLine, OneWrite}
use Rattle.promises.proofs.Faulted.{faulted, refused_number}
use Rattle.promises.proofs.Assign.{assign_answers, assign_keeps, assigned_rules, placed-answer}
use Rattle.promises.proofs.Simulate.{simulate_answers}
use Rattle.promises.proofs.Critical.{critical_keeps, critical_writes}
use Rattle.promises.proofs.Door.{door_keeps, door_placed}
use Rattle.promises.proofs.Rooms.{room_keeps, room_writes}
use Rattle.promises.proofs.RoomDoor.{room_door_keeps}
use Rattle.promises.proofs.CriticalDoor.{graph_keeps, graph_writes}

-- A refusal of the simulator leaves list and totals.
simulate_keeps :
    (s : Subjobs) (ds asks fs : List ℕ) (t : Totals) {v : List ℤ} {l : List ℕ} {u : Totals}
    → SimulateSays s ds asks fs t v l u
    → (accepted v → ⊥)
    → (l ≡ fs) × (u ≡ t)
simulate_keeps s ds asks fs t (simulate.faulty f) n = (refl, refl)
simulate_keeps s ds asks fs t (simulate.above f h) n = (refl, refl)
simulate_keeps s ds asks fs t (simulate.ran f b i) n = absurd (n refl)

pub assign_writes :
    (s : Subjobs) (out old : List ℕ)
    → accepted (olda.values (olda.answer s (length out)))
    → length old ≡ length out
    → (olda.results s out ≡ olda.results s old) × (length (olda.results s out) ≡ length out)
assign_writes s out old a l =
    let ds = olda.results s out in
    let w = assigned_rules s ds (out, a, refl) in
    let f : Fit s (results_fit s old) = rw l w.0 in
    let q = placed-answer s old f ds ((method-placed s f ds).1 (w.1, w.2)) in
    (sym q.1, w.1 ∙ sym (eqb-true _ _ w.0.lengths.further))

simulate_writes :
    (s : Subjobs) (ds asks fs old : List ℕ) (t : Totals)
    → accepted (edf.values (edf.answer s ds asks (length fs) t))
    → length old ≡ length fs
    → (edf.finishes s ds asks fs t ≡ edf.finishes s ds asks old t) × (length (edf.finishes s ds asks fs t) ≡ length fs)
simulate_writes s ds asks fs old t a l =
    let w = ran (simulate_answers s ds asks fs t).0 a in
    let w' = ran (simulate_answers s ds asks old t).0 (rw l a) in
    let n = eqb-true _ _ (both {a = eqb (length ds) (size s) && eqb (length asks) (size s)} {b = eqb (length fs) (size s)} w.1.lengths.further).1 in
    (w.0 ∙ sym w'.0, ap length w.0 ∙ run_length s ds asks ∙ sym n)
  where
    ran :
        {gs : List ℕ} {v : List ℤ} {l : List ℕ} {u : Totals}
        → SimulateSays s ds asks gs t v l u
        → accepted v
        → (l ≡ (run s ds asks).finishes) × Fit s (edf.further_lists s ds asks (length gs))
    ran {gs} (simulate.faulty f) h =
        let w = faulted s (edf.further_lists s ds asks (length gs)) f in absurd (refused_number w.0 (subst accepted w.2 h))
    ran (simulate.above f b) h = let z : ◌≡◌ {A = ℕ} 8 0 = cc in absurd (omega arith)
    ran (simulate.ran f b i) h = (refl, f)

door_writes :
    (bs out old : List ℕ)
    → door.assigned bs (length out) ≡ 0
    → length old ≡ length out
    → (door.assigned_bytes bs out ≡ door.assigned_bytes bs old) × (length (door.assigned_bytes bs out) ≡ length out)
door_writes bs out old z l =
    ((door_placed bs out z).2 ∙ sym (door_placed bs old (rw l z)).2, assigned_length bs out)

pub refused_keeps : RefusedKeeps
refused_keeps = (
  λ s out n. assign_keeps s out (assign_answers s out).0 n,
  λ s ds asks fs t n. simulate_keeps s ds asks fs t (simulate_answers s ds asks fs t).0 n,
  critical_keeps,
  room_keeps,
  λ bs out z. door_keeps bs out z,
  λ es bs out z. graph_keeps es bs out z,
  room_door_keeps,
)

pub writes_all : WritesAll
writes_all = (assign_writes, simulate_writes, critical_writes, room_writes, door_writes, graph_writes)

pub one_assign : OneAssign
one_assign s out new other r q h k = (h.0 ∙ sym k.0, h.1 ∙ sym k.1)

pub one_simulate : OneSimulate
one_simulate s ds asks fs new other t r q h k = (h.gives ∙ sym k.gives, h.writes ∙ sym k.writes)

pub one_run : OneRun
one_run s ds asks fs new other t u v r q h k = (h.gives ∙ sym k.gives, h.adds ∙ sym k.adds, h.writes ∙ sym k.writes)

pub one_check : OneCheck
one_check s ds r q h k = h ∙ sym k

pub one_table : OneTable
one_table text out new other r q h k = (h.count ∙ sym k.count, h.bytes ∙ sym k.bytes)

pub one_critical : OneCritical
one_critical g out new other r q h k = (h.0 ∙ sym k.0, h.1 ∙ sym k.1)

pub one_room : OneRoom
one_room R out ks ps out' ks' ps' r q h k =
    (h.answer ∙ sym k.answer, h.deadlines ∙ sym k.deadlines, h.numbers ∙ sym k.numbers, h.places ∙ sym k.places)

pub one_door_assign : OneDoorAssign
one_door_assign bs out new other r q h k = (h.0 ∙ sym k.0, h.1 ∙ sym k.1)

pub one_door_check : OneDoorCheck
one_door_check bs ds r q h k = h ∙ sym k

pub one_door_critical : OneDoorCritical
one_door_critical es bs out new other r q h k = (h.0 ∙ sym k.0, h.1 ∙ sym k.1)

pub one_door_room : OneDoorRoom
one_door_room B out ks ps out' ks' ps' r q h k =
    (h.number ∙ sym k.number, h.deadlines ∙ sym k.deadlines, h.numbers ∙ sym k.numbers, h.places ∙ sym k.places)

pub one_judge : OneJudge
one_judge s others r q h k = h ∙ sym k

pub one_lengths : OneLengths
one_lengths s others r q h k = h ∙ sym k

pub one_tell : OneTell
one_tell reason r q h k = h ∙ sym k

pub one_record : OneRecord
one_record text at out new other r q h k = (h.end ∙ sym k.end, h.values ∙ sym k.values)

pub one_after_line : OneAfterLine
one_after_line w text r q h k = h ∙ sym k

pub one_write : OneWrite
one_write out at word new other r q h k = (h.next ∙ sym k.next, h.text ∙ sym k.text)
