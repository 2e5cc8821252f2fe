-- What is promised of rearranged records holds: the door returns and leaves what the assignment answers.
use Prim.Native.Nat.{ℕ}
use mathlib.Core.List.{List, []}
use mathlib.Core.Path.{◌≡◌, refl, sym, ap, ◌∙◌, subst}
use native.Mathlib.Omega.{arith}
use borrow.Author.Tests.{eq-eqb}
use lib.IntN.{ℤ}
use lib.ListN.{length, length-replicate}
use Rattle.lists.specs.Places.{Rearranges, taken}
use Rattle.lists.proofs.Taken.{rearranges_length}
use Rattle.subjobs.specs.Sets.{size}
use Rattle.subjobs.proofs.Rearranging.{rearranged-size}
use Rattle.charoktan.specs.Records.{count, records, encoded}
use Rattle.charoktan.specs.Answers.{assigned, assigned_bytes}
use Rattle.charoktan.proofs.Door.{size-records, records_lengths}
use Rattle.promises.specs.Assign.{AssignSays, results_fit}
use Rattle.promises.specs.Door as door
use Rattle.promises.specs.Door.{Whole, room}
use Rattle.promises.specs.Reordering as says
use Rattle.promises.specs.Reordering.{AssignMoves, DoorMoves, DoorReorders}
use Rattle.promises.proofs.Assign.{nil, assign_answers}
use Rattle.promises.proofs.Door.{nothing_placed, door_assigns}
use Rattle.promises.proofs.Reordering.{assign_reorders}

module _ (bs bs' ps out out' : List ℕ) (w : Whole bs out) (w' : Whole bs' out') (r : Rearranges ps (size (records bs))) where
  moves :
      {v v' : List ℤ} {l l' : List ℕ}
      → AssignMoves (records bs) ps (room bs') v l v' l'
      → AssignSays (records bs) (room bs) v l
      → AssignSays (records bs') (room bs') v' l'
      → DoorMoves (count bs) ps out' (assigned bs (length out)) (assigned_bytes bs out) (assigned bs' (length out')) (assigned_bytes bs' out')
  moves (says.faulty {p = p} {p' = p'} a b) h h' =
      let q = (door_assigns bs out).1 _ _ (door.refused w h (λ z. omega arith)) in
      let q' = (door_assigns bs' out').1 _ _ (door.refused w' h' (λ z. omega arith)) in
      rw (← q.0, ← q'.0, ← q'.1) (says.faulty p p' a b)
  moves (says.late a b) h h' =
      let q = (door_assigns bs out).1 _ _ (door.refused w h (λ z. omega arith)) in
      let q' = (door_assigns bs' out').1 _ _ (door.refused w' h' (λ z. omega arith)) in
      rw (← q.0, ← q'.0, ← q'.1) (says.late (rw (size-records bs) at a) b)
  moves says.nothing h h' =
      let z = (nothing_placed (records bs) (room bs) h refl).0 in
      let none : taken ps [] ≡ [] =
      ap (λ (xs : List ℕ). taken xs []) (nil ps (rearranges_length ps (size (records bs)) r ∙ z))
      in
      let q = (door_assigns bs out).1 _ _ (door.placed w h) in
      let q' = (door_assigns bs' out').1 _ _ (door.placed w' h') in
      rw (← q.0, ← q.1, ← q'.0, ← q'.1) (subst (λ (l : List ℕ). DoorMoves (count bs) ps out' 0 (encoded []) 0 (encoded l)) none (says.placed []))
  moves (says.placed {ds = ds} a) h h' =
      let q = (door_assigns bs out).1 _ _ (door.placed w h) in
      let q' = (door_assigns bs' out').1 _ _ (door.placed w' h') in
      rw (← q.0, ← q.1, ← q'.0, ← q'.1) (says.placed ds)

pub door_reorders : DoorReorders
door_reorders bs bs' ps out out' w w' e r =
    let s = records bs in
    let n = length-replicate {A = ℕ} (count bs) 0 in
    let n' = length-replicate {A = ℕ} (count bs') 0 in
    let k : Rearranges ps (size s) = rw (size-records bs) r in
    let many : count bs' ≡ count bs = omega (arith, size-records bs, size-records bs', ap size e, rearranged-size ps s k) in
    moves bs bs' ps out out' w w' k
    (rw (← e) at (assign_reorders s ps (room bs) (room bs') (records_lengths bs (results_fit s (room bs)) (eq-eqb _ _ (n ∙ sym (size-records bs)))) (n' ∙ many ∙ sym n) k))
    (assign_answers s (room bs)).0 (assign_answers (records bs') (room bs')).0
