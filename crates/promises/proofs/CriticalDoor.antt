-- What is promised of `charoktan_critical` holds: what it returns and leaves is what `critical` says of the graph, in one
-- number.
use Rattle.std.specs.Prelude.{Ok, Err}
use Prim.Native.Nat.{ℕ, ◌/◌, ◌%◌}
use mathlib.Core.Bool.{true, ◌&&◌}
use mathlib.Core.List.{List, ◌∷◌}
use mathlib.Core.Logic.{◌≢◌}
use mathlib.Core.Path.{◌≡◌, refl, sym, ap, ◌∙◌}
use native.Mathlib.Omega.{arith}
use borrow.Author.Tests.{eqb-true, eq-eqb}
use lib.Dec.{eqb}
use lib.IntN.{ℤ, pos}
use lib.ListN.{length, length-replicate}
use Rattle.lists.proofs.Cases.{test, clash, both}
use Rattle.subjobs.specs.Judging.{Judgement}
use Rattle.subjobs.specs.declared.Reason.{Reason}
use Rattle.subjobs.specs.Reasons.{number_of, place_of}
use Rattle.subjobs.specs.Judging.{values}
use Rattle.subjobs.proofs.Reported.{number_range}
use Rattle.graph.specs.Answers.{answer, results}
use Rattle.graph.proofs.Judged.{refused_within}
use Rattle.charoktan.specs.Records.{encoded, graph_of, fitting_graph}
use Rattle.charoktan.specs.Answers.{code, found, found_bytes}
use Rattle.charoktan.proofs.Coding.{length-encoded, words-encoded}
use Rattle.charoktan.proofs.GraphDoor.{size_graph, graph_unfit, graph_answered}
use Rattle.promises.specs.Critical.{CriticalSays, Found}
use Rattle.promises.specs.CriticalDoor as says
use Rattle.promises.specs.CriticalDoor.{WholeGraph, room, DoorCriticalSays, DoorFinds, GraphToldApart, DoorHandsOn}
use Rattle.promises.proofs.Critical.{critical_answers, critical_is_heaviest, critical_is_small}
use Rattle.promises.proofs.Door.{not_0, parted}

whole : (es bs out : List ℕ) → fitting_graph es bs (length out) ≡ true → WholeGraph es bs out
whole es bs out e =
    let w = both {a = eqb (length es % 4) 0 && eqb (length bs % 12) 0} {b = eqb (length out) (length es)} e in
    let v = both {a = eqb (length es % 4) 0} {b = eqb (length bs % 12) 0} w.0 in
    (eqb-true _ _ v.0, eqb-true _ _ v.1, eqb-true _ _ w.1)

fits : (es bs out : List ℕ) → WholeGraph es bs out → fitting_graph es bs (length out) ≡ true
fits es bs out w = rw (eq-eqb (length es % 4) 0 w.0, eq-eqb (length bs % 12) 0 w.1, eq-eqb (length out) (length es) w.2)

-- The values of an answer begin with 0, or are a refusal's, which begin with its number and place.
refuses :
    {n p : ℕ} {vs : List ℤ} (a : Judgement) → pos n ∷ pos p ∷ vs ≡ values a → n ≢ 0
    → (r : Reason) × (a ≡ Err r) × (n ≡ number_of r) × (p ≡ place_of r)
refuses {n} (Ok tt) e z = let q : n ≡ 0 = cc in absurd (z q)
refuses {n} {p} (Err r) e z = (r, refl, cc, cc)

accepts : {vs : List ℤ} (a : Judgement) → pos 0 ∷ vs ≡ values a → a ≡ Ok tt
accepts (Ok tt) e = refl
accepts (Err r) e = let q : 0 ≡ number_of r = cc in absurd (omega (arith, (number_range r).0))

module _ (es bs out : List ℕ) where
  -- What `critical` answers on the graph, with a result list of its size.
  asked : answer (graph_of es bs) (length es / 4) ≡ answer (graph_of es bs) (length (room es))
  asked = ap (answer (graph_of es bs)) (sym (length-replicate {A = ℕ} (length es / 4) 0))

  said : CriticalSays (graph_of es bs) (room es) (values (answer (graph_of es bs) (length (room es)))) (results (graph_of es bs) (room es))
  said = (critical_answers (graph_of es bs) (room es)).0

  told :
      {v : List ℤ} {l : List ℕ} → CriticalSays (graph_of es bs) (room es) v l
      → (v ≡ values (answer (graph_of es bs) (length (room es)))) × (l ≡ results (graph_of es bs) (room es))
  told {v} {l} = (critical_answers (graph_of es bs) (room es)).1 v l

  module _ (e : fitting_graph es bs (length out) ≡ true) where
    refused_so :
        {r : Reason} → answer (graph_of es bs) (length (room es)) ≡ Err r
        → (code r ≡ found es bs (length out)) × (out ≡ found_bytes es bs out)
    refused_so {r} q = let w = graph_answered es bs out e (Err r) (asked ∙ q) in (sym w.0, sym w.1)

    found_so :
        answer (graph_of es bs) (length (room es)) ≡ Ok tt
        → (0 ≡ found es bs (length out)) × (encoded (results (graph_of es bs) (room es)) ≡ found_bytes es bs out)
    found_so q = let w = graph_answered es bs out e (Ok tt) (asked ∙ q) in (sym w.0, sym w.1)

    fitted : DoorCriticalSays es bs out (found es bs (length out)) (found_bytes es bs out)
    fitted = by_answer (answer (graph_of es bs) (length (room es))) refl
      where
        by_answer :
            (a : Judgement) → answer (graph_of es bs) (length (room es)) ≡ a
            → DoorCriticalSays es bs out (found es bs (length out)) (found_bytes es bs out)
        by_answer (Err r) q =
            let w = refused_so q in rw (← w.0, ← w.1) (says.refused (whole es bs out e) (rw q at said) (not_0 r))
        by_answer (Ok tt) q = let w = found_so q in rw (← w.0, ← w.1) (says.accepted (whole es bs out e) (rw q at said))

  says_so : DoorCriticalSays es bs out (found es bs (length out)) (found_bytes es bs out)
  says_so =
      test (fitting_graph es bs (length out)) fitted
      (λ n. let w = graph_unfit es bs out n in rw (w.0, w.1) (says.lengths (λ h. clash (fits es bs out h) n)))

  only : {n : ℕ} {l : List ℕ} → DoorCriticalSays es bs out n l → (n ≡ found es bs (length out)) × (l ≡ found_bytes es bs out)
  only (says.lengths h) =
      test (fitting_graph es bs (length out)) (λ e. absurd (h (whole es bs out e)))
      (λ n. let w = graph_unfit es bs out n in (sym w.0, sym w.1))
  only (says.refused {n} {p} w h z) =
      let q = refuses (answer (graph_of es bs) (length (room es))) (told h).0 z in
      let d = refused_so (fits es bs out w) q.1 in
      (omega (arith, d.0, q.2, q.3), d.1)
  only (says.accepted {vs} {ws} w h) =
      let t = told h in
      let d = found_so (fits es bs out w) (accepts (answer (graph_of es bs) (length (room es))) t.0) in
      (d.0, ap encoded t.1 ∙ d.1)

  -- A number other than 0 leaves every byte.
  pub graph_keeps : found es bs (length out) ≢ 0 → found_bytes es bs out ≡ out
  graph_keeps z = kept says_so z
    where
      kept : {n : ℕ} {l : List ℕ} → DoorCriticalSays es bs out n l → n ≢ 0 → l ≡ out
      kept (says.lengths h) z = refl
      kept (says.refused w h n) z = refl
      kept (says.accepted w h) z = absurd (z refl)

  -- The number 0 means that `critical` accepts the graph, and its results are written.
  pub graph_found :
      found es bs (length out) ≡ 0
      → WholeGraph es bs out × Found (graph_of es bs) (results (graph_of es bs) (room es))
      × (found_bytes es bs out ≡ encoded (results (graph_of es bs) (room es)))
  graph_found z = taken says_so z
    where
      taken :
          {n : ℕ} {l : List ℕ}
          → DoorCriticalSays es bs out n l
          → n ≡ 0
          → WholeGraph es bs out × Found (graph_of es bs) (results (graph_of es bs) (room es))
          × (l ≡ encoded (results (graph_of es bs) (room es)))
      taken (says.lengths h) z = absurd (omega arith)
      taken (says.refused w h n) z = absurd (n (omega arith))
      taken (says.accepted w h) z = let q = told h in (w, (room es, rw (← q.0) refl, refl), ap encoded q.1)

pub graph_writes :
    (es bs out old : List ℕ)
    → found es bs (length out) ≡ 0
    → length old ≡ length out
    → (found_bytes es bs out ≡ found_bytes es bs old) × (length (found_bytes es bs out) ≡ length out)
graph_writes es bs out old z l =
    let a = graph_found es bs out z in
    let b = graph_found es bs old (rw l z) in
    let ws = results (graph_of es bs) (room es) in
    let whole_out = a.0 in (
      a.2 ∙ sym b.2,
      omega (arith, ap length a.2, length-encoded ws, (critical_is_heaviest (graph_of es bs) ws a.1).0, size_graph es bs, whole_out.0, whole_out.2),
    )

pub door_finds : DoorFinds
door_finds es bs out = (says_so es bs out, λ n l h. only es bs out h)

pub graph_told_apart : GraphToldApart
graph_told_apart es bs out l n p vs w z h =
    let q = refuses (answer (graph_of es bs) (length (room es))) (told es bs out h).0 z in
    parted (found es bs (length out)) q.0 (sym (only es bs out (says.refused w h z)).0) q.2 q.3
    (refused_within (graph_of es bs) (length (room es)) q.0 q.1)

pub door_hands_on : DoorHandsOn
door_hands_on es bs out z =
    let w = graph_found es bs out z in
    let ws = results (graph_of es bs) (room es) in
    let l : length ws ≡ length es / 4 = (critical_is_heaviest (graph_of es bs) ws w.1).0 ∙ size_graph es bs in
    rw (w.2, words-encoded ws (length es / 4) l (λ i h. omega (arith, critical_is_small (graph_of es bs) ws w.1 i))) w.1
