-- What is promised of critical times holds.
use Rattle.std.specs.Prelude.{Ok}
use Prim.Native.Nat.{ℕ, suc, ◌<◌, ◌≤◌}
use mathlib.Core.List.{List, [], ◌∷◌, map}
use mathlib.Core.Path.{◌≡◌, refl, sym, ap, ◌∙◌}
use native.Mathlib.Omega.{arith}
use lib.Dec.{ltb}
use lib.IntN.{ℤ}
use lib.ListN.{length, length-map, get_or-eq_default}
use lib.Seq.{ext_get_or}
use Rattle.lists.specs.Places.{places, weight}
use Rattle.lists.proofs.Cases.{split, test, tests}
use Rattle.lists.proofs.Members.{from-length}
use Rattle.lists.proofs.Mapped.{at_map, places_at}
use Rattle.lists.proofs.Sums.{weight-nil, weight-cons}
use Rattle.subjobs.specs.declared.Field.{Field}
use Rattle.subjobs.specs.declared.Field.TheVariants as fields
use Rattle.subjobs.specs.declared.Reason.{Reason}
use Rattle.subjobs.specs.declared.Reason.TheVariants as reasons
use Rattle.subjobs.specs.Reasons as told
use Rattle.subjobs.specs.Judging.{values}
use Rattle.subjobs.specs.Faults as sets
use Rattle.graph.specs.Graphs.{Graph, size, arcs, before, after, cost, execution, Path, end, Cycle, Heaviest}
use Rattle.graph.specs.Faults as graphs
use Rattle.graph.specs.Faults.{Sound, Fit, Faulty}
use Rattle.graph.specs.Answers.{critical, answer, results}
use Rattle.graph.proofs.Paths.{path_least}
use Rattle.graph.proofs.Listed.{critical_heaviest, heaviest_one}
use Rattle.graph.proofs.Judged.{answered, found_exactly, refused_exactly}
use Rattle.graph.proofs.Finding.{light, given, refused}
use Rattle.promises.specs.Words.{Number, accepted, refusal, at}
use Rattle.promises.specs.Critical as says
use Rattle.promises.specs.Critical.{CriticalSays, CriticalAnswers, Found, CriticalIsHeaviest, NothingFollows, CycleIsRefused, CriticalIsSmall, HandedOn, Covers, ArcsDoNoHarm}
use Rattle.promises.proofs.Faulted.{faulted, refused_number}

module _ (g : Graph) (out : List ℕ) where
  -- What is faulty carries RULES' values.
  faults : {r : Reason} → Faulty g (length out) r → CriticalSays g out (told.values r) out
  faults (graphs.lengths n) = says.lengths (graphs.lengths n)
  faults (graphs.many l n) = says.many (graphs.many l n)
  faults (graphs.range p l m b all n) = says.range (graphs.range p l m b all n)
  faults (graphs.delay a l m c b all n) = says.delay (graphs.delay a l m c b all n)
  faults (graphs.stray a l m c d b all n) = says.stray (graphs.stray a l m c d b all n)
  faults (graphs.cycle s c) = says.cycle (graphs.cycle s c)

  module _ (f : Fit g (length out)) where
    passes : answer g (length out) ≡ Ok tt
    passes = (found_exactly g (length out)).1 f

    written : results g out ≡ map (critical g) (places (size g))
    written = given g out passes refl

    pub written_length : length (results g out) ≡ size g
    written_length = ap length written ∙ length-map (places (size g)) (critical g) ∙ from-length 0 (size g)

    pub written_heaviest : (i : ℕ) → i < size g → Heaviest g i (at (results g out) i)
    written_heaviest i h =
        let e : at (results g out) i ≡ critical g i =
        ap (λ (l : List ℕ). at l i) written ∙ at_map (critical g) (places (size g)) i (omega (arith, from-length 0 (size g))) ∙ ap (critical g) (places_at (size g) i h)
        in
        rw e (critical_heaviest g f.sound f.acyclic i h)

  says_so : CriticalSays g out (values (answer g (length out))) (results g out)
  says_so =
      split (answered g (length out)).holds
      (λ f. rw (passes f) (says.found f (written_length f) (written_heaviest f)))
      (λ w.
      let e = (refused_exactly g (length out) w.0).1 w.1 in
      let k = (refused g out w.0 e).1 in
      rw (e, ← k) (faults w.1))

  of_fault : {r : Reason} → Faulty g (length out) r → (told.values r ≡ values (answer g (length out))) × (out ≡ results g out)
  of_fault {r} f =
      let e = (refused_exactly g (length out) r).1 f in (rw e, (refused g out r e).1)

  only : {v : List ℤ} {l : List ℕ} → CriticalSays g out v l → (v ≡ values (answer g (length out))) × (l ≡ results g out)
  only (says.lengths f) = of_fault f
  only (says.many f) = of_fault f
  only (says.range f) = of_fault f
  only (says.delay f) = of_fault f
  only (says.stray f) = of_fault f
  only (says.cycle f) = of_fault f
  only (says.found {ws} f l h) = (
    rw (passes f),
    ext_get_or 0 ws (results g out) (l ∙ sym (written_length f))
        (λ i b. let k : i < size g = omega arith in heaviest_one g i _ _ (h i k) (written_heaviest f i k)),
  )

pub critical_answers : CriticalAnswers
critical_answers g out = (says_so g out, λ v l h. only g out h)

-- A refusal leaves the list, and an acceptance writes all of it.
accepted_fit : (g : Graph) (n : ℕ) → accepted (values (answer g n)) → Fit g n
accepted_fit g n a =
    split (answered g n).holds (λ f. f)
    (λ w. absurd (refused_number w.0 (rw ((answered g n).refuses w.0 w.1) at a)))

pub critical_keeps : (g : Graph) (out : List ℕ) → (accepted (values (answer g (length out))) → ⊥) → results g out ≡ out
critical_keeps g out n =
    split (answered g (length out)).holds
    (λ f. absurd (n (rw (passes g out f) refl)))
    (λ w. sym (of_fault g out w.1).1)

pub critical_writes :
    (g : Graph) (out old : List ℕ)
    → accepted (values (answer g (length out)))
    → length old ≡ length out
    → (results g out ≡ results g old) × (length (results g out) ≡ length out)
critical_writes g out old a l =
    let f = accepted_fit g (length out) a in
    (written g out f ∙ sym (written g old (rw l f)), written_length g out f ∙ sym f.sound.lengths.results)

-- An accepted graph is fit, and the list holds the greatest weights.
module _ (g : Graph) (ws : List ℕ) (F : Found g ws) where
  fit : Fit g (length F.0)
  fit = accepted_fit g (length F.0) F.1

  found_length : length ws ≡ size g
  found_length = rw (← F.2) (written_length g F.0 fit)

  found_heaviest : (i : ℕ) → i < size g → Heaviest g i (at ws i)
  found_heaviest = rw (← F.2) (written_heaviest g F.0 fit)

  small : (i : ℕ) → at ws i ≤ 139_700_000
  small i =
      test (ltb i (size g))
      (λ e.
      let h : i < size g = omega tests in
      let p = (found_heaviest i h).0 in
      omega (arith, light g fit.sound fit.acyclic i p.0 h p.1, p.2))
      (λ e. let z = get_or-eq_default ws 0 {n = i} (omega (tests, found_length)) in omega arith)

pub critical_is_heaviest : CriticalIsHeaviest
critical_is_heaviest g ws F = (found_length g ws F, found_heaviest g ws F)

pub critical_is_small : CriticalIsSmall
critical_is_small g ws F = small g ws F

pub nothing_follows : NothingFollows
nothing_follows g ws F i h =
    let H = found_heaviest g ws F i h in (
      λ z a b e. let p : Path g i (a ∷ []) = (b, e, tt) in omega (arith, H.1 (a ∷ []) p, path_least g (fit g ws F).sound i (a ∷ []) p),
      λ none. ends H.0.0 H.0.1 none H.0.2,
    )
  where
    ends : (p : List ℕ) → Path g i p → ((a : ℕ) → a < arcs g → before g a ≡ i → ⊥) → weight (cost g) p ≡ at ws i → at ws i ≡ 0
    ends [] q none e = sym e ∙ weight-nil (cost g)
    ends (a ∷ p) q none e = absurd (none a q.0 q.1)

pub cycle_is_refused : CycleIsRefused
cycle_is_refused g n = (
  λ e. split (answered g n).holds (λ f. absurd (zero_not (rw ((found_exactly g n).1 f) at e))) (λ w. which w.1 (rw ((refused_exactly g n w.0).1 w.1) at e)),
  λ w. rw ((refused_exactly g n reasons.Cycle).1 (graphs.cycle w.0 w.1)) refl,
)
  where
    zero_not : Number 21 (values (Ok tt)) → ⊥
    zero_not e = let z : ◌≡◌ {A = ℕ} 0 21 = cc in omega arith

    which : {r : Reason} → Faulty g n r → Number 21 (told.values r) → Sound g n × Cycle g
    which (graphs.lengths w) e = let z : ◌≡◌ {A = ℕ} 1 21 = cc in absurd (omega arith)
    which (graphs.many l w) e = let z : ◌≡◌ {A = ℕ} 2 21 = cc in absurd (omega arith)
    which (graphs.range p l m b all w) e = let z : ◌≡◌ {A = ℕ} 3 21 = cc in absurd (omega arith)
    which (graphs.delay a l m c b all w) e = let z : ◌≡◌ {A = ℕ} 3 21 = cc in absurd (omega arith)
    which (graphs.stray a l m c d b all w) e = let z : ◌≡◌ {A = ℕ} 20 21 = cc in absurd (omega arith)
    which (graphs.cycle s c) e = (s, c)

pub handed_on : HandedOn
handed_on g s others p F f = let w = faulted s others f in out w.3 w.2
  where
    field : (x : Field) (q : ℕ) → (sets.Ranged s x q → ⊥) → refusal 3 p 4 ≡ told.values (reasons.Range q x) → ⊥
    field fields.Release q n e = let z : ◌≡◌ {A = ℕ} 4 1 = cc in omega arith
    field fields.Execution q n e = let z : ◌≡◌ {A = ℕ} 4 2 = cc in omega arith
    field fields.Deadline q n e = let z : ◌≡◌ {A = ℕ} 4 3 = cc in omega arith
    field fields.Critical q n e = n (omega (arith, small g s.criticals F q))
    field fields.Hop q n e = n tt

    out : {r : Reason} → sets.Faulty s others r → refusal 3 p 4 ≡ told.values r → ⊥
    out (sets.lengths n) e = let z : ◌≡◌ {A = ℕ} 3 1 = cc in omega arith
    out (sets.many l m) e = let z : ◌≡◌ {A = ℕ} 3 2 = cc in omega arith
    out (sets.range q x l m b all before n) e = field x q n e
    out (sets.pair q j l m all b once before same) e = let z : ◌≡◌ {A = ℕ} 3 4 = cc in omega arith

-- A path of a graph that is covered has one beside it that weighs no less.
beside :
    (g g' : Graph) → g.executions ≡ g'.executions → Covers g g' → (i : ℕ) (p : List ℕ) → Path g i p
    → (q : List ℕ) × Path g' i q × (end g' i q ≡ end g i p) × (length q ≡ length p) × (weight (cost g) p ≤ weight (cost g') q)
beside g g' same C i [] h = ([], tt, refl, refl, omega (arith, weight-nil (cost g), weight-nil (cost g')))
beside g g' same C i (a ∷ p) h =
    let b = C a h.0 in
    let w = beside g g' same C (after g a) p h.2 in
    let x : execution g (after g a) ≡ execution g' (after g' b.0) = rw (b.3, same) in (
      b.0 ∷ w.0,
      (b.1, b.2 ∙ h.1, rw b.3 w.1),
      rw b.3 w.2,
      ap suc w.3,
      omega (arith, weight-cons (cost g) a p, weight-cons (cost g') b.0 w.0, w.4, b.4, x),
    )

-- So it has a cycle if the other has one,
cycle_beside : (g g' : Graph) → g.executions ≡ g'.executions → Covers g g' → Cycle g → Cycle g'
cycle_beside g g' same C (i, [], n, h, e) = absurd (n refl)
cycle_beside g g' same C (i, a ∷ p, n, h, e) =
    let w = beside g g' same C i (a ∷ p) h in
    (i, w.0, (λ z. let l = ap length z in omega (arith, w.3)), w.1, w.2 ∙ e)

-- and its paths weigh no less.
lighter : (g g' : Graph) → g.executions ≡ g'.executions → Covers g g' → (i w v : ℕ) → Heaviest g i w → Heaviest g' i v → w ≤ v
lighter g g' same C i w v H K =
    let q = beside g g' same C i H.0.0 H.0.1 in omega (arith, H.0.2, q.4, K.1 q.0 q.1)

pub arcs_do_no_harm : ArcsDoNoHarm
arcs_do_no_harm g g' out same s s' C C' =
    split (answered g (length out)).holds
    (λ f.
    let k : Fit g' (length out) = record { sound = s'; acyclic = λ c. f.acyclic (cycle_beside g' g (sym same) C' c) } in (
      passes g out f ∙ sym (passes g' out k),
      ext_get_or 0 (results g out) (results g' out)
          (written_length g out f ∙ ap length same ∙ sym (written_length g' out k))
          (λ i h.
          let a : i < size g = omega (arith, written_length g out f) in
          let b : i < size g' = omega (arith, ap length same) in
          let x = written_heaviest g out f i a in
          let y = written_heaviest g' out k i b in
          omega (arith, lighter g g' same C i _ _ x y, lighter g' g (sym same) C' i _ _ y x)),
    ))
    (λ w. refuse w.1)
  where
    refuse : {r : Reason} → Faulty g (length out) r → (answer g (length out) ≡ answer g' (length out)) × (results g out ≡ results g' out)
    refuse (graphs.lengths n) = absurd (n s.lengths)
    refuse (graphs.many l n) = absurd (n s.few)
    refuse (graphs.range p l m b all n) = absurd (n (s.executions p b))
    refuse (graphs.delay a l m c b all n) = absurd (n (s.hops a b))
    refuse (graphs.stray a l m c d b all n) = absurd (n (s.named a b))
    refuse (graphs.cycle q c) =
        let e = (refused_exactly g (length out) reasons.Cycle).1 (graphs.cycle q c) in
        let e' = (refused_exactly g' (length out) reasons.Cycle).1 (graphs.cycle s' (cycle_beside g g' same C c)) in
        (e ∙ sym e', sym (refused g out reasons.Cycle e).1 ∙ (refused g' out reasons.Cycle e').1)
