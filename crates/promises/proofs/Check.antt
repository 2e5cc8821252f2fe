-- What is promised of the checker holds, by the one law of its judgements.
use Rattle.std.specs.Prelude.{Ok, Err}
use Prim.Native.Nat.{ℕ, ◌<◌}
use mathlib.Core.List.{List}
use mathlib.Core.Logic.{◌⊎◌, inl, inr}
use mathlib.Core.Path.{◌≡◌, refl, sym, ap, ◌∙◌}
use native.Mathlib.Omega.{arith}
use lib.IntN.{ℤ}
use Rattle.lists.proofs.Cases.{split}
use Rattle.lists.proofs.Members.{in_places, places_in}
use Rattle.subjobs.specs.Judging.{Judgement}
use Rattle.subjobs.specs.declared.Reason.{Reason}
use Rattle.subjobs.specs.declared.Reason.TheVariants.{Unmet, Missed}
use Rattle.subjobs.specs.Sets.{Subjobs, size}
use Rattle.subjobs.specs.Reasons as reasons
use Rattle.subjobs.specs.Judging.{or_else}
use Rattle.subjobs.specs.Faults.{Fit, Faulty}
use Rattle.ticks.proofs.Keeps.{kept, met}
use Rattle.checker.specs.Answers as checker
use Rattle.checker.specs.Answers.{answer, values}
use Rattle.checker.proofs.Accepts.{checked, seven_finishes, Unmets, Misses}
use Rattle.promises.specs.Words.{accepted, Meets, MeetsSix, MeetsSeven}
use Rattle.promises.specs.Check as says
use Rattle.promises.specs.Check.{proposed_fit, CheckSays, CheckAnswers, ChecksExactly, SevenOnTheCore, KeepsDeadlines}
use Rattle.promises.proofs.Faulted.{faults, faulted, refused_number}

module _ (s : Subjobs) (ds : List ℕ) where
  abbrev judgement : Judgement
  judgement = or_else (checker.judged s ds) (or_else (checker.six s ds) (checker.seven s ds))

  passed_answer : judgement ≡ Ok tt → answer s ds ≡ Ok tt
  unfolding answer
  passed_answer e = rw e

  refused_answer : {r : Reason} → judgement ≡ Err r → answer s ds ≡ Err r
  unfolding answer
  refused_answer e = rw e

  all_meet : MeetsSix s ds → (i : ℕ) → i < size s → Meets s ds i
  all_meet six i h = six i (in_places (size s) i h)

  meet_all : ((i : ℕ) → i < size s → Meets s ds i) → MeetsSix s ds
  meet_all h i m = h i (places_in (size s) i m)

  unmet_says : {r : Reason} → Fit s (proposed_fit s ds) → Unmets s ds r → CheckSays s ds (reasons.values r)
  unmet_says f w = rw w.3.0 (says.unmet f w.1 w.3.1 w.2)

  missed_says : {r : Reason} → Fit s (proposed_fit s ds) → MeetsSix s ds → Misses s ds r → CheckSays s ds (reasons.values r)
  missed_says f six w = rw w.3.0 (says.missed f six w.1 w.3.1 w.2)

  says_so : CheckSays s ds (values (answer s ds))
  says_so =
      split (checked s ds).holds
      (λ p.
      let six = meet_all p.1.0 in
      rw (passed_answer ((checked s ds).passes p)) (says.met p.0 six ((seven_finishes s ds p.0 six).1 p.1.1)))
      (λ q.
      rw (refused_answer ((checked s ds).refuses q.0 q.1))
      (split q.1
      (λ f. says.faulty (faults s (proposed_fit s ds) f))
      (λ w. split w.1 (λ u. unmet_says w.0 u) (λ u. missed_says w.0 (meet_all u.0) u.1))))

  refused_so : {r : Reason} → Faulty s (proposed_fit s ds) r ⊎ (Fit s (proposed_fit s ds) × (Unmets s ds r ⊎ (((i : ℕ) → i < size s → Meets s ds i) × Misses s ds r))) → reasons.values r ≡ values (answer s ds)
  refused_so {r} h = sym (ap values (refused_answer ((checked s ds).refuses r h)))

  -- What RULES says is what the checker answers.
  only : {v : List ℤ} → CheckSays s ds v → v ≡ values (answer s ds)
  only (says.faulty h) =
      let w = faulted s (proposed_fit s ds) h in
      w.2 ∙ refused_so (inl w.3)
  only (says.unmet {p} f h n b) = refused_so {r = Unmet p} (inr (f, inl (p, h, b, (refl, n))))
  only (says.missed {p} f six h n b) = refused_so {r = Missed p} (inr (f, inr (all_meet six, (p, h, b, (refl, n)))))
  only (says.met f six seven) =
      sym (ap values (passed_answer ((checked s ds).passes (f, (all_meet six, (seven_finishes s ds f six).0 seven)))))

pub check_answers : CheckAnswers
check_answers s ds = (says_so s ds, λ v h. only s ds h)

-- What is accepted is not refused.
met_only : (s : Subjobs) (ds : List ℕ) {v : List ℤ} → accepted v → CheckSays s ds v → MeetsSix s ds × MeetsSeven s ds
met_only s ds a (says.faulty h) = let w = faulted s (proposed_fit s ds) h in absurd (refused_number w.0 (rw w.2 at a))
met_only s ds a (says.unmet f h n b) = let z : ◌≡◌ {A = ℕ} 6 0 = cc in absurd (omega arith)
met_only s ds a (says.missed f six h n b) = let z : ◌≡◌ {A = ℕ} 7 0 = cc in absurd (omega arith)
met_only s ds a (says.met f six seven) = (six, seven)

pub checks_exactly : ChecksExactly
checks_exactly s ds f = (
  λ a. met_only s ds a (says_so s ds),
  λ h. rw (← only s ds (says.met f h.0 h.1)) refl,
)

pub seven_on_the_core : SevenOnTheCore
seven_on_the_core s ds f six = seven_finishes s ds f six

pub keeps_deadlines : KeepsDeadlines
keeps_deadlines s ds asks f six seven i h =
    (kept s ds asks f.few seven i h, met s ds asks f.few seven i h (omega (arith, (six i (in_places (size s) i h)).0)))
