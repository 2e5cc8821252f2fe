-- A set whose list is rearranged. Its sub-jobs are the same under other places, and refusals 1 to 4 do not ask which: it passes
-- exactly if the set does, and is refused by the same number.
--
--   Alike π ρ s' s == the sub-job at place i of s' is the one at place π i of s, and ρ leads back
use Prim.Native.Nat.{ℕ, ◌<◌}
use mathlib.Core.Bool.{Bool, true}
use mathlib.Core.List.{List, Memᴰ}
use mathlib.Core.Path.{◌≡◌, sym, ap, ◌∙◌}
use native.Mathlib.Omega.{arith}
use lib.ListN.{length, get_or}
use Rattle.lists.specs.Places.{places, Rearranges, taken}
use Rattle.lists.proofs.Members.{in_places, places_in}
use Rattle.lists.proofs.Renamed.{Moved, moved_in, moved_back, moved_home, moved_agree}
use Rattle.lists.proofs.Taken.{standing, rearranges_moved, rearranges_back, taken-length, taken_at}
use Rattle.subjobs.specs.Sets as sets
use Rattle.subjobs.specs.Sets.{Subjobs, size, rearranged}
use Rattle.subjobs.specs.Faults.{OneLength, AllInRange, NoneTwice, Fit}
use Rattle.subjobs.specs.Reasons.{number_of}
use Rattle.subjobs.specs.Judging.{judgement}
use Rattle.subjobs.proofs.Pairs.{pairs_one}
use Rattle.subjobs.proofs.Exactly.{SameNumber, same_or, same_exactly}
use Rattle.subjobs.proofs.Fit.{lengths_exactly, few_exactly, ranges_exactly, pairs_exactly}

pub record Alike (π ρ : ℕ → ℕ) (s' s : Subjobs) : Type 0 where
  pub many : size s' ≡ size s
  pub moved : Moved π (places (size s')) (places (size s))
  pub back : (i : ℕ) → Memᴰ i (places (size s')) → ρ (π i) ≡ i
  pub job : (i : ℕ) → Memᴰ i (places (size s')) → sets.job s' i ≡ sets.job s (π i)
  pub subtask : (i : ℕ) → Memᴰ i (places (size s')) → sets.subtask s' i ≡ sets.subtask s (π i)
  pub release : (i : ℕ) → Memᴰ i (places (size s')) → sets.release s' i ≡ sets.release s (π i)
  pub execution : (i : ℕ) → Memᴰ i (places (size s')) → sets.execution s' i ≡ sets.execution s (π i)
  pub deadline : (i : ℕ) → Memᴰ i (places (size s')) → sets.deadline s' i ≡ sets.deadline s (π i)
  pub critical : (i : ℕ) → Memᴰ i (places (size s')) → sets.critical s' i ≡ sets.critical s (π i)

module _ {π ρ : ℕ → ℕ} {s' s : Subjobs} (e : Alike π ρ s' s) where
  abbrev xs : List ℕ
  xs = places (size s')

  abbrev ys : List ℕ
  ys = places (size s)

  -- It holds both ways, so each law below does.
  pub alike_back : Alike ρ π s s'
  alike_back =
      record {
        many = sym e.many;
        moved = moved_back π xs ys e.moved ρ e.back;
        back = λ j m. (moved_home π xs ys e.moved ρ e.back m).1;
        job = agree (sets.job s') (sets.job s) e.job;
        subtask = agree (sets.subtask s') (sets.subtask s) e.subtask;
        release = agree (sets.release s') (sets.release s) e.release;
        execution = agree (sets.execution s') (sets.execution s) e.execution;
        deadline = agree (sets.deadline s') (sets.deadline s) e.deadline;
        critical = agree (sets.critical s') (sets.critical s) e.critical;
      }
    where
      agree : (f g : ℕ → ℕ) → ((i : ℕ) → Memᴰ i xs → f i ≡ g (π i)) → (j : ℕ) → Memᴰ j ys → g j ≡ f (ρ j)
      agree = moved_agree π xs ys e.moved ρ e.back

  -- A place of the one is a place of the other.
  pub alike_inside : (i : ℕ) → i < size s' → π i < size s
  alike_inside i h = places_in (size s) (π i) (moved_in π xs ys e.moved (in_places (size s') i h))

  -- 3: if all fields of the one are in their ranges, so are those of the other.
  pub alike_ranges : AllInRange s (size s) → AllInRange s' (size s')
  alike_ranges a i h =
      let m = in_places (size s') i h in
      rw (e.release i m, e.execution i m, e.deadline i m, e.critical i m) (a (π i) (alike_inside i h))

  -- 4: if no pair stands twice in the one, none does in the other.
  pub alike_pairs : NoneTwice s (size s) → NoneTwice s' (size s')
  alike_pairs a i j l h p q =
      let mi = in_places (size s') i (omega arith) in
      let mj = in_places (size s') j h in
      let same : π i ≡ π j =
      pairs_one s (size s) (π i) (π j) a (alike_inside i (omega arith)) (alike_inside j h)
      (sym (e.job i mi) ∙ p ∙ e.job j mj) (sym (e.subtask i mi) ∙ q ∙ e.subtask j mj)
      in
      omega (arith, e.back i mi, e.back j mj, ap ρ same)

-- A rearranged set is alike, by what stands at each place and by where each place stands.
module _ (ps : List ℕ) (s : Subjobs) (r : Rearranges ps (size s)) where
  pub rearranged-size : size (rearranged ps s) ≡ size s
  rearranged-size = taken-length ps (size s) r s.jobs

  -- A list in the order of ps has for each sub-job what it had, by its new place and by its old one.
  pub taken_there :
      (xs : List ℕ) (i : ℕ) → Memᴰ i (places (size (rearranged ps s))) → get_or (taken ps xs) i 0 ≡ get_or xs (get_or ps i 0) 0
  taken_there xs i m =
      taken_at ps (size s) r xs i (omega (arith, places_in (size (rearranged ps s)) i m, rearranged-size))

  pub rearranged_alike : Alike (λ i. get_or ps i 0) (standing ps) (rearranged ps s) s
  rearranged_alike =
      record {
        many = rearranged-size;
        moved = rw rearranged-size (rearranges_moved ps (size s) r);
        back = λ i m. rearranges_back ps (size s) r i (rw rearranged-size at m);
        job = taken_there s.jobs;
        subtask = taken_there s.subtasks;
        release = taken_there s.releases;
        execution = taken_there s.executions;
        deadline = taken_there s.deadlines;
        critical = taken_there s.criticals;
      }

  pub taken_back : (xs : List ℕ) (j : ℕ) → Memᴰ j (places (size s)) → get_or xs j 0 ≡ get_or (taken ps xs) (standing ps j) 0
  taken_back xs j m =
      let a = alike_back rearranged_alike in
      ap (λ (i : ℕ). get_or xs i 0) (sym (a.back j m))
      ∙ sym (taken_there xs (standing ps j) (moved_in (standing ps) (places (size s)) (places (size (rearranged ps s))) a.moved m))

  -- The sub-job of an old place stands at a new one.
  pub rearranged_stands : (p : ℕ) → p < size s → (standing ps p < size s) × (get_or ps (standing ps p) 0 ≡ p)
  rearranged_stands p h =
      let back = alike_back rearranged_alike in
      (omega (arith, alike_inside back p h, rearranged-size), back.back p (in_places (size s) p h))

  -- 1: its lists are as long as one another.
  pub rearranged_lengths : {others : Bool} → others ≡ true → OneLength (rearranged ps s) others
  rearranged_lengths o =
      record {
        subtasks = long s.subtasks;
        releases = long s.releases;
        executions = long s.executions;
        deadlines = long s.deadlines;
        criticals = long s.criticals;
        further = o;
      }
    where
      long : (xs : List ℕ) → length (taken ps xs) ≡ size (rearranged ps s)
      long xs = taken-length ps (size s) r xs ∙ sym rearranged-size

  -- It passes exactly if the set does, and is refused by the same number.
  pub rearranged_fit : {others : Bool} → Fit s others → Fit (rearranged ps s) others
  rearranged_fit f =
      record {
        lengths = rearranged_lengths f.lengths.further;
        few = omega (arith, rearranged-size, f.few);
        ranges = alike_ranges rearranged_alike f.ranges;
        pairs = alike_pairs rearranged_alike f.pairs;
      }

  pub rearranged_judged : (others : Bool) → OneLength s others → SameNumber (judgement s others) (judgement (rearranged ps s) others)
  unfolding judgement
  rearranged_judged others l =
      let s' = rearranged ps s in
      let a = rearranged_alike in
      same_or
      (same_exactly 1 (lengths_exactly s others) (lengths_exactly s' others) (λ h. rearranged_lengths l.further) (λ h. l)
      (λ r q. ap number_of q.0) (λ r q. ap number_of q.0))
      (λ e.
      same_or
      (same_exactly 2 (few_exactly s) (few_exactly s') (λ h. omega (arith, rearranged-size)) (λ h. omega (arith, rearranged-size))
      (λ r q. ap number_of q.0) (λ r q. ap number_of q.0))
      (λ e.
      same_or
      (same_exactly 3 (ranges_exactly s) (ranges_exactly s') (alike_ranges a) (alike_ranges (alike_back a))
      (λ r q. ap number_of q.3.1) (λ r q. ap number_of q.3.1))
      (λ e.
      same_exactly 4 (pairs_exactly s) (pairs_exactly s')
      (λ h k b j c q. alike_pairs a (λ i m c b e f. h m b i c (e, f)) j k c b q.0 q.1)
      (λ h k b j c q. alike_pairs (alike_back a) (λ i m c b e f. h m b i c (e, f)) j k c b q.0 q.1)
      (λ r q. ap number_of q.3.0) (λ r q. ap number_of q.3.0))))
