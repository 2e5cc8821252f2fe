-- The steps of the method on arrays. What the loop was asked of all holds again of those that are left, their completions
-- are held, and their steps give what the steps of all give.
use Rattle.std.specs.Prelude.{Ok, Err}
use Prim.Native.Nat.{ℕ, suc, ◌+◌, ◌-◌, ◌<◌, ◌≤◌}
use mathlib.Core.Bool.{not}
use mathlib.Core.List.{List, ◌++◌}
use mathlib.Core.Option.{some}
use mathlib.Core.Path.{◌≡◌, ap, sym, ◌∙◌}
use lib.IntN.{ℤ, sub_ℕ}
use native.Mathlib.Omega.{arith}
use borrow.Author.Tests.{le-leb, lt-leb}
use lib.Dec.{eqb}
use lib.ListN.{length, take, drop, set, length-set, length-take, length-drop}
use lib.Seq.{length-take-le, get_or-take, get_or-drop, take-set-lt}
use mir.Syntax.{w32}
use mir.Val.{Fits}
use Rattle.std.proofs.lemmas.List.{take-append-le}
use Rattle.std.proofs.lemmas.List.Edits.{length-remove}
use Rattle.lists.specs.Places.{without}
use Rattle.lists.specs.Order.{reversed, choose}
use Rattle.lists.proofs.Mapped.{part_within}
use Rattle.lists.proofs.Members.{every_at, every_in, in_every, every_more, every_drop, in_at, without_in, nodup_filter}
use Rattle.lists.proofs.Sums.{weight_in}
use Rattle.subjobs.specs.Sets.{Subjobs}
use Rattle.subjobs.specs.declared.Reason.TheVariants.{Late}
use Rattle.subjobs.specs.Terms.{Terms}
use Rattle.rules.specs.Method.{stuck, best, base, steps}
use Rattle.olda.specs.Parts.{at, rest, completes, completions, raise, lower_by, raised, Ranged, Tail, Greatest, Choosing, Chosen, Leaving, Left, Placing, stepped, Placed}
use Rattle.olda.proofs.Adding.{tail_most, completions-length, completions-at}
use Rattle.olda.proofs.Held.{held_enough, held_rest, greatest_tail}
use Rattle.olda.proofs.Shifts.{without_at}

-- A front of n that lost one of its numbers, in the array that it is the front of.
shorter : (xs behind ys : List ℕ) (m n : ℕ) → m ≡ n → length ys + 1 ≡ n → take (m - 1) xs ≡ ys → take (n - 1) (xs ++ behind) ≡ ys
shorter xs behind ys m n z l e =
    let h : n - 1 ≤ length xs = omega (arith, ap length e, length-take (m - 1) xs) in
    take-append-le (n - 1) xs behind h ∙ rw z at e

-- The base sub-job b and the completion m settle a step.
module _
    (T : Terms)
    (fewer n : ℕ)
    (xs ds : List ℕ)
    (b m : ℕ)
    (one_more : suc fewer ≡ n)
    (job : choose (reversed T.lower) (base T.release T.execution xs) ≡ some b)
    (is_best : m ≡ best T.release T.execution xs)
  where
    step_late : T.deadline b < m + T.withheld b → steps T n xs ds ≡ stuck b m
    unfolding steps
    step_late h = rw (← one_more, job, ← is_best, lt-leb _ _ h)

    step_more : m + T.withheld b ≤ T.deadline b → steps T n xs ds ≡ steps T fewer (without b xs) (set ds b m)
    unfolding steps
    step_more h = rw (← one_more, job, ← is_best, le-leb _ _ h)

-- n sub-jobs are left of the first `all` of `old`, in the front of os.
pub record Stepping (X : Subjobs) (us old kept : List ℕ) (all : ℕ) (os es ls : List ℕ) (n : ℕ) : Type 0 where
  pub asked : Placing X us os es ls n
  pub held : take n es ≡ completions (at X.releases) (at X.executions) (take n os)
  pub same : stepped X us os ls n ≡ stepped X us old kept all

module _ {X : Subjobs} {us old kept : List ℕ} {all : ℕ} {os es ls : List ℕ} {n : ℕ} (s : Stepping X us old kept all os es ls n) where
  long : length (take n os) ≡ n
  long = length-take-le n os s.asked.order

  -- All are placed.
  pub stepping_all : n ≤ 0 → Placed X us old kept all (Ok tt) ls
  unfolding steps
  stepping_all h =
      let z : n ≡ 0 = omega arith in
      let e = rw z at s.same in
      record { ruled = rw (← e); list = rw (← e) }

  -- The base subset starts at k.
  module _ {k : ℕ} (g : Greatest (take n es) k) where
    base_inside : k < n
    base_inside = omega (arith, g.inside, length-take-le n es s.asked.ends)

    tail : Tail X.releases X.executions (drop k (take n os))
    tail =
        record {
          some = simp length-drop (omega (arith, long, base_inside));
          few = simp length-drop (omega (arith, long, s.asked.few));
          each = every_drop (Ranged X.releases X.executions) k (take n os) s.asked.each;
        }

    held_at : at es k ≡ completes (at X.releases) (at X.executions) (drop k (take n os))
    held_at =
        sym (get_or-take n es k 0 base_inside)
        ∙ ap (λ (ms : List ℕ). at ms k) s.held
        ∙ completions-at (at X.releases) (at X.executions) (take n os) k (omega (arith, long, base_inside))

    pub base_fits : Fits w32 (at es k + raise)
    base_fits = record { fits = omega (arith, held_at, tail_most tail) }

    some_execution : 1 ≤ at (take n es) k
    some_execution =
        omega (
          arith,
          get_or-take n es k 0 base_inside,
          held_at,
          weight_in (at X.executions) (drop k (take n os)) (in_at (drop k (take n os)) 0 tail.some),
          (every_at (Ranged X.releases X.executions) (drop k (take n os)) 0 tail.some tail.each).some,
        )

    is_base : (at (take n es) k ≡ best (at X.releases) (at X.executions) (take n os)) × (drop k (take n os) ≡ base (at X.releases) (at X.executions) (take n os))
    is_base =
        rw (← s.held) at (greatest_tail (at X.releases) (at X.executions) (take n os) k (rw s.held at some_execution) (rw s.held at g))

    -- The tail handed on.
    part : take (n - k) (drop k os) ≡ drop k (take n os)
    part = part_within os n k (omega (arith, base_inside))

    pub base_choosing : Choosing (take (n - k) (drop k os)) us (length X.releases)
    base_choosing =
        rw part record {
          some = tail.some;
          bounds = s.asked.bounds;
          each = every_more (Ranged X.releases X.executions) (λ p. p < length X.releases) (λ p q. q.inside) (drop k (take n os)) tail.each;
        }

    -- The base sub-job stands at k + j, and its place is p.
    module _ {j : ℕ} (c : Chosen (take (n - k) (drop k os)) us X.jobs X.subtasks j) where
      job_inside : k + j < n
      job_inside = omega (arith, c.inside, ap length part, length-drop k (take n os), long)

      stands : at (take n os) (k + j) ≡ at os (k + j)
      stands = get_or-take n os (k + j) 0 job_inside

      ranged : Ranged X.releases X.executions (at os (k + j))
      ranged = rw (← stands) (every_at (Ranged X.releases X.executions) (take n os) (k + j) (omega (arith, job_inside, long)) s.asked.each)

      pub job_bound : at os (k + j) < length us
      job_bound = omega (arith, ranged.inside, s.asked.bounds)

      pub job_local : at os (k + j) < length ls
      job_local = omega (arith, ranged.inside, s.asked.local)

      pub job_execution : at os (k + j) < length X.executions
      job_execution = ranged.known

      is_job : choose (reversed (lower_by us X.jobs X.subtasks)) (base (at X.releases) (at X.executions) (take n os)) ≡ some (at os (k + j))
      is_job =
          rw (← is_base.1, ← part)
          (c.last ∙ ap some (get_or-take (n - k) (drop k os) j 0 (omega (arith, job_inside)) ∙ get_or-drop k os j 0))

      is_best : at es k ≡ best (at X.releases) (at X.executions) (take n os)
      is_best = sym (get_or-take n es k 0 base_inside) ∙ is_base.0

      -- It leaves, with its execution,
      module _ (v : ℕ) (q : v ≡ at X.executions (at os (k + j))) where
        same_execution : at X.executions (at (take n os) (k + j)) ≡ v
        same_execution = ap (at X.executions) stands ∙ sym q

        pub job_leaving : Leaving (take n os) (take n es) (k + j) v
        job_leaving =
            let h : k + j < length (take n os) = omega (arith, job_inside, long) in
            record {
              order = h;
              ends = omega (arith, job_inside, length-take-le n es s.asked.ends);
              enough = held_enough (at X.releases) (at X.executions) (take n os) (take n es) (k + j) v s.held h same_execution;
            }

      -- Step 3 fails: its bound lies before the completion.
      pub stepping_late :
          {b : ℤ}
          → 0 < n
          → at us (at os (k + j)) < at es k + raise
          → b ≡ sub_ℕ (at us (at os (k + j))) raise
          → Placed X us old kept all (Err (Late (at os (k + j)) (at es k) b)) ls
      stepping_late o h q =
          let e =
          sym s.same
          ∙ step_late (raised X us) (n - 1) n (take n os) (take (length X.releases) ls) (at os (k + j)) (at es k) (omega arith) is_job is_best h
          in
          record { ruled = rw (e, q); list = rw e }

      -- It gets the completion and leaves.
      pub stepping_next :
          {os' es' : List ℕ}
          → 0 < n
          → at es k + raise ≤ at us (at os (k + j))
          → Left (take n os) (take n es) (k + j) (at X.executions (at os (k + j))) os' es'
          → Stepping X us old kept all (os' ++ drop n os) (es' ++ drop n es) (set ls (at os (k + j)) (at es k)) (n - 1)
      stepping_next {os'} {es'} o h l =
          let xs = take n os in
          let p = at os (k + j) in
          let i : k + j < length xs = omega (arith, job_inside, long) in
          let one = length-remove xs (k + j) i in
          let order = shorter os' (drop n os) (rest (k + j) xs) (length xs) n long (omega (arith, one, long)) l.order in
          let ends =
          l.ends ∙ held_rest (at X.releases) (at X.executions) xs (take n es) (k + j) (at X.executions p) s.held i (ap (at X.executions) stands)
          in
          let fewer : length (completions (at X.releases) (at X.executions) (rest (k + j) xs)) + 1 ≡ n =
          omega (arith, completions-length (at X.releases) (at X.executions) (rest (k + j) xs), one, long)
          in
          let held =
          shorter es' (drop n es) (completions (at X.releases) (at X.executions) (rest (k + j) xs)) (length (take n es)) n (length-take-le n es s.asked.ends) fewer ends
          ∙ ap (completions (at X.releases) (at X.executions)) (sym order)
          in
          let w : take (n - 1) (os' ++ drop n os) ≡ without p xs =
          order ∙ sym (without_at xs (k + j) s.asked.once i) ∙ ap (λ (b : ℕ). without b xs) stands
          in
          record {
            asked = record {
              bounds = s.asked.bounds;
              local = simp length-set s.asked.local;
              order = omega (arith, ap length order, length-take (n - 1) (os' ++ drop n os), one, long);
              ends = omega (arith, ap length held, ap length order, length-take (n - 1) (es' ++ drop n es), completions-length (at X.releases) (at X.executions) (take (n - 1) (os' ++ drop n os)), one, long);
              few = omega (arith, s.asked.few);
              each = rw w (in_every (Ranged X.releases X.executions) (without p xs) (λ i m. every_in (Ranged X.releases X.executions) xs s.asked.each (without_in p xs m).0));
              once = rw w (nodup_filter (λ i. not (eqb i p)) xs s.asked.once);
            };
            held = held;
            same = rw (w, take-set-lt (length X.releases) ls p (at es k) ranged.inside)
                (sym (step_more (raised X us) (n - 1) n xs (take (length X.releases) ls) p (at es k) (omega arith) is_job is_best h) ∙ s.same);
          }
