-- Set after set: what the loop over the sets holds.
use Rattle.std.specs.Prelude.{Ok, Err}
use Prim.Native.Nat.{ℕ, ◌+◌, ◌≤◌, ◌<◌}
use mathlib.Core.List.{List}
use mathlib.Core.Path.{◌≡◌, refl, sym, ◌∙◌}
use native.Mathlib.Omega.{arith}
use lib.ListN.{length, get_or, set, drop, length-set, length-drop}
use lib.Seq.{take_all, length-take-le}
use Rattle.lists.proofs.Copied.{Copied, copied_none, copied_next, copied_whole}
use Rattle.subjobs.specs.Sets.{Subjobs}
use Rattle.olda.specs.Answers.{Answer}
use Rattle.olda.specs.Answers.{answer}
use Rattle.olda.proofs.Results.{refused_within, results-length}
use Rattle.stretches.specs.Stretches.{stretch, replaced, start, each}
use Rattle.stretches.specs.Answers.{set_at, answer_at, results_at, number, place}
use Rattle.room.specs.Parts.{Within, Sets, AllAssigned}
use Rattle.stretches.proofs.Stretched.{each-length, each_at, Written, written_none, written_start, written_stretch, written_inside, written_more, written_all}

-- A place that is told of a set is one of 128.
pub place_within : (s : Subjobs) (n : ℕ) → place (answer s n) < 128
place_within s n = by_answer (answer s n) refl
  where
    by_answer : (a : Answer) → answer s n ≡ a → place a < 128
    by_answer (Ok r) e = omega arith
    by_answer (Err r) e = refused_within s n r e

module _ (s : Subjobs) (ns : List ℕ) where
  abbrev numbers : List ℕ
  numbers = each (λ a n. number (answer_at s a n)) 0 ns

  abbrev places : List ℕ
  places = each (λ a n. place (answer_at s a n)) 0 ns

  -- The first k sets were asked for, and what was told of them stands in the three lists.
  pub record Turned (old out ks ps : List ℕ) (a k : ℕ) : Type 0 where
    pub sets : Sets s ns old ks ps
    pub written : Written 1 (results_at s old) ns old out a k
    pub numbered : Copied ks numbers (length ns) k
    pub placed : Copied ps places (length ns) k

  pub turned_none : (old ks ps : List ℕ) → Sets s ns old ks ps → Turned old old ks ps 0 0
  turned_none old ks ps S =
      record {
        sets = S;
        written = written_none 1 (results_at s old) ns old;
        numbered = copied_none ks numbers (length ns) (omega (arith, S.numbers)) (omega (arith, each-length (λ a n. number (answer_at s a n)) 0 ns));
        placed = copied_none ps places (length ns) (omega (arith, S.places)) (omega (arith, each-length (λ a n. place (answer_at s a n)) 0 ns));
      }

  module _ {old out ks ps : List ℕ} {a k : ℕ} (T : Turned old out ks ps a k) where
    module _ (h : k < length ns) (n : ℕ) (en : n ≡ get_or ns k 0) where
      pub turned_inside : Within s a n out
      turned_inside =
          let l = T.sets.lists in
          record {
            few = l.few;
            inside = omega (arith, written_inside 1 (results_at s old) ns old out a k T.written h n en, T.sets.sum);
            subtasks = l.subtasks;
            releases = l.releases;
            executions = l.executions;
            deadlines = l.deadlines;
            criticals = l.criticals;
            results = T.written.room ∙ l.results;
          }

      pub turned_next :
          {out' : List ℕ} {x y : ℕ}
          → out' ≡ replaced a n (results_at s out a n) out
          → x ≡ number (answer_at s a n)
          → y ≡ place (answer_at s a n)
          → Turned old out' (set ks k x) (set ps k y) (a + n) (k + 1)
      turned_next {out'} {x} {y} e ex ey =
          let i = turned_inside.inside in
          let W = T.written in
          let r = T.sets.lists.results in
          let long : length (stretch a n out) ≡ n = length-take-le n (drop a out) (omega (arith, W.room, length-drop a out)) in
          let at : a ≡ start ns k = written_start 1 (results_at s old) ns old out a k W in
          record {
            sets =
                record {
                  few = T.sets.few;
                  lists = T.sets.lists;
                  sum = T.sets.sum;
                  numbers = length-set ks k x ∙ T.sets.numbers;
                  places = length-set ps k y ∙ T.sets.places;
                };
            written =
                written_more 1 (results_at s old) ns old out a k W h n en a n (results_at s out a n) out' (omega arith) (omega arith) (omega (arith, W.room))
                (rw (written_stretch 1 (results_at s old) ns old out a k W a n (omega arith)))
                (results-length (set_at s a n) (stretch a n out) ∙ long)
                e;
            numbered = copied_next T.numbered h (ex ∙ rw (at, en) (sym (each_at (λ a n. number (answer_at s a n)) 0 ns k h)));
            placed = copied_next T.placed h (ey ∙ rw (at, en) (sym (each_at (λ a n. place (answer_at s a n)) 0 ns k h)));
          }

    pub turned_all : length ns ≤ k → AllAssigned s ns old out ks ps
    turned_all h =
        let S = T.sets in
        record {
          deadlines = written_all 1 (results_at s old) ns old out a k T.written h (omega (arith, S.sum, S.lists.results));
          numbers = copied_whole T.numbered h S.numbers ∙ take_all (length ns) numbers (omega (arith, each-length (λ a n. number (answer_at s a n)) 0 ns));
          places = copied_whole T.placed h S.places ∙ take_all (length ns) places (omega (arith, each-length (λ a n. place (answer_at s a n)) 0 ns));
        }
