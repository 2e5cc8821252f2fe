-- `judging::seen_earlier` meets its contract: at each turn what is left to look at decides the whole search.
use borrow.Author.Tests.{eq-eqb, ne_eqb}
use Rattle.std.proofs.Common.{◌≡◌, ◌-◌, ℕ, Bool, false, sym, ◌∙◌}
use Rattle.std.specs.Prelude.{◌&&◌, eqb}
use mathlib.Core.Bool.{and-false}
use Rattle.subjobs.specs.Sets.{Subjobs, subjobs_of, job, subtask}
use Rattle.lists.proofs.Count.{some_last, some_but_last, some_none}
use Rattle.subjobs.proofs.judging.OneLengthSet.seen_earlier.Goals as goal
use Rattle.subjobs.proofs.judging.OneLengthSet.seen_earlier.Goals.{else-self-j-via-then-self-j+else-self-j-2, else-self-j-via-else-self-j}

-- The pair at a place is the one looked for.
abbrev Same : Subjobs → ℕ → ℕ → Bool
Same s place i = eqb (job s i) (job s place) && eqb (subtask s i) (subtask s place)

pub returns-then-self-j-2 : goal.returns-then-self-j-2
returns-then-self-j-2 c =
    let L = c.loop-j in
    let a = c.args in
    sym
    (sym L.invariant
    ∙ some_last (Same (subjobs_of a.self.now.set) a.place) L.j c.loop-j-test.true (rw (eq-eqb _ _ c.if-self-j-2.true, eq-eqb _ _ c.if-self-j.true)))

pub loop-j-preserved : goal.loop-j-preserved
loop-j-preserved c =
    let L = c.loop-j in
    let a = c.args in
    let P = Same (subjobs_of a.self.now.set) a.place in
    let no : P (L.j - 1) ≡ false =
    elim c.else-self-j.branch [
      | else-self-j-via-then-self-j+else-self-j-2 w ↦ rw (ne_eqb _ _ w.if-self-j-2.false)
      | else-self-j-via-else-self-j w ↦
          rw (ne_eqb _ _ w.if-self-j.false) (and-false (eqb (job (subjobs_of a.self.now.set) (L.j - 1)) (job (subjobs_of a.self.now.set) a.place)))
    ]
    in
    sym (some_but_last P L.j c.loop-j-test.true no) ∙ L.invariant

pub returns : goal.returns
returns c =
    let L = c.loop-j in
    let a = c.args in
    sym (sym L.invariant ∙ some_none (Same (subjobs_of a.self.now.set) a.place) L.j c.loop-j-test.false)
