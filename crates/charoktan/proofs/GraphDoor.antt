-- The door's ways out with a graph: lengths that do not fit, too many sub-jobs or arcs, and what the graph's own entry
-- answers.
use Rattle.std.specs.Prelude.{Err}
use Prim.Native.Nat.{ℕ, ◌/◌}
use mathlib.Core.Bool.{true, false}
use mathlib.Core.List.{List}
use mathlib.Core.Path.{◌≡◌, sym, ◌∙◌}
use lib.ListN.{length, take, replicate, length-replicate}
use Rattle.lists.proofs.Mapped.{take-replicate}
use Rattle.subjobs.specs.Judging.{Judgement}
use Rattle.subjobs.specs.declared.Reason.TheVariants.{TooMany}
use Rattle.subjobs.specs.Judging.{if_passed}
use Rattle.graph.specs.Graphs.{Graph, graph, size, arcs}
use Rattle.graph.specs.Answers.{answer, results, Finds}
use Rattle.graph.specs.Faults as faults
use Rattle.graph.specs.Faults.{Few}
use Rattle.graph.proofs.Judged.{refused_exactly}
use Rattle.charoktan.specs.Records.{column, words, encoded, graph_of, fitting_graph, GraphWithin}
use Rattle.charoktan.specs.Answers.{code, found, found_bytes, FindsBytes}
use Rattle.charoktan.proofs.Coding.{length-column}

module _ (es bs : List ℕ) where
  pub size_graph : size (graph_of es bs) ≡ length es / 4
  unfolding graph_of
  size_graph = length-column es 4 0 (length es / 4)

  pub arcs_graph : arcs (graph_of es bs) ≡ length bs / 12
  unfolding graph_of
  arcs_graph = length-column bs 12 0 (length bs / 12)

  -- The lists that executions and arcs are read into.
  pub read :
      (cs from to hs : List ℕ)
      → cs ≡ words es (length es / 4)
      → from ≡ column bs 12 0 (length bs / 12)
      → to ≡ column bs 12 4 (length bs / 12)
      → hs ≡ column bs 12 8 (length bs / 12)
      → graph cs from to hs ≡ graph_of es bs
  unfolding graph_of
  read cs from to hs a b c d = rw (a, b, c, d)

  module _ (out : List ℕ) where
    pub graph_unfit : fitting_graph es bs (length out) ≡ false → (found es bs (length out) ≡ 1) × (found_bytes es bs out ≡ out)
    unfolding found found_bytes
    graph_unfit e = (rw e, rw e)

    module _ (e : fitting_graph es bs (length out) ≡ true) where
      pub graph_answered :
          (a : Judgement)
          → answer (graph_of es bs) (length es / 4) ≡ a
          → (found es bs (length out) ≡ if_passed a 0 code)
          × (found_bytes es bs out ≡ if_passed a (encoded (results (graph_of es bs) (replicate (length es / 4) 0))) (λ r. out))
      unfolding found found_bytes
      graph_answered a q = (rw (e, q), rw (e, q))

      pub graph_many : (Few (graph_of es bs) → ⊥) → (found es bs (length out) ≡ 2) × (found_bytes es bs out ≡ out)
      unfolding graph_of
      graph_many n =
          let m = length bs / 12 in
          let l : (k : ℕ) → length (column bs 12 k m) ≡ length (column bs 12 0 m) = λ k. length-column bs 12 k m ∙ sym (length-column bs 12 0 m) in
          graph_answered (Err TooMany)
          ((refused_exactly (graph_of es bs) (length es / 4) TooMany).1
          (faults.many (record { results = sym (length-column es 4 0 (length es / 4)); afters = l 4; hops = l 8 }) n))

-- What the graph's entry answers and leaves in a room of zeros is what the door is held to.
pub found_within :
    (es bs out : List ℕ) (n m : ℕ) (g : Graph) (r : Judgement) (l : List ℕ)
    → GraphWithin es bs out n m
    → g ≡ graph_of es bs
    → Finds g (take (length es / 4) (replicate n 0)) r l
    → (a : Judgement)
    → r ≡ a
    → (answer (graph_of es bs) (length es / 4) ≡ a) × FindsBytes es bs out (if_passed a 0 code) (if_passed a (encoded l) (λ r. out))
found_within es bs out n m g r l W e h a q =
    let k = length es / 4 in
    let t : take k (replicate n 0) ≡ replicate k 0 = take-replicate k n 0 W.few in
    let w : answer (graph_of es bs) k ≡ a = sym (h.0 ∙ rw (e, t, length-replicate {A = ℕ} k 0)) ∙ q in
    let z : l ≡ results (graph_of es bs) (replicate k 0) = h.1 ∙ rw (e, t) in
    let d = graph_answered es bs out W.fits a w in (w, (sym d.0, rw z (sym d.1)))
