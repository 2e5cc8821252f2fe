-- What the door returns and leaves: the assignment's, the checker's and the graph's own answers on the decoded lists.
--
--   code number place   == the number returned for a refusal
--   told o, Small o     == the number returned for what came of a call; its place fits that number
--   assigned bs m       == what charoktan_assign returns, for m bytes of results
--   assigned_bytes bs out == what the results hold afterwards, if they held out before
--   checked bs ds       == what charoktan_check returns
--   found es arcs m     == what charoktan_critical returns, for m bytes of results
--   found_bytes es arcs out == what the results hold afterwards, if they held out before
use Rattle.std.specs.Prelude.{Some, None, ℕ, ◌+◌, ◌*◌, ◌/◌, ◌<◌, cond, List, ◌≡◌, length, replicate, Result, Ok, Err}
use Rattle.subjobs.specs.Judging.{Judgement, if_passed}
use Rattle.subjobs.specs.declared.Reason.{Reason}
use Rattle.subjobs.specs.Sets.{Subjobs}
use Rattle.subjobs.specs.Reasons.{number_of, place_of}
use Rattle.olda.specs.Answers.{Answer, answer, results}
use Rattle.checker.specs.Answers as checkers
use Rattle.graph.specs.Answers as graphs
use Rattle.charoktan.specs.Records.{count, records, encoded, fitting, words, graph_of, fitting_graph}

-- The number returned is 0, or the refusal number plus 65,536 times the place.
abbrev pub code : Reason → ℕ
code r = number_of r + 65_536 * place_of r

abbrev pub told : {A : Type 0} → Result A Reason → ℕ
told (Ok a) = 0
told (Err r) = code r

-- The place of a refusal is small.
abbrev pub Small : Judgement → Type 0
Small (Ok u) = Unit {0}
Small (Err r) = place_of r < 1_024

unfoldable pub assigned : List ℕ → ℕ → ℕ
assigned bs m = cond (fitting bs m) (told (answer (records bs) (count bs))) 1

-- A refused call leaves every byte; an empty set has none.
abbrev pub if_placed : Answer → List ℕ → List ℕ → List ℕ
if_placed (Ok (Some r)) new old = new
if_placed (Ok None) new old = old
if_placed (Err r) new old = old

unfoldable pub assigned_bytes : List ℕ → List ℕ → List ℕ
assigned_bytes bs out =
    cond (fitting bs (length out))
    (if_placed (answer (records bs) (count bs)) (encoded (results (records bs) (replicate (count bs) 0))) out)
    out

unfoldable pub checked : List ℕ → List ℕ → ℕ
checked bs ds =
    cond (fitting bs (length ds)) (told (checkers.answer (records bs) (words ds (count bs)))) 1

-- What the assignment of a set comes to, if its results go from the list l into bytes.
abbrev pub AssignsSet : Subjobs → (l out : List ℕ) → Judgement → List ℕ → Type 0
AssignsSet s l out r out' =
    (told r ≡ told (answer s (length l))) × (out' ≡ if_placed (answer s (length l)) (encoded (results s l)) out)

-- What `charoktan_assign` is held to: the number returned, and what the results hold afterwards.
abbrev pub AssignsBytes : (bs out : List ℕ) → ℕ → List ℕ → Type 0
AssignsBytes bs out r out' = (r ≡ assigned bs (length out)) × (out' ≡ assigned_bytes bs out)

-- What `charoktan_check` is held to.
abbrev pub ChecksBytes : (bs ds : List ℕ) → ℕ → Type 0
ChecksBytes bs ds r = r ≡ checked bs ds

-- Critical times from a graph, by the same rules: one number returned, and a refused call leaves every byte.
unfoldable pub found : (es arcs : List ℕ) → ℕ → ℕ
found es arcs m =
    cond (fitting_graph es arcs m) (if_passed (graphs.answer (graph_of es arcs) (length es / 4)) 0 code) 1

unfoldable pub found_bytes : (es arcs out : List ℕ) → List ℕ
found_bytes es arcs out =
    cond (fitting_graph es arcs (length out))
    (if_passed (graphs.answer (graph_of es arcs) (length es / 4))
    (encoded (graphs.results (graph_of es arcs) (replicate (length es / 4) 0)))
    (λ r. out))
    out

-- What `charoktan_critical` is held to.
abbrev pub FindsBytes : (es arcs out : List ℕ) → ℕ → List ℕ → Type 0
FindsBytes es arcs out r out' = (r ≡ found es arcs (length out)) × (out' ≡ found_bytes es arcs out)
