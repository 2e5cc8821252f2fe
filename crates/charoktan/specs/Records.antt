-- The engine's bytes: its own C struct array in, numbers out.
--
--   word bs at       == the 32-bit little-endian number at byte at
--   column bs w k n  == the numbers at byte k of each of n records of w bytes
--   records bs       == the set that the bytes hold
--   bytes v          == the four bytes of a number, little-endian
--   encoded vs       == the bytes of a list of numbers
--   words bs n       == the n numbers that these bytes hold
--   fitting bs m     == the lengths fit: whole records, and 4 bytes of results for each
--   Within bs ds n   == the lengths fit n records at most
--   graph_of es as    == the graph whose executions and arcs the bytes hold
--   fitting_graph es as m == their lengths fit: whole executions and arcs, and m bytes of results
--   GraphWithin es as out n m == the lengths fit n sub-jobs and m arcs at most
use Rattle.std.specs.Prelude.{ℕ, zero, suc, ◌+◌, ◌*◌, ◌/◌, ◌%◌, ◌≤◌, Bool, true, ◌&&◌, List, [], ◌∷◌, ◌++◌, ◌≡◌, eqb, length, get_or}
use Rattle.subjobs.specs.Sets.{Subjobs, subjobs}
use Rattle.graph.specs.Graphs.{Graph, graph}

abbrev pub word : List ℕ → ℕ → ℕ
word bs at =
    get_or bs at 0 + 256 * get_or bs (at + 1) 0 + 65_536 * get_or bs (at + 2) 0 + 16_777_216 * get_or bs (at + 3) 0

unfoldable pub column : List ℕ → (width at : ℕ) → ℕ → List ℕ
column bs w k zero = []
column bs w k (suc n) = column bs w k n ++ (word bs (w * n + k) ∷ [])

-- how many records the bytes hold
abbrev pub count : List ℕ → ℕ
count bs = length bs / 24

-- six 32-bit little-endian numbers per sub-job in the field order of the header, 24 bytes, no padding
unfoldable pub records : List ℕ → Subjobs
records bs =
    let field : ℕ → List ℕ = λ k. column bs 24 k (count bs) in
    subjobs (field 0) (field 4) (field 8) (field 12) (field 16) (field 20)

-- results are 4 bytes little-endian each
abbrev pub bytes : ℕ → List ℕ
bytes v = v % 256 ∷ v / 256 % 256 ∷ v / 65_536 % 256 ∷ v / 16_777_216 % 256 ∷ []

unfoldable pub encoded : List ℕ → List ℕ
encoded [] = []
encoded (v ∷ vs) = bytes v ++ encoded vs

abbrev pub words : List ℕ → ℕ → List ℕ
words bs n = column bs 4 0 n

-- A length that is not a multiple of 24, or a deadline slice that is not 4 bytes per sub-job, is refusal 1.
abbrev pub fitting : List ℕ → ℕ → Bool
fitting bs m = eqb (length bs % 24) 0 && eqb m (4 * count bs)

-- What the work on whole records is held to: there is room for n of them.
pub record Within (bs ds : List ℕ) (n : ℕ) : Type 0 where
  pub fits : fitting bs (length ds) ≡ true
  pub few : count bs ≤ n
  pub most : n ≤ 128

-- executions 4 bytes each, arcs 12 bytes each: before, after, hop delay
unfoldable pub graph_of : (es arcs : List ℕ) → Graph
graph_of es arcs =
    let field : ℕ → List ℕ = λ k. column arcs 12 k (length arcs / 12) in
    graph (words es (length es / 4)) (field 0) (field 4) (field 8)

-- A length that does not fit is refusal 1.
abbrev pub fitting_graph : (es arcs : List ℕ) → ℕ → Bool
fitting_graph es arcs m = eqb (length es % 4) 0 && eqb (length arcs % 12) 0 && eqb m (length es)

-- What the work on a whole graph is held to: there is room for n sub-jobs and m arcs.
pub record GraphWithin (es arcs out : List ℕ) (n m : ℕ) : Type 0 where
  pub fits : fitting_graph es arcs (length out) ≡ true
  pub few : length es / 4 ≤ n
  pub few_arcs : length arcs / 12 ≤ m
  pub most : n ≤ 128
  pub most_arcs : m ≤ 1_024
