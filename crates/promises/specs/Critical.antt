-- What `critical` answers and leaves, in the numbers of RULES, and what is promised of it.
--
--   CriticalSays g out v l == RULES has `critical` answer the values v and leave the list l in place of out
--   CriticalAnswers        == it does just that: no other number, no other values, no other list
--   Found g ws             == `critical` accepts the graph g and leaves the critical times ws
--   CriticalIsHeaviest     == each critical time is the weight of some path, and no path weighs more
--   NothingFollows         == it is 0 exactly where nothing follows
--   CycleIsRefused         == a graph that passes 1, 2, 3 and 20 is refused by 21 exactly if some path comes back to its start
--   CriticalIsSmall        == no critical time is above 139,700,000
--   HandedOn               == no set with these critical times is refused by 3 for one of them
--   Covers g g'            == for each arc of g there is one of g' between the same places, with the same hop delay or a greater
--   ArcsDoNoHarm           == graphs that cover each other have the same answer and the same critical times
use Rattle.std.specs.Prelude.{ℕ, ◌<◌, ◌≤◌, Bool, List, [], ◌∷◌, ◌≢◌, ◌↔◌, ◌≡◌, ℤ, pos, length}
use Rattle.subjobs.specs.declared.Field.TheVariants.{Execution, Hop}
use Rattle.subjobs.specs.declared.Reason.TheVariants as reasons
use Rattle.subjobs.specs.Judging.{values}
use Rattle.subjobs.specs.Sets.{Subjobs}
use Rattle.graph.specs.Graphs.{Graph, size, arcs, before, after, hop, Cycle, Heaviest}
use Rattle.graph.specs.Faults.{Sound, Fit, Faulty}
use Rattle.graph.specs.Answers.{answer, results}
use Rattle.promises.specs.Words.{Number, accepted, refusal, Faults, at}

-- What each number says of the graph stands at `Faulty`, place by place and with no search.
pub data CriticalSays (g : Graph) (out : List ℕ) : List ℤ → List ℕ → Type 0 where
  -- refused; the list holds what it held
  lengths : Faulty g (length out) reasons.Lengths → CriticalSays g out (refusal 1 0 0) out
  many : Faulty g (length out) reasons.TooMany → CriticalSays g out (refusal 2 0 0) out
  -- 3, with the field: 2 the execution of a place, 5 the hop delay of an arc
  range : {p : ℕ} → Faulty g (length out) (reasons.Range p Execution) → CriticalSays g out (refusal 3 p 2) out
  delay : {a : ℕ} → Faulty g (length out) (reasons.Range a Hop) → CriticalSays g out (refusal 3 a 5) out
  stray : {a : ℕ} → Faulty g (length out) (reasons.Stray a) → CriticalSays g out (refusal 20 a 0) out
  cycle : Faulty g (length out) reasons.Cycle → CriticalSays g out (refusal 21 0 0) out
  -- accepted: the whole result list is written, with the greatest weight of any path from each place
  found :
      {ws : List ℕ}
      → Fit g (length out)
      → length ws ≡ size g
      → ((i : ℕ) → i < size g → Heaviest g i (at ws i))
      → CriticalSays g out (pos 0 ∷ []) ws

abbrev pub CriticalAnswers : Type 0
CriticalAnswers =
    (g : Graph) (out : List ℕ)
    → CriticalSays g out (values (answer g (length out))) (results g out)
    × ((v : List ℤ) (l : List ℕ) → CriticalSays g out v l → (v ≡ values (answer g (length out))) × (l ≡ results g out))

-- After some call of `critical` on the graph, whatever the result list held, the number is 0 and the list holds ws.
abbrev pub Found : Graph → List ℕ → Type 0
Found g ws = (out : List ℕ) × accepted (values (answer g (length out))) × (results g out ≡ ws)

-- For each the greatest sum of executions along any path of its successors, itself not counted, with each arc's hop delay
-- counted, the first arc's too. A path is any list of arcs that chain.
abbrev pub CriticalIsHeaviest : Type 0
CriticalIsHeaviest =
    (g : Graph) (ws : List ℕ) → Found g ws → (length ws ≡ size g) × ((i : ℕ) → i < size g → Heaviest g i (at ws i))

abbrev pub NothingFollows : Type 0
NothingFollows =
    (g : Graph) (ws : List ℕ)
    → Found g ws
    → (i : ℕ)
    → i < size g
    → (at ws i ≡ 0) ↔ ((a : ℕ) → a < arcs g → before g a ≢ i)

abbrev pub CycleIsRefused : Type 0
CycleIsRefused = (g : Graph) (n : ℕ) → Number 21 (values (answer g n)) ↔ (Sound g n × Cycle g)

-- 127 arcs of 1,100,000
abbrev pub CriticalIsSmall : Type 0
CriticalIsSmall = (g : Graph) (ws : List ℕ) → Found g ws → (i : ℕ) → at ws i ≤ 139_700_000

-- What comes out can be handed to the assignment, the simulator and the checker as it is.
abbrev pub HandedOn : Type 0
HandedOn =
    (g : Graph) (s : Subjobs) (others : Bool) (p : ℕ) → Found g s.criticals → Faults s others (refusal 3 p 4) → ⊥

abbrev pub Covers : Graph → Graph → Type 0
Covers g g' =
    (a : ℕ)
    → a < arcs g
    → (b : ℕ) × (b < arcs g') × (before g' b ≡ before g a) × (after g' b ≡ after g a) × (hop g a ≤ hop g' b)

-- Repeated arcs do no harm, the order of the arcs does not matter, and of two arcs between the same places the one with the
-- greater hop delay counts: leave out the other, and the two graphs cover each other.
abbrev pub ArcsDoNoHarm : Type 0
ArcsDoNoHarm =
    (g g' : Graph) (out : List ℕ)
    → g.executions ≡ g'.executions
    → Sound g (length out)
    → Sound g' (length out)
    → Covers g g'
    → Covers g' g
    → (answer g (length out) ≡ answer g' (length out)) × (results g out ≡ results g' out)
