-- What the parts of the program hold of a graph, what they ask and what they tell. No public contract and no promise speaks
-- of these words. A list of values has one for each place, which grow from 0 to the critical times.
--
--   at ns i            == what stands at place i of a list
--   ask g d a          == what an arc asks of the value of its start: its cost and the value where it leads
--   Attained g d       == each value is the weight of some path from its place
--   Settled g d        == no arc asks for more than its start has
--   Rises g d          == some arc does
--   AtMost b d         == no value is above b
--   Values g k d       == each place has a value, which is attained and at most k times `most`
--   Grown g b d d'     == values d' are those that d became: attained if d were, none smaller, none greater by more than b
--   Raised g a d d' rose == they are d with the start of an arc raised to what the arc asks; whether it rose
--   arc_at t m k       == the k-th arc of m that round t looks at: even rounds go backwards
--   Rounded g d d' rose == what a round leaves, and whether any value rose
--   Settles g d r      == what all rounds together leave, and whether they show a cycle
--   Small d n          == the first n values fit 32 bits
use Rattle.std.specs.Prelude.{ℕ, ◌+◌, ◌-◌, ◌*◌, ◌%◌, ◌<◌, ◌≤◌, Bool, true, false, cond, List, ◌≡◌, eqb, length, get_or, slice_set, IfOk, IfErr}
use Rattle.lists.specs.Places.{weight}
use Rattle.subjobs.specs.Judging.{Judgement}
use Rattle.subjobs.specs.declared.Reason.TheVariants as reasons
use Rattle.graph.specs.Graphs.{Graph, size, arcs, before, after, cost, Path, Cycle}

abbrev pub at : List ℕ → ℕ → ℕ
at ns i = get_or ns i 0

abbrev pub ask : Graph → List ℕ → ℕ → ℕ
ask g d a = cost g a + at d (after g a)

abbrev pub Attained : Graph → List ℕ → Type 0
Attained g d = (i : ℕ) → i < size g → (p : List ℕ) × Path g i p × (weight (cost g) p ≡ at d i)

abbrev pub Settled : Graph → List ℕ → Type 0
Settled g d = (a : ℕ) → a < arcs g → ask g d a ≤ at d (before g a)

abbrev pub Rises : Graph → List ℕ → Type 0
Rises g d = (a : ℕ) × (a < arcs g) × (at d (before g a) < ask g d a)

abbrev pub AtMost : ℕ → List ℕ → Type 0
AtMost b d = (i : ℕ) → at d i ≤ b

-- A place's arcs add at most `turned` to a value, 1,024 times 1,100,000, and a round or the guess at most `most`, 128 times
-- that.
abbrev pub turned : ℕ
turned = 1_126_400_000

abbrev pub most : ℕ
most = 144_179_200_000

abbrev pub arc_at : (t m k : ℕ) → ℕ
arc_at t m k = cond (eqb (t % 2) 0) (m - 1 - k) k

-- a place's value for each place, none above k times `most`
pub record Values (g : Graph) (k : ℕ) (d : List ℕ) : Type 0 where
  pub room : size g ≤ length d
  pub attained : Attained g d
  pub bounded : AtMost (k * most) d

pub record Grown (g : Graph) (more : ℕ) (d d' : List ℕ) : Type 0 where
  pub room : length d' ≡ length d
  pub attained : Attained g d → Attained g d'
  pub grown : (i : ℕ) → at d i ≤ at d' i
  pub bounded : (b : ℕ) → AtMost b d → AtMost (b + more) d'

pub record Raised (g : Graph) (a : ℕ) (d d' : List ℕ) (rose : Bool) : Type 0 where
  pub rises : rose ≡ true → (at d (before g a) < ask g d a) × (d' ≡ slice_set d (before g a) (ask g d a))
  pub stays : rose ≡ false → (ask g d a ≤ at d (before g a)) × (d' ≡ d)

pub record Rounded (g : Graph) (d d' : List ℕ) (rose : Bool) : Type 0 where
  pub grown : Grown g most d d'
  pub raised : (a : ℕ) → a < arcs g → ask g d a ≤ at d' (before g a)
  pub rises : rose ≡ true → Rises g d
  pub settled : rose ≡ false → Settled g d'

pub record Settles (g : Graph) (d : List ℕ) (r : Judgement) : Type 0 where
  pub room : size g ≤ length d
  pub attained : Attained g d
  pub settled : IfOk r (λ _. Settled g d)
  pub cycle : IfErr r (λ e. (e ≡ reasons.Cycle) × Cycle g)

pub record Small (d : List ℕ) (n : ℕ) : Type 0 where
  pub room : n ≤ length d
  pub small : (i : ℕ) → i < n → at d i < 4_294_967_296
