-- What the parts of the program hold of a set, what they ask and what they tell. No public contract and no promise speaks
-- of these words.
--
--   at xs i             == what stands at place i of a list
--   rest k xs           == xs without what stands at k
--   lessened k v ns     == ns with v taken off each of the first k
--   completes r c xs    == the completion of places in release order: the release of the first plus all executions
--   completions r c xs  == the completion of each tail of xs, that of all of xs first
--   raise               == what upper bounds are raised by, so that none is negative
--   limits ds zs        == what the rules read of deadlines and critical times alone
--   lower_by us js ks    == the order of the base sub-job, of raised bounds and pairs
--   raised s us          == what they read of a set with raised bounds: nothing but the raise is withheld
--   Raised T n us       == us are the upper bounds of the first n places, raised
--   ruling T w          == what an outcome says of a set: it passes, or the reason why not
--   reported T n d      == the report of n sub-jobs with the local deadlines d
--
-- The records are named by what is done with the lists: what is asked before it, and what is told after it.
use Rattle.std.specs.Prelude.{Option, Err, Some, None, ℕ, ◌+◌, ◌-◌, ◌<◌, ◌≤◌, Bool, List, [], ◌∷◌, ◌++◌, ◌≡◌, length, get_or, map, take, drop}
use Rattle.std.specs.List.{remove}
use Rattle.std.specs.Option.{MatchOption}
use Rattle.std.proofs.Math.Option.{none, some}
use Rattle.lists.specs.Places.{places, weight, Every, Nodup}
use Rattle.lists.specs.Order.{by, lex, reversed, choose, given}
use Rattle.subjobs.specs.Judging.{Judgement, passed}
use Rattle.subjobs.specs.declared.Reason.TheVariants.{Late}
use Rattle.subjobs.specs.Sets.{Subjobs, subjobs, release, execution, by_pair}
use Rattle.subjobs.specs.Terms.{Terms, terms, bound, slack, by_slack}
use Rattle.rules.specs.Method.{Outcome, placed, stuck, in_order, steps, method}
use Rattle.olda.specs.declared.Report.{Report}
use Rattle.olda.specs.Answers.{written}

abbrev pub at : List ℕ → ℕ → ℕ
at xs i = get_or xs i 0

abbrev pub rest : ℕ → List ℕ → List ℕ
rest k xs = remove xs k

abbrev pub lessened : ℕ → ℕ → List ℕ → List ℕ
lessened k v ns = map (λ n. n - v) (take k ns) ++ drop k ns

abbrev pub completes : (r c : ℕ → ℕ) → List ℕ → ℕ
completes r c xs = r (at xs 0) + weight c xs

unfoldable pub completions : (r c : ℕ → ℕ) → List ℕ → List ℕ
completions r c [] = []
completions r c (x ∷ xs) = completes r c (x ∷ xs) ∷ completions r c xs

-- The greatest critical time: whatever is withheld, a deadline raised by it is not less.
abbrev pub raise : ℕ
raise = 1_000_000_000

abbrev pub limits : (ds zs : List ℕ) → Terms
limits ds zs = terms (subjobs [] [] [] [] ds zs)

-- The order of the base sub-job by raised bounds.
abbrev pub lower_by : (us js ks : List ℕ) → ℕ → ℕ → Bool
lower_by us js ks = lex (by (at us)) (by_pair (at js) (at ks))

abbrev pub raised : Subjobs → (us : List ℕ) → Terms
raised s us =
    record {
      release = release s;
      execution = execution s;
      deadline = at us;
      withheld = λ i. raise;
      lower = lower_by us s.jobs s.subtasks;
    }

abbrev pub Raised : Terms → ℕ → List ℕ → Type 0
Raised T n us = (i : ℕ) → i < n → at us i + T.withheld i ≡ T.deadline i + raise

abbrev pub ruling : Terms → Outcome → Judgement
ruling T (placed ds) = passed
ruling T (stuck p m) = Err (Late p m (bound T p))

abbrev pub reported : Terms → ℕ → (ℕ → ℕ) → Option Report
reported T n d = given (choose (by_slack T d) (places n)) None (λ p. Some (record { slack = slack T d p; place = p }))

-- Bounds are raised.
pub record Raising (ds zs us : List ℕ) : Type 0 where
  pub criticals : length zs ≡ length ds
  pub room : length ds ≤ length us
  pub least : (i : ℕ) → i < length ds → (limits ds zs).withheld i ≤ raise
  pub most : (i : ℕ) → i < length ds → at ds i ≤ 2_000_000_000

-- The place n goes into release order; those before it stand in it.
pub record Inserting (rs os : List ℕ) (n : ℕ) : Type 0 where
  pub few : length rs ≤ 128
  pub inside : n < length rs
  pub room : n < length os
  pub sorted : take n os ≡ in_order (at rs) (places n)

-- A place of the set, with its release and its execution in their ranges.
pub record Ranged (rs cs : List ℕ) (p : ℕ) : Type 0 where
  pub inside : p < length rs
  pub known : p < length cs
  pub release : at rs p ≤ 1_000_000_000
  pub some : 1 ≤ at cs p
  pub execution : at cs p ≤ 1_000_000

-- Executions are written in release order.
pub record Ordering (cs xs es : List ℕ) : Type 0 where
  pub room : length xs ≤ length es
  pub known : Every (λ p. p < length cs) xs

-- A tail of places in release order.
pub record Tail (rs cs xs : List ℕ) : Type 0 where
  pub some : 0 < length xs
  pub few : length xs ≤ 128
  pub each : Every (Ranged rs cs) xs

-- All tails are added up.
pub record Tails (rs cs xs es : List ℕ) : Type 0 where
  pub room : length xs ≤ length es
  pub few : length xs ≤ 128
  pub each : Every (Ranged rs cs) xs

-- The latest of the greatest numbers stands at k.
pub record Greatest (ns : List ℕ) (k : ℕ) : Type 0 where
  pub inside : k < length ns
  pub most : (j : ℕ) → j < length ns → at ns j ≤ at ns k
  pub latest : (j : ℕ) → k < j → j < length ns → at ns j < at ns k

-- The base sub-job is looked for among the places xs of the base subset, of a set of n, and stands at k of them.
pub record Choosing (xs us : List ℕ) (n : ℕ) : Type 0 where
  pub some : 0 < length xs
  pub bounds : n ≤ length us
  pub each : Every (λ p. p < n) xs

pub record Chosen (xs us js ks : List ℕ) (k : ℕ) : Type 0 where
  pub inside : k < length xs
  pub last : choose (reversed (lower_by us js ks)) xs ≡ some (at xs k)

-- The sub-job at k of those that are left leaves, and takes its execution x off the tails that it was in.
pub record Leaving (os es : List ℕ) (k x : ℕ) : Type 0 where
  pub order : k < length os
  pub ends : k < length es
  pub enough : (i : ℕ) → i < k → x ≤ at es i

pub record Left (os es : List ℕ) (k x : ℕ) (os' es' : List ℕ) : Type 0 where
  pub order : take (length os - 1) os' ≡ rest k os
  pub ends : take (length es - 1) es' ≡ rest k (lessened k x es)

-- The steps are taken on the first n places of os, with room for the completions and for the local deadlines.
pub record Placing (s : Subjobs) (us os es ls : List ℕ) (n : ℕ) : Type 0 where
  pub bounds : length s.releases ≤ length us
  pub local : length s.releases ≤ length ls
  pub order : n ≤ length os
  pub ends : n ≤ length es
  pub few : n ≤ 128
  pub each : Every (Ranged s.releases s.executions) (take n os)
  pub once : Nodup (take n os)

-- They are told as r, and if all are placed the list holds their deadlines.
abbrev pub stepped : Subjobs → (us os ls : List ℕ) → ℕ → Outcome
stepped s us os ls n = steps (raised s us) n (take n os) (take (length s.releases) ls)

pub record Placed (s : Subjobs) (us os ls : List ℕ) (n : ℕ) (r : Judgement) (ls' : List ℕ) : Type 0 where
  pub ruled : r ≡ ruling (raised s us) (stepped s us os ls n)
  pub list : take (length s.releases) ls' ≡ written (stepped s us os ls n) (take (length s.releases) ls')

-- The outcome of the method is told as r, and the result list is written if all are placed.
pub record Places (s : Subjobs) (out : List ℕ) (r : Judgement) (out' : List ℕ) : Type 0 where
  pub ruled : r ≡ ruling (terms s) (method s)
  pub list : out' ≡ written (method s) out

-- The place of the least slack is found, of several the smallest, and none of no places.
abbrev pub Tightest : (ds zs ls : List ℕ) → Option ℕ → Type 0
Tightest ds zs ls r =
    let q = choose (by_slack (limits ds zs) (at ls)) (places (length ls)) in MatchOption r (q ≡ none) (λ p. q ≡ some p)
