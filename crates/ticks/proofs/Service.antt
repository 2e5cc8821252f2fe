-- The service of the core, tick by tick: who is served, what that changes, and what never happens. After these facts
-- `ticks`, `after` and `pick` stay shut.
--
--   On L i     == place i is on the core
--   Counters L == every place on it has a counter of its own: it is below 128, and stands there once
use Prim.Native.Nat.{ℕ, zero, suc, ◌+◌, ◌≤◌, ◌<◌}
use mathlib.Core.Bool.{false}
use mathlib.Core.List.{List, Memᴰ}
use mathlib.Core.Logic.{◌≢◌, ◌⊎◌, inl, inr}
use mathlib.Core.Option.{none, some}
use mathlib.Core.Path.{◌≡◌, refl, sym, ap, ◌∙◌}
use native.Mathlib.Nat.{add-zero, zero-add, add-suc}
use native.Mathlib.Omega.{arith}
use borrow.Author.Tests.{le-leb, lt-ltb}
use lib.Dec.{ltb, leb, eqb}
use lib.ListN.{length, get_or, length-set}
use lib.Seq.{get_or-set_same, get_or-set_other}
use Rattle.lists.specs.Places.{filter, weight, Nodup}
use Rattle.lists.proofs.Cases.{split, test, tests, both}
use Rattle.lists.proofs.Members.{in_filter, filter_in, in_nil, places_in, nodup_from}
use Rattle.lists.proofs.Mapped.{zeros_at}
use Rattle.lists.proofs.Sums.{weight_cong, weight_one_more}
use Rattle.lists.proofs.Choice.{Order, choose_cases, chosen_in, chosen_none, chosen_first}
use Rattle.subjobs.specs.Sets.{Subjobs, size}
use Rattle.ticks.specs.Core.{Load, Core, start, serve, rest, step, active, pick, tick, ticks, after, served, ended, turn}
use Rattle.ticks.specs.Runs.{load}

abbrev pub On : Load → ℕ → Type 0
On L i = Memᴰ i L.on

pub record Counters (L : Load) : Type 0 where
  pub small : (i : ℕ) → On L i → i < 128
  pub once : Nodup L.on

-- The places of a set of at most 128 have counters.
pub counters : (s : Subjobs) (ds asks : List ℕ) → size s ≤ 128 → Counters (load s ds asks)
counters s ds asks few = record { small = λ i m. omega (arith, places_in (size s) i m); once = nodup_from 0 (size s) }

module _ (L : Load) where
  -- Ticks add up, from any core on.
  pub ticks_add : (t : ℕ) (c : Core) (a b : ℕ) → ticks L t c (a + b) ≡ ticks L (t + a) (ticks L t c a) b
  unfolding ticks
  ticks_add t c a zero = rw add-zero
  ticks_add t c a (suc b) =
      let z : t + (a + b) ≡ t + a + b = omega arith in
      rw (add-suc a b, ticks_add t c a b, z)

  -- The core at a moment is one tick after the core at the moment before, and any ticks after an earlier one.
  pub after-suc : (t : ℕ) → after L (suc t) ≡ tick L t (after L t)
  unfolding after
  after-suc t = rw zero-add

  pub after_add : (t n : ℕ) → after L (t + n) ≡ ticks L t (after L t) n
  unfolding after
  after_add t n = ticks_add 0 start t n ∙ ap (λ (m : ℕ). ticks L m (ticks L 0 start t) n) (zero-add t)

  pub served-start : (i : ℕ) → served L 0 i ≡ 0
  unfolding after start
  served-start i = zeros_at 128 i

  pub ended-start : (i : ℕ) → ended L 0 i ≡ 0
  unfolding after start
  ended-start i = zeros_at 128 i

  pub pick_cases : (t : ℕ) (v : List ℕ) → (pick L t v ≡ none) ⊎ ((b : ℕ) × (pick L t v ≡ some b))
  pick_cases t v = split (choose_cases L.before (filter (active L t v) L.on)) (λ w. inl w.1) (λ w. inr (w.0, w.2))

  pub turn_cases : (t : ℕ) → (turn L t ≡ none) ⊎ ((b : ℕ) × (turn L t ≡ some b))
  turn_cases t = pick_cases t (after L t).served

  -- The core after a tick that serves b, and after one that serves nobody.
  pub after_served : (t b : ℕ) → turn L t ≡ some b → after L (suc t) ≡ serve t b (after L t)
  after_served t b e = after-suc t ∙ ap (step t (after L t)) e

  pub after_idle : (t : ℕ) → turn L t ≡ none → after L (suc t) ≡ rest (after L t)
  after_idle t e = after-suc t ∙ ap (step t (after L t)) e

  -- Whatever a tick served to somebody and an idle tick both keep holds at every moment.
  pub always :
      (P : ℕ → Core → Type 0)
      → P 0 start
      → ((t p : ℕ) → turn L t ≡ some p → P t (after L t) → P (suc t) (serve t p (after L t)))
      → ((t : ℕ) → turn L t ≡ none → P t (after L t) → P (suc t) (rest (after L t)))
      → (t : ℕ) → P t (after L t)
  always P s a b zero = unfold after in s
  always P s a b (suc t) =
      let ih = always P s a b t in
      split (turn_cases t) (λ e. rw (after_idle t e) (b t e ih)) (λ q. rw (after_served t q.0 q.1) (a t q.0 q.1 ih))

  -- There are always 128 counters.
  pub lengths : (t : ℕ) → (length (after L t).served ≡ 128) × (length (after L t).finish ≡ 128)
  unfolding start
  lengths =
      always (λ t c. (length c.served ≡ 128) × (length c.finish ≡ 128)) (refl, refl)
      (λ t p e h. (simp length-set h.0, simp length-set h.1)) (λ t e h. h)

  -- Who is picked is active, and comes first among the active; if nobody is picked, nobody is active.
  module _ (t : ℕ) (v : List ℕ) where
    pub pick_active : {b : ℕ} → pick L t v ≡ some b → On L b × (L.release b ≤ t) × (get_or v b 0 < L.owed b)
    pick_active {b} e =
        let f = filter_in (active L t v) L.on (chosen_in L.before _ e) in
        let g = both {a = leb (L.release b) t} {b = ltb (get_or v b 0) (L.owed b)} f.1 in
        let h = g.0 in
        let k = g.1 in
        (f.0, omega tests, omega tests)

    is_active : {i : ℕ} → On L i → L.release i ≤ t → get_or v i 0 < L.owed i → Memᴰ i (filter (active L t v) L.on)
    is_active m h k = in_filter (active L t v) L.on m (rw (le-leb _ _ h, lt-ltb _ _ k))

    pub pick_first :
        Order L.before → {b i : ℕ} → pick L t v ≡ some b → On L i → L.release i ≤ t → get_or v i 0 < L.owed i
        → L.before i b ≡ false
    pick_first ord e m h k = chosen_first L.before ord _ e (is_active m h k)

    pub pick-none : {i : ℕ} → pick L t v ≡ none → On L i → L.release i ≤ t → L.owed i ≤ get_or v i 0
    pick-none {i} e m h =
        test (ltb (get_or v i 0) (L.owed i))
        (λ k. in_nil (rw (chosen_none L.before _ e) at (is_active m h (omega tests))))
        (λ k. omega tests)

  -- The same of the one who is served in tick t.
  pub served_is_active : (t : ℕ) {b : ℕ} → turn L t ≡ some b → On L b × (L.release b ≤ t) × (served L t b < L.owed b)
  served_is_active t e = pick_active t (after L t).served e

  pub served_first :
      Order L.before → (t : ℕ) {b i : ℕ} → turn L t ≡ some b → On L i → L.release i ≤ t → served L t i < L.owed i
      → L.before i b ≡ false
  served_first ord t e m h k = pick_first t (after L t).served ord e m h k

  pub idle_none : (t : ℕ) {i : ℕ} → turn L t ≡ none → On L i → L.release i ≤ t → L.owed i ≤ served L t i
  idle_none t e m h = pick-none t (after L t).served e m h

  module _ (K : Counters L) where
    -- A tick adds one to what it serves and ends there; of the others it changes nothing.
    pub tick_cases :
        (t i : ℕ)
        → ((turn L t ≡ some i) × (served L (suc t) i ≡ suc (served L t i)) × (ended L (suc t) i ≡ suc t))
        ⊎ ((turn L t ≢ some i) × (served L (suc t) i ≡ served L t i) × (ended L (suc t) i ≡ ended L t i))
    tick_cases t i =
        let c = after L t in
        split (turn_cases t)
        (λ e. rw (after_idle t e) (inr (λ q. let z : ◌≡◌ {A = ℕ} 0 1 = cc in omega arith, refl, refl)))
        (λ w.
        let e = w.1 in
        rw (after_served t w.0 e)
        (test (eqb i w.0)
        (λ y.
        let q : i ≡ w.0 = omega tests in
        let l = K.small w.0 (served_is_active t e).0 in
        rw q
        (inl (
          e,
          get_or-set_same c.served w.0 _ 0 (omega (arith, lengths t)),
          get_or-set_same c.finish w.0 _ 0 (omega (arith, lengths t)),
        )))
        (λ y.
        let n : i ≢ w.0 = λ q. omega tests in
        inr (
          λ q. let z : w.0 ≡ i = cc in n (sym z),
          get_or-set_other c.served w.0 i _ 0 n,
          get_or-set_other c.finish w.0 i _ 0 n,
        ))))

    -- Service never falls and never passes what is owed.
    pub served_grows : (t i : ℕ) → served L t i ≤ served L (suc t) i
    served_grows t i = split (tick_cases t i) (λ q. omega arith) (λ q. omega arith)

    pub served_later : (t k i : ℕ) → served L t i ≤ served L (t + k) i
    served_later t zero i = omega (arith, ap (λ (m : ℕ). served L m i) (add-zero t))
    served_later t (suc k) i =
        omega (arith, served_later t k i, served_grows (t + k) i, ap (λ (m : ℕ). served L m i) (add-suc t k))

    pub served_most : (t i : ℕ) → served L t i ≤ L.owed i
    served_most zero i = omega (arith, served-start i)
    served_most (suc t) i =
        let ih = served_most t i in
        split (tick_cases t i) (λ q. omega (arith, (served_is_active t q.0).2)) (λ q. omega arith)

    -- A group gets one tick more if one of it is served, and otherwise none.
    pub group_tick :
        (ys : List ℕ) → Nodup ys → (t b : ℕ) → turn L t ≡ some b → Memᴰ b ys
        → weight (served L (suc t)) ys ≡ suc (weight (served L t) ys)
    group_tick ys d t b e m =
        weight_one_more (served L t) (served L (suc t)) b ys d m
        (split (tick_cases t b) (λ q. q.1) (λ q. absurd (q.0 e)))
        (λ i n ne. split (tick_cases t i) (λ q. let z : i ≡ b = cc q.0 in absurd (ne z)) (λ q. q.1))

    pub group_other :
        (ys : List ℕ) (t : ℕ) → ((b : ℕ) → turn L t ≡ some b → Memᴰ b ys → ⊥)
        → weight (served L (suc t)) ys ≡ weight (served L t) ys
    group_other ys t h =
        weight_cong (served L (suc t)) (served L t) ys (λ i m. split (tick_cases t i) (λ q. absurd (h i q.0 m)) (λ q. q.1))
