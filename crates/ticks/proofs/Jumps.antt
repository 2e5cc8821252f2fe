-- Many ticks at once, from any core on. While the pick stays and no release lies inside, all ticks are served to it; while
-- nobody can be served until the next release, all ticks are idle. So a program may jump between events.
--
--   Quiet L t k    == nobody is released after moment t and before moment t + k
--   jumped t p m c == the core c of moment t, after m ticks served to p
--   rested m c     == the core c after m idle ticks
use Prim.Native.Nat.{ℕ, zero, suc, ◌+◌, ◌≤◌, ◌<◌}
use mathlib.Core.Bool.{Bool, false, and-false}
use mathlib.Core.List.{List, [], ◌∷◌, Memᴰ}
use mathlib.Core.Option.{none, some}
use mathlib.Core.Path.{◌≡◌, refl, ap}
use mathlib.Core.Logic.{◌⊎◌, inl, inr}
use native.Mathlib.Nat.{add-suc, add-zero}
use native.Mathlib.Numerals.{add-one}
use native.Mathlib.Omega.{arith}
use borrow.Author.Tests.{lt-ltb, le-ltb, lt-leb}
use lib.Dec.{eqb, leb, ltb}
use lib.ListN.{length, get_or, set}
use lib.Seq.{get_or-set_same, get_or-set_other, set-set}
use Rattle.lists.specs.Places.{filter}
use Rattle.lists.specs.Order.{choose}
use Rattle.lists.proofs.Cases.{split, test, tests, eqb_no, same_leb}
use Rattle.ticks.specs.Core.{Load, Core, serve, active, pick, ticks}
use Rattle.ticks.proofs.Service.{On, pick-none}

abbrev pub Quiet : Load → ℕ → ℕ → Type 0
Quiet L t k = (i : ℕ) → On L i → (L.release i ≤ t) ⊎ (t + k ≤ L.release i)

abbrev pub jumped : ℕ → ℕ → ℕ → Core → Core
jumped t p m c =
    record {
      served = set c.served p (get_or c.served p 0 + m);
      finish = set c.finish p (t + m);
      busy = c.busy + m;
      idle = c.idle;
    }

abbrev pub rested : ℕ → Core → Core
rested m c = record { served = c.served; finish = c.finish; busy = c.busy; idle = c.idle + m }

serve-jumped : (t p m : ℕ) (c : Core) → p < length c.served → serve (t + m) p (jumped t p m c) ≡ jumped t p (suc m) c
serve-jumped t p m c h = simp (get_or-set_same c.served p (get_or c.served p 0 + m) 0 h, set-set, add-suc)

filter_same : (U W : ℕ → Bool) (xs : List ℕ) → ((i : ℕ) → Memᴰ i xs → U i ≡ W i) → filter U xs ≡ filter W xs
unfolding filter
filter_same U W [] h = refl
filter_same U W (x ∷ xs) h =
    rw (h x (Memᴰ.head refl), filter_same U W xs (λ i m. h i (Memᴰ.tail m)))

filter_none : (U : ℕ → Bool) (xs : List ℕ) → ((i : ℕ) → Memᴰ i xs → U i ≡ false) → filter U xs ≡ []
unfolding filter
filter_none U [] h = refl
filter_none U (x ∷ xs) h =
    rw (h x (Memᴰ.head refl), filter_none U xs (λ i m. h i (Memᴰ.tail m)))

-- A release that is not between two moments is before both or after both.
outside : (a t u : ℕ) → t ≤ u → (a ≤ t) ⊎ (u < a) → leb a u ≡ leb a t
outside a t u h w = split w (λ l. same_leb a u a t (omega arith) (omega arith)) (λ l. same_leb a u a t (omega arith) (omega arith))

module _ (L : Load) where
  -- Nobody is picked if all are released later or have all that they are owed.
  pub nobody_picked :
      (t : ℕ) (v : List ℕ) → ((i : ℕ) → On L i → (t < L.release i) ⊎ (L.owed i ≤ get_or v i 0)) → pick L t v ≡ none
  unfolding choose
  nobody_picked t v h =
      rw
      (filter_none (active L t v) L.on
      (λ i m.
      split (h i m) (λ l. rw (lt-leb (L.release i) t l))
      (λ l. rw (le-ltb (get_or v i 0) (L.owed i) l) (and-false (leb (L.release i) t)))))

  -- The pick stays while it is owed something and nobody is released.
  pick_stays :
      (t u p a : ℕ) (v : List ℕ)
      → p < length v
      → t ≤ u
      → ((i : ℕ) → On L i → (L.release i ≤ t) ⊎ (u < L.release i))
      → get_or v p 0 < L.owed p
      → a < L.owed p
      → pick L u (set v p a) ≡ pick L t v
  pick_stays t u p a v l h quiet owed more =
      ap (choose L.before)
      (filter_same (active L u (set v p a)) (active L t v) L.on
      (λ i m. rw (outside (L.release i) t u h (quiet i m), left i)))
    where
      left : (i : ℕ) → ltb (get_or (set v p a) i 0) (L.owed i) ≡ ltb (get_or v i 0) (L.owed i)
      left i =
          test (eqb i p)
          (λ e.
          let q : i ≡ p = omega tests in
          rw (q, get_or-set_same v p a 0 l, lt-ltb a (L.owed p) more, lt-ltb (get_or v p 0) (L.owed p) owed))
          (λ e. rw (get_or-set_other v p i a 0 (eqb_no i p e)))

  module _ (t : ℕ) (c : Core) (k : ℕ) where
    -- While nobody is picked, nothing but the idle ticks changes.
    pub idles : ((m : ℕ) → m < k → pick L (t + m) c.served ≡ none) → (m : ℕ) → m ≤ k → ticks L t c m ≡ rested m c
    unfolding ticks
    idles still zero h = simp add-zero
    idles still (suc m) h = rw (idles still m (omega arith), still m (omega arith)) (simp add-suc)

    -- The wait until somebody is released, and the service of p while nobody is.
    module _ (quiet : Quiet L t k) where
      pub wait : pick L t c.served ≡ none → (m : ℕ) → m ≤ k → ticks L t c m ≡ rested m c
      wait e =
          idles
          (λ m h.
          nobody_picked (t + m) c.served
          (λ i w. split (quiet i w) (λ a. inr (pick-none L t c.served e w a)) (λ a. inl (omega arith))))

      pub jump :
          (p : ℕ) → p < length c.served → pick L t c.served ≡ some p → get_or c.served p 0 + k ≤ L.owed p
          → (m : ℕ) → 0 < m → m ≤ k → ticks L t c m ≡ jumped t p m c
      unfolding ticks
      jump p l e room zero z h = absurd (omega arith)
      jump p l e room (suc zero) z h = rw (add-zero t, e) (simp add-one)
      jump p l e room (suc (suc m)) z h =
          let stays =
          pick_stays t (t + suc m) p (get_or c.served p 0 + suc m) c.served l (omega arith)
          (λ i w. split (quiet i w) (λ a. inl a) (λ a. inr (omega arith)))
          (omega arith) (omega arith)
          in
          rw (jump p l e room (suc m) (omega arith) (omega arith), stays, e) (serve-jumped t p (suc m) c l)
