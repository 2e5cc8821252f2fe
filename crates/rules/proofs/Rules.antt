-- The rules are the method, and settle their outcome. On a list in release order the base subset of the rules is the
-- tail that `base` finds, so a turn of the rules is a step of the method; the rules do not hang on the list's order;
-- completions fall from turn to turn; two outcomes of the rules are equal.
use Prim.Native.Nat.{ℕ, ◌+◌, ◌≤◌, ◌<◌}
use mathlib.Core.Bool.{Bool, not}
use mathlib.Core.List.{List, [], Memᴰ}
use mathlib.Core.Logic.{◌≢◌, ◌⊎◌, inl, inr}
use mathlib.Core.Path.{◌≡◌, refl, sym, ap, ◌∙◌}
use native.Mathlib.Omega.{arith}
use borrow.Author.Tests.{eqb-true, eqb-false}
use lib.Dec.{leb, eqb}
use Rattle.lists.specs.Places.{filter, without, least, InOrder}
use Rattle.lists.specs.Order.{Last}
use Rattle.lists.proofs.Cases.{split, test}
use Rattle.lists.proofs.Members.{in_nil, in_filled, filter-nil, without_in, in_without, inorder_filter}
use Rattle.lists.proofs.Choice.{Order, last_one}
use Rattle.lists.proofs.Rearranged.{Same, same_sym, same_filter, same_in}
use Rattle.subjobs.specs.Terms.{Terms}
use Rattle.rules.specs.Method.{in_order, best, base}
use Rattle.rules.specs.Rules.{completion_of, Base, Turn, Accepts, over, place, Refuses, here, later}
use Rattle.rules.proofs.Tails.{t1_le, base_filled, base_in, attained, latest, unique, base_threshold}
use Rattle.rules.proofs.Falls.{falls}
use Rattle.rules.proofs.ReleaseOrder.{inorder_arranged, same_arranged}
use Rattle.rules.proofs.Renaming.{Renamed, turn_in, renamed_base, renamed_turn, renamed_accepts, renamed_refuses}

-- All executions are at least 1.
abbrev pub Ones : (ℕ → ℕ) → List ℕ → Type 0
Ones c xs = (i : ℕ) → Memᴰ i xs → 1 ≤ c i

pub ones_without : (c : ℕ → ℕ) (b : ℕ) (xs : List ℕ) → Ones c xs → Ones c (without b xs)
ones_without c b xs ones i m = ones i (without_in b xs m).0

-- The base tail and its completion, of what the rules read.
abbrev pub best_of : Terms → List ℕ → ℕ
best_of T xs = best T.release T.execution xs

abbrev pub base_of : Terms → List ℕ → List ℕ
base_of T xs = base T.release T.execution xs

module _ (T : Terms) where
  -- In release order ..
  module _ (xs : List ℕ) (s : InOrder T.release xs) (ones : Ones T.execution xs) where
    -- .. the tail found is a base subset ..
    pub tail_base : (U : ℕ → Bool) → xs ≢ [] → filter U xs ≡ base_of T xs → Base T xs U
    tail_base U n e =
        let a = attained T.release T.execution xs s in
        let q = ap (completion_of T) e in
        record {
          filled = λ h. n (base_filled T.release T.execution xs ones (sym e ∙ h));
          most = λ X h. omega (arith, t1_le T.release T.execution X xs);
          latest = λ X h k. omega (arith, latest T.release T.execution X xs s (k ∙ q ∙ a), ap (least T.release) e);
        }

    -- .. and every base subset is this tail.
    pub base_tail : (U : ℕ → Bool) → Base T xs U → filter U xs ≡ base_of T xs
    base_tail U h =
        let X : ℕ → Bool = λ i. leb (least T.release (base_of T xs)) (T.release i) in
        let e : base_of T xs ≡ filter X xs = base_threshold T.release T.execution xs s ones in
        let n : filter X xs ≢ [] =
        λ q. h.filled (ap (filter U) (base_filled T.release T.execution xs ones (e ∙ q)) ∙ filter-nil U)
        in
        let a = attained T.release T.execution xs s in
        let m : completion_of T (filter U xs) ≡ best_of T xs =
        omega (arith, h.most X n, t1_le T.release T.execution U xs, ap (completion_of T) e)
        in
        unique T.release T.execution U xs s ones m
        (omega (
          arith,
          latest T.release T.execution U xs s m,
          h.latest X n (sym (ap (completion_of T) e) ∙ a ∙ sym m),
          ap (least T.release) e,
        ))

    -- A turn of the rules is a step of the method.
    pub turn_step : {b m : ℕ} → Turn T xs b m → Last T.lower (base_of T xs) b × (m ≡ best_of T xs)
    turn_step t =
        let e = base_tail t.subset t.is_base in
        (rw e at t.is_job, t.is_completion ∙ ap (completion_of T) e ∙ attained T.release T.execution xs s)

    -- A step of the method is a turn of the rules.
    pub step_turn : {b m : ℕ} → Last T.lower (base_of T xs) b → m ≡ best_of T xs → Turn T xs b m
    step_turn l k =
        let e = base_threshold T.release T.execution xs s ones in
        record {
          subset = λ i. leb (least T.release (base_of T xs)) (T.release i);
          is_base = tail_base _ (in_filled (base_in T.release T.execution xs l.0)) (sym e);
          is_job = rw (← e) l;
          is_completion = k ∙ sym (attained T.release T.execution xs s) ∙ ap (completion_of T) e;
        }

  -- The rules do not hang on the order of the list.
  module _ (xs ys : List ℕ) (e : Same xs ys) where
    same_renamed : Renamed (λ i. i) (λ i. i) T T xs ys
    same_renamed =
        record {
          moved = e;
          back = λ i m. refl;
          release = λ i m. refl;
          execution = λ i m. refl;
          deadline = λ i m. refl;
          withheld = λ i m. refl;
          lower = λ i j m k. refl;
        }

    pub same_turn : {b m : ℕ} → Turn T xs b m → Turn T ys b m
    same_turn t = renamed_turn same_renamed t

    pub same_accepts : {d : ℕ → ℕ} → Accepts T d xs → Accepts T d ys
    same_accepts {d} a = renamed_accepts same_renamed d d (λ i m. refl) a

    pub same_refuses : {p m : ℕ} → Refuses T p m xs → Refuses T p m ys
    same_refuses f = renamed_refuses same_renamed f

  -- Who is refused is one of the list.
  pub refused_in : {p m : ℕ} (xs : List ℕ) → Refuses T p m xs → Memᴰ p xs
  refused_in xs (here t h) = turn_in t
  refused_in xs (later b k t h f) = (without_in b xs (refused_in (without b xs) f)).0

  -- The base subset of any list is the base tail of that list in release order ..
  pub base_arranged :
      (xs ys : List ℕ)
      → Same xs ys
      → InOrder T.release ys
      → Ones T.execution xs
      → {U : ℕ → Bool}
      → Base T xs U
      → Same (filter U xs) (base_of T ys)
  base_arranged xs ys e s ones {U} h =
      rw (← base_tail ys s (λ i q. ones i (same_in ys xs (same_sym xs ys e) q)) U (renamed_base (same_renamed xs ys e) h))
      (same_filter U xs ys e)

  -- .. and a turn of any list is a step of the method on it in release order.
  pub turn_arranged :
      (xs ys : List ℕ)
      → Same xs ys
      → InOrder T.release ys
      → Ones T.execution xs
      → {b m : ℕ}
      → Turn T xs b m
      → Last T.lower (base_of T ys) b × (m ≡ best_of T ys)
  turn_arranged xs ys e s ones t =
      turn_step ys s (λ i q. ones i (same_in ys xs (same_sym xs ys e) q)) (same_turn xs ys e t)

  module _ (o : Order T.lower) where
    -- Two turns of a list are equal.
    pub turn_one :
        (xs : List ℕ) → Ones T.execution xs → {b b' m m' : ℕ} → Turn T xs b m → Turn T xs b' m' → (b ≡ b') × (m ≡ m')
    turn_one xs ones {b} {b'} t t' =
        let ys : List ℕ = in_order T.release xs in
        let e = same_sym ys xs (same_arranged T.release xs) in
        let u = turn_arranged xs ys e (inorder_arranged T.release xs) ones t in
        let u' = turn_arranged xs ys e (inorder_arranged T.release xs) ones t' in
        (last_one T.lower o (base_of T ys) b b' u.0 u'.0, u.1 ∙ sym u'.1)

    -- Completions fall from one turn to the next.
    pub turn_falls :
        (xs : List ℕ) → Ones T.execution xs → {b b' m m' : ℕ} → Turn T xs b m → Turn T (without b xs) b' m' → m' < m
    turn_falls xs ones {b} t t' =
        let ys : List ℕ = in_order T.release xs in
        let s = inorder_arranged T.release xs in
        let e = same_sym ys xs (same_arranged T.release xs) in
        let u = turn_arranged xs ys e s ones t in
        let u' =
        turn_arranged (without b xs) (without b ys) (same_filter (λ i. not (eqb i b)) xs ys e)
        (inorder_filter T.release (λ i. not (eqb i b)) ys s) (ones_without T.execution b xs ones) t'
        in
        omega (arith, falls T.release T.execution ys u.0.0 (ones b (turn_in t)))

    -- What the turn says of an accepted list ..
    pub accepts_turn :
        {d : ℕ → ℕ} (xs : List ℕ)
        → Ones T.execution xs
        → {b m : ℕ}
        → Turn T xs b m
        → Accepts T d xs
        → (d b ≡ m) × (d b + T.withheld b ≤ T.deadline b) × Accepts T d (without b xs)
    accepts_turn xs ones t over = in_nil (turn_in t)
    accepts_turn xs ones t (place b h k a) = let q = turn_one xs ones t h in rw q.0 (sym q.1, k, a)

    -- .. and of a refused one: p has the turn, or is refused later.
    pub refuses_turn :
        {p m : ℕ} (xs : List ℕ)
        → Ones T.execution xs
        → {b k : ℕ}
        → Turn T xs b k
        → Refuses T p m xs
        → ((b ≡ p) × (k ≡ m) × (T.deadline b < k + T.withheld b))
        ⊎ ((k + T.withheld b ≤ T.deadline b) × Refuses T p m (without b xs))
    refuses_turn xs ones t (here h k) = let q = turn_one xs ones t h in inl (q.0, q.1, rw (q.0, q.1) k)
    refuses_turn xs ones t (later b n h k f) = let q = turn_one xs ones t h in inr (rw (q.0, q.1) (k, f))

    -- Two lists of deadlines that the rules give are equal.
    pub one_deadline :
        {d d' : ℕ → ℕ} (xs : List ℕ)
        → Ones T.execution xs
        → Accepts T d xs
        → Accepts T d' xs
        → {i : ℕ}
        → Memᴰ i xs
        → d i ≡ d' i
    one_deadline xs ones over a' m = in_nil m
    one_deadline {d} {d'} xs ones (place b t h a) a' {i} m =
        let w = accepts_turn xs ones t a' in
        test (eqb i b)
        (λ y. let e = eqb-true i b y in rw e (sym w.0))
        (λ y. one_deadline (without b xs) (ones_without T.execution b xs ones) a w.2 (in_without b xs m (eqb-false i b y)))

    -- The rules do not both accept and refuse a list.
    pub not_both : {d : ℕ → ℕ} {p m : ℕ} (xs : List ℕ) → Ones T.execution xs → Accepts T d xs → Refuses T p m xs → ⊥
    not_both xs ones a (here t h) = let w = accepts_turn xs ones t a in omega (arith, w.0, w.1)
    not_both xs ones a (later b k t h f) =
        not_both (without b xs) (ones_without T.execution b xs ones) (accepts_turn xs ones t a).2 f

    -- Two refusals are equal.
    pub one_refusal :
        {p m p' m' : ℕ} (xs : List ℕ) → Ones T.execution xs → Refuses T p m xs → Refuses T p' m' xs → (p ≡ p') × (m ≡ m')
    one_refusal xs ones (here t h) f' =
        split (refuses_turn xs ones t f') (λ w. (w.0, w.1)) (λ w. absurd (omega (arith, w.0)))
    one_refusal xs ones (later b k t h f) f' =
        split (refuses_turn xs ones t f')
        (λ w. absurd (omega (arith, w.2)))
        (λ w. one_refusal (without b xs) (ones_without T.execution b xs ones) f w.1)
