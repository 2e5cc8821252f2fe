-- The rules under other places. A renaming π of the places xs, which ρ undoes, carries every rule over: what the rules
-- give for xs, they give for the new places. The records must agree along π, and so must the orders of the base sub-job.
-- "Latest in the list" agrees with no rearrangement of a set that turns two equal bounds round; a tie rule by what a
-- sub-job is, and not by where it stands, agrees with all. With π the identity the list alone stands in another order.
use Prim.Native.Nat.{ℕ}
use mathlib.Core.Bool.{Bool, not}
use mathlib.Core.List.{List, [], Memᴰ}
use mathlib.Core.Logic.{◌↔◌, inl, inr}
use mathlib.Core.Path.{◌≡◌, refl, sym, ap, ◌∙◌}
use native.Mathlib.Omega.{arith}
use borrow.Author.Tests.{eqb-true, eqb-false, eq-eqb, ne_eqb}
use lib.Dec.{eqb}
use Rattle.lists.specs.Places.{filter, without, least}
use Rattle.lists.specs.Order.{Last}
use Rattle.lists.proofs.Cases.{split, test}
use Rattle.lists.proofs.Members.{filter_in, filter_cong}
use Rattle.lists.proofs.Renamed.{Moved, moved_filter, moved_in, moved_from, moved_filled, filled_moved, moved_nil, moved_weight, moved_least, moved_greatest, moved_back, moved_home, moved_agree}
use lib.IntN.{ℤ}
use Rattle.subjobs.specs.Terms.{Terms, slack}
use Rattle.subjobs.specs.Conditions.{Six, Seven}
use Rattle.rules.specs.Rules.{completion_of, Base, Turn, Accepts, over, place, Refuses, here, later, LeastSlack}

-- ys are the new places of xs, and T reads of xs what T' reads of ys.
pub record Renamed (π ρ : ℕ → ℕ) (T T' : Terms) (xs ys : List ℕ) : Type 0 where
  pub moved : Moved π xs ys
  pub back : (i : ℕ) → Memᴰ i xs → ρ (π i) ≡ i
  pub release : (i : ℕ) → Memᴰ i xs → T.release i ≡ T'.release (π i)
  pub execution : (i : ℕ) → Memᴰ i xs → T.execution i ≡ T'.execution (π i)
  pub deadline : (i : ℕ) → Memᴰ i xs → T.deadline i ≡ T'.deadline (π i)
  pub withheld : (i : ℕ) → Memᴰ i xs → T.withheld i ≡ T'.withheld (π i)
  pub lower : (i j : ℕ) → Memᴰ i xs → Memᴰ j xs → T.lower i j ≡ T'.lower (π i) (π j)

-- Who has the turn is one of the list.
pub turn_in : {T : Terms} {xs : List ℕ} {b m : ℕ} → Turn T xs b m → Memᴰ b xs
turn_in {xs = xs} t = (filter_in t.subset xs t.is_job.0).0

module _ {π ρ : ℕ → ℕ} {T T' : Terms} where
  -- With a group its subsets are renamed: a subset of the new places ..
  pub renamed_filter :
      {xs ys : List ℕ} → Renamed π ρ T T' xs ys → (U : ℕ → Bool) → Renamed π ρ T T' (filter (λ i. U (π i)) xs) (filter U ys)
  renamed_filter {xs} {ys} e U =
      let of : (i : ℕ) → Memᴰ i (filter (λ j. U (π j)) xs) → Memᴰ i xs = λ i m. (filter_in (λ j. U (π j)) xs m).0 in
      record {
        moved = moved_filter π xs ys e.moved U;
        back = λ i m. e.back i (of i m);
        release = λ i m. e.release i (of i m);
        execution = λ i m. e.execution i (of i m);
        deadline = λ i m. e.deadline i (of i m);
        withheld = λ i m. e.withheld i (of i m);
        lower = λ i j m k. e.lower i j (of i m) (of j k);
      }

  -- .. a subset of the old places ..
  pub renamed_picked :
      {xs ys : List ℕ} → Renamed π ρ T T' xs ys → (U : ℕ → Bool) → Renamed π ρ T T' (filter U xs) (filter (λ j. U (ρ j)) ys)
  renamed_picked {xs} e U =
      rw (filter_cong U (λ i. U (ρ (π i))) xs (λ i m. ap U (sym (e.back i m)))) (renamed_filter e (λ j. U (ρ j)))

  -- .. and the rest without one sub-job.
  pub renamed_without :
      {xs ys : List ℕ} → Renamed π ρ T T' xs ys → {b : ℕ} → Memᴰ b xs → Renamed π ρ T T' (without b xs) (without (π b) ys)
  renamed_without {xs} e {b} k =
      rw (filter_cong (λ i. not (eqb i b)) (λ i. not (eqb (π i) (π b))) xs (λ i m. ap not (alike i m)))
      (renamed_filter e (λ j. not (eqb j (π b))))
    where
      alike : (i : ℕ) → Memᴰ i xs → eqb i b ≡ eqb (π i) (π b)
      alike i m =
          test (eqb i b)
          (λ y. y ∙ sym (eq-eqb (π i) (π b) (ap π (eqb-true i b y))))
          (λ n. n ∙ sym (ne_eqb (π i) (π b) (λ q. eqb-false i b n (sym (e.back i m) ∙ ap ρ q ∙ e.back b k))))

  -- ρ renames the new places back, so each law below holds both ways.
  pub renamed_back : {xs ys : List ℕ} → Renamed π ρ T T' xs ys → Renamed ρ π T' T ys xs
  renamed_back {xs} {ys} e =
      record {
        moved = moved_back π xs ys e.moved ρ e.back;
        back = λ j m. (home m).1;
        release = agree T.release T'.release e.release;
        execution = agree T.execution T'.execution e.execution;
        deadline = agree T.deadline T'.deadline e.deadline;
        withheld = agree T.withheld T'.withheld e.withheld;
        lower = λ i j m k.
            let p = home m in
            let q = home k in
            rw (p.1, q.1) at (sym (e.lower (ρ i) (ρ j) p.0 q.0));
      }
    where
      home : {j : ℕ} → Memᴰ j ys → Memᴰ (ρ j) xs × (π (ρ j) ≡ j)
      home m = moved_home π xs ys e.moved ρ e.back m

      agree : (f g : ℕ → ℕ) → ((i : ℕ) → Memᴰ i xs → f i ≡ g (π i)) → (j : ℕ) → Memᴰ j ys → g j ≡ f (ρ j)
      agree = moved_agree π xs ys e.moved ρ e.back

  renamed_least : {xs ys : List ℕ} → Renamed π ρ T T' xs ys → least T.release xs ≡ least T'.release ys
  renamed_least {xs} {ys} e = moved_least π xs ys e.moved T.release T'.release e.release

  -- A group and its new places complete at the same moment.
  pub renamed_completion : {xs ys : List ℕ} → Renamed π ρ T T' xs ys → completion_of T xs ≡ completion_of T' ys
  renamed_completion {xs} {ys} e =
      omega (arith, renamed_least e, moved_weight π xs ys e.moved T.execution T'.execution e.execution)

  -- The base subset of the new places is the base subset, renamed.
  pub renamed_base : {xs ys : List ℕ} → Renamed π ρ T T' xs ys → {U : ℕ → Bool} → Base T xs U → Base T' ys (λ j. U (ρ j))
  renamed_base {xs} {ys} e {U} h =
      let u : Renamed π ρ T T' (filter U xs) (filter (λ j. U (ρ j)) ys) = renamed_picked e U in
      let k = renamed_completion u in
      record {
        filled = moved_filled π (filter U xs) (filter (λ j. U (ρ j)) ys) u.moved h.filled;
        most = λ X q.
            let x = renamed_filter e X in
            omega (
              arith,
              k,
              renamed_completion x,
              h.most (λ i. X (π i)) (filled_moved π (filter (λ i. X (π i)) xs) (filter X ys) x.moved q),
            );
        latest = λ X q w.
            let x = renamed_filter e X in
            omega (
              arith,
              renamed_least x,
              renamed_least u,
              h.latest (λ i. X (π i)) (filled_moved π (filter (λ i. X (π i)) xs) (filter X ys) x.moved q)
                  (renamed_completion x ∙ w ∙ sym k),
            );
      }

  renamed_last :
      {xs ys : List ℕ} → Renamed π ρ T T' xs ys → {b : ℕ} → Last T.lower xs b → Last T'.lower ys (π b)
  renamed_last {xs} {ys} e {b} l = (
    moved_in π xs ys e.moved l.0,
    λ j m.
        let w = moved_from π xs ys e.moved m in
        split (l.1 w.0 w.1)
        (λ q. inl (sym w.2 ∙ ap π q))
        (λ q. inr (rw w.2 at (sym (e.lower w.0 b w.1 l.0) ∙ q))),
  )

  -- A turn, renamed, is a turn.
  pub renamed_turn : {xs ys : List ℕ} → Renamed π ρ T T' xs ys → {b m : ℕ} → Turn T xs b m → Turn T' ys (π b) m
  renamed_turn e t =
      let u = renamed_picked e t.subset in
      record {
        subset = λ j. t.subset (ρ j);
        is_base = renamed_base e t.is_base;
        is_job = renamed_last u t.is_job;
        is_completion = t.is_completion ∙ renamed_completion u;
      }

  -- The same with what the recursion keeps in front.
  accepts_on :
      (d d' : ℕ → ℕ) {xs ys : List ℕ}
      → Renamed π ρ T T' xs ys
      → ((i : ℕ) → Memᴰ i xs → d i ≡ d' (π i))
      → Accepts T d xs
      → Accepts T' d' ys
  accepts_on d d' {xs} {ys} e same over = rw (moved_nil π [] ys e.moved refl) over
  accepts_on d d' {xs} {ys} e same (place b t h a) =
      let k = turn_in t in
      let q = same b k in
      place (π b) (rw q at (renamed_turn e t)) (omega (arith, e.deadline b k, e.withheld b k))
      (accepts_on d d' (renamed_without e k) (λ i m. same i (filter_in (λ j. not (eqb j b)) xs m).0) a)

  -- What the rules give xs, they give the new places.
  pub renamed_accepts :
      {xs ys : List ℕ}
      → Renamed π ρ T T' xs ys
      → (d d' : ℕ → ℕ)
      → ((i : ℕ) → Memᴰ i xs → d i ≡ d' (π i))
      → Accepts T d xs
      → Accepts T' d' ys
  renamed_accepts e d d' same a = accepts_on d d' e same a

  refuses_on : {p m : ℕ} {xs ys : List ℕ} → Renamed π ρ T T' xs ys → Refuses T p m xs → Refuses T' (π p) m ys
  refuses_on {p} e (here t h) =
      let k = turn_in t in
      here (renamed_turn e t) (omega (arith, e.deadline p k, e.withheld p k))
  refuses_on e (later b m t h a) =
      let k = turn_in t in
      later (π b) m (renamed_turn e t) (omega (arith, e.deadline b k, e.withheld b k)) (refuses_on (renamed_without e k) a)

  -- Where the rules refuse xs, they refuse the new places.
  pub renamed_refuses :
      {xs ys : List ℕ} → Renamed π ρ T T' xs ys → {p m : ℕ} → Refuses T p m xs → Refuses T' (π p) m ys
  renamed_refuses e f = refuses_on e f

  -- The conditions, the slacks and the least of them, of deadlines d of xs that are the deadlines d' of the new places.
  module _ {xs ys : List ℕ} (e : Renamed π ρ T T' xs ys) (d d' : ℕ → ℕ) (same : (i : ℕ) → Memᴰ i xs → d i ≡ d' (π i)) where
    -- Condition (6).
    pub renamed_six : Six T d xs → Six T' d' ys
    renamed_six h j m =
        let w = moved_from π xs ys e.moved m in
        let k = h w.0 w.1 in
        rw (← w.2) (
          omega (arith, k.0, same w.0 w.1, e.release w.0 w.1, e.execution w.0 w.1),
          omega (arith, k.1, same w.0 w.1, e.deadline w.0 w.1, e.withheld w.0 w.1),
        )

    -- Condition (7).
    pub renamed_seven : Seven T d xs → Seven T' d' ys
    renamed_seven h U n =
        let X : ℕ → Bool = λ i. U (π i) in
        let u = renamed_filter e U in
        omega (
          arith,
          h X (filled_moved π (filter X xs) (filter U ys) u.moved n),
          renamed_completion u,
          moved_greatest π (filter X xs) (filter U ys) u.moved d d' (λ i m. same i (filter_in X xs m).0),
        )

    -- A slack is what it was.
    pub renamed_slack : (i : ℕ) → Memᴰ i xs → slack T d i ≡ slack T' d' (π i)
    renamed_slack i m = rw (e.deadline i m, e.withheld i m, same i m)

    -- So is the least of them.
    pub renamed_least_slack : (x : ℤ) → LeastSlack T d xs x → LeastSlack T' d' ys x
    renamed_least_slack x h = (
      (π h.0.0, moved_in π xs ys e.moved h.0.1, sym (renamed_slack h.0.0 h.0.1) ∙ h.0.2),
      λ j m.
          let w = moved_from π xs ys e.moved m in
          rw (← w.2, ← renamed_slack w.0 w.1) (h.1 w.0 w.1),
    )

-- Both ways at once.
pub accepts_renamed :
    {π ρ : ℕ → ℕ} {T T' : Terms} {xs ys : List ℕ}
    → Renamed π ρ T T' xs ys
    → (d : ℕ → ℕ)
    → Accepts T (λ i. d (π i)) xs ↔ Accepts T' d ys
accepts_renamed {π} e d =
    let f = renamed_back e in (
      renamed_accepts e (λ i. d (π i)) d (λ i m. refl),
      renamed_accepts f d (λ i. d (π i)) (λ j m. ap d (sym (f.back j m))),
    )
