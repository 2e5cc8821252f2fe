-- A set that fits, in room that is large enough: what the steps ask of it holds, and what they tell is the method's outcome.
use Rattle.std.specs.Prelude.{Ok, Err}
use Prim.Native.Nat.{ℕ, ◌<◌, ◌≤◌}
use mathlib.Core.Bool.{Bool}
use mathlib.Core.List.{List}
use mathlib.Core.Path.{◌≡◌, refl, sym, ap, ◌∙◌}
use native.Mathlib.Omega.{arith}
use lib.ListN.{length, take, replicate, length-replicate}
use lib.Seq.{take_all}
use lib.IntN.{ℤ}
use Rattle.lists.specs.Places.{places}
use Rattle.lists.proofs.Members.{in_every, from-length}
use Rattle.lists.proofs.Mapped.{take-replicate}
use Rattle.subjobs.specs.Judging.{Judgement}
use Rattle.subjobs.specs.declared.Reason.{Reason}
use Rattle.subjobs.specs.declared.Reason.TheVariants.{Late}
use Rattle.subjobs.specs.Sets.{Subjobs, size, release}
use Rattle.subjobs.specs.Terms.{Terms, terms}
use Rattle.subjobs.specs.Faults.{Fit}
use Rattle.subjobs.proofs.Fit.{refused_passed}
use Rattle.rules.specs.Method.{Outcome, placed, stuck, in_order, method}
use Rattle.rules.proofs.AllPlaces.{in_order_below}
use Rattle.rules.proofs.ReleaseOrder.{in_order-below, nodup_in_order}
use Rattle.olda.specs.Answers.{written}
use Rattle.olda.specs.Parts.{raised, Raised, ruling, Ranged, Placing, stepped, Placed, Places}
use Rattle.olda.proofs.Raised.{raised_signed, raised-steps}
use Rattle.olda.proofs.Results.{fit_inside}

-- An outcome that passes leaves nothing of what the list held, one that is refused leaves all of it.
passed_list : (T : Terms) (w : Outcome) (a b : List ℕ) → Ok tt ≡ ruling T w → written w a ≡ written w b
passed_list T (placed ds) a b e = refl
passed_list T (stuck p m) a b e = refused_passed _ (sym e)

refused_list : (T : Terms) (w : Outcome) (a : List ℕ) (q : Reason) → Err q ≡ ruling T w → a ≡ written w a
refused_list T (placed ds) a q e = refused_passed q e
refused_list T (stuck p m) a q e = refl

module _ {s : Subjobs} {others : Bool} (f : Fit s others) (room : ℕ) (enough : size s ≤ room) where
  ranged : (i : ℕ) → i < length s.releases → Ranged s.releases s.executions i
  ranged i h =
      let l = f.lengths in
      let q = f.ranges i (omega (arith, l.releases)) in
      record {
        inside = h;
        known = omega (arith, l.releases, l.executions);
        release = q.release;
        some = q.some;
        execution = q.execution;
      }

  -- The places in release order, all of the set.
  module _ {os : List ℕ} (so : os ≡ in_order (release s) (places (length s.releases))) (long : length os ≡ length s.releases) where
    whole : take (length os) os ≡ in_order (release s) (places (length s.releases))
    whole = take_all (length os) os (omega arith) ∙ so

    pub fit_placing :
        {us es : List ℕ}
        → length us ≡ room
        → length es ≡ length s.releases
        → Placing s us os es (replicate room 0) (length os)
    fit_placing u o =
        let l = f.lengths.releases in
        let n = length s.releases in
        record {
          bounds = omega arith;
          local = omega (arith, length-replicate {A = ℕ} room 0);
          order = omega arith;
          ends = omega arith;
          few = omega (arith, f.few);
          each = rw whole (in_every (Ranged s.releases s.executions) (in_order (release s) (places n)) (λ i k. ranged i (in_order-below (release s) n k)));
          once = rw whole (nodup_in_order (release s) n);
        }

    module _
        {us ls : List ℕ}
        {r : Judgement}
        (up : Raised (terms s) (length s.deadlines) us)
        (p : Placed s us os (replicate room 0) (length os) r ls)
      where
        raised_all : Raised (terms s) (size s) us
        raised_all i h = up i (omega (arith, f.lengths.deadlines))

        -- The steps are the method's,
        by_method : stepped s us os (replicate room 0) (length os) ≡ method s
        unfolding method
        by_method =
            rw (whole, long, f.lengths.releases, take-replicate (size s) room 0 enough, from-length 0 (size s))
            (raised-steps s (size s) us raised_all (size s) (in_order (release s) (places (size s))) (replicate (size s) 0) (in_order_below (release s) (size s)))

        -- and a bound that is refused is the set's.
        by_bounds : (w : Outcome) → method s ≡ w → ruling (raised s us) w ≡ ruling (terms s) w
        by_bounds (placed ds) e = refl
        by_bounds (stuck q k) e =
            ap (λ (z : ℤ). Err (Late q k z)) (raised_signed s (size s) us raised_all q (fit_inside s f q k e))

        told : r ≡ ruling (terms s) (method s)
        told = p.ruled ∙ ap (ruling (raised s us)) by_method ∙ by_bounds (method s) refl

        pub fit_refused : {out : List ℕ} {q : Reason} → r ≡ Err q → Places s out (Err q) out
        fit_refused {out} {q} e =
            let t = sym e ∙ told in
            record { ruled = t; list = refused_list (terms s) (method s) out q t }

        pub fit_passed : {out out' : List ℕ} → r ≡ Ok tt → out' ≡ take (length s.releases) ls → Places s out (Ok tt) out'
        fit_passed {out} e o =
            let t = sym e ∙ told in
            let n = length s.releases in
            record {
              ruled = t;
              list = o
                  ∙ p.list
                  ∙ ap (λ (w : Outcome). written w (take n ls)) by_method
                  ∙ passed_list (terms s) (method s) (take n ls) out t;
            }
