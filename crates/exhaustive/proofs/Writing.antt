-- The full plan is written stop by stop: those below i stand on the first route.
use Prim.Native.Nat.{ℕ, zero, suc, ◌+◌, ◌≤◌}
use native.Mathlib.Omega.{arith}
use native.Mathlib.Nat.{le_of_suc-le-suc}
use mathlib.Core.Path.{◌≡◌, refl, sym, ap, ◌∙◌}
use mathlib.Core.Logic.{inr}
use mathlib.Core.Bool.{false}
use mathlib.Core.List.{[], ◌∷◌, ◌++◌}
use lib.ListN.{take, replicate}
use Rattle.model.specs.Lists.{concat, with_last, count, up_from}
use Rattle.model.specs.Plan.{is_placed, encode}
use Rattle.model.proofs.Lists.{up_from-append, count-up_from-out, count-absent}
use Rattle.solution.specs.declared.plan.Plan.{Plan}
use Rattle.solution.specs.Held.{numbers_of, routes, Holds, Becomes}
use Rattle.solution.proofs.Holding.{holds-routes}
use Rattle.exhaustive.specs.Full.{full_plan}
use Rattle.exhaustive.proofs.Arranging.{concat-full, length-full}

-- the first of the numbers from a on
pub take-up : (a j k : ℕ) → j ≤ k → take j (up_from a k) ≡ up_from a j
take-up a zero k h = refl
take-up a (suc j) zero h = absurd (omega arith)
take-up a (suc j) (suc k) h = rw (take-up (suc a) j k (le_of_suc-le-suc h))

put-next : (i : ℕ) → up_from 0 i ++ (i ∷ []) ≡ up_from 0 (i + 1)
put-next i = let e : 0 + i ≡ i = omega arith in sym (up_from-append 0 i 1 ∙ ap (λ j. up_from 0 i ++ j ∷ []) e)

placed-next : (v i : ℕ) → with_last 0 i (full_plan (suc v) i) ≡ full_plan (suc v) (i + 1)
placed-next v i = ap (λ r. r ∷ replicate v []) (put-next i)

module _ (v n i : ℕ) (some : 1 ≤ v) (p : Plan) (h : Holds v n (full_plan v i) p) where
  so : routes p ≡ full_plan v i
  so = holds-routes v n (full_plan v i) p h (length-full i v)

  pub next-off : is_placed i (routes p) ≡ false
  next-off = rw so (off v)
    where
      off : (v : ℕ) → is_placed i (full_plan v i) ≡ false
      off zero = refl
      off (suc v) = count-absent i (concat (full_plan (suc v) i)) (ap (count i) (concat-full i v) ∙ count-up_from-out i 0 i (inr (omega arith)))

  pub next-written : (q : Plan) → Becomes p q (with_last 0 i (routes p)) → Holds v n (full_plan v (i + 1)) q
  next-written q b = record { vehicles = b.vehicles ∙ h.vehicles; stops = b.stops ∙ h.stops; form = form }
    where
      next : (v : ℕ) → 1 ≤ v → with_last 0 i (full_plan v i) ≡ full_plan v (i + 1)
      next zero a = absurd (omega arith)
      next (suc v) a = placed-next v i

      form : numbers_of q ≡ encode n (full_plan v (i + 1))
      form =
          b.form
          ∙ ap (λ m. encode m (with_last 0 i (routes p))) h.stops
          ∙ ap (λ P. encode n (with_last 0 i P)) so
          ∙ ap (encode n) (next v some)
