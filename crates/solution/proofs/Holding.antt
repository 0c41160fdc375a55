-- What a plan that is held says of its routes.
use Prim.Native.Nat.{ℕ}
use mathlib.Core.Path.{◌≡◌, refl}
use mathlib.Core.List.{List}
use lib.ListN.{length}
use Rattle.model.specs.Plan.{decode}
use Rattle.model.specs.Plan as form
use Rattle.model.proofs.PlanForm.{decode-encode}
use Rattle.solution.specs.declared.plan.Plan.{Plan}
use Rattle.solution.specs.Held.{numbers_of, routes, Holds}

-- its routes are those that it holds
pub holds-routes : (v n : ℕ) (P : form.Plan) (p : Plan) → Holds v n P p → length P ≡ v → routes p ≡ P
holds-routes v n P p h e = rw (h.form, h.vehicles) (decode-encode n P v e)

-- and those of the lent form that it was read from
pub read-routes : (v : ℕ) (xs : List ℕ) (p : Plan) → p.v ≡ v → numbers_of p ≡ xs → routes p ≡ decode v xs
read-routes v xs p e h = rw (h, e) refl
