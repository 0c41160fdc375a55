-- The view of a plan, route by route: it has as many routes, and the route of each van is the plan's or empty.
use Prim.Native.Nat.{ℕ, zero, suc, ◌+◌, ◌<◌}
use native.Mathlib.Omega.{arith}
use native.Mathlib.Nat.{le_of_suc-le-suc, zero-add, add-zero, add-suc, suc-add}
use mathlib.Core.Path.{◌≡◌, refl, ap}
use mathlib.Core.Bool.{cond}
use mathlib.Core.List.{[], ◌∷◌, ◌++◌}
use lib.ListN.{length, take}
use Rattle.model.specs.Plan.{Plan, Route, route_of}
use Rattle.model.specs.StopSet.{contains}
use Rattle.model.specs.Vans.{view_from, view}

-- what is seen of the route of van k
abbrev pub seen : ℕ → ℕ → Route → Route
seen vans k r = cond (contains k vans) r []

module _ (vans : ℕ) where
  from-routes : (k : ℕ) (P : Plan) → length (view_from vans k P) ≡ length P
  unfolding view_from
  from-routes k [] = refl
  from-routes k (r ∷ P) = ap suc (from-routes (suc k) P)

  pub view-routes : (P : Plan) → length (view vans P) ≡ length P
  unfolding view
  view-routes P = from-routes 0 P

  from_more : (j k : ℕ) (P : Plan) → k < length P → view_from vans j (take (suc k) P) ≡ view_from vans j (take k P) ++ (seen vans (j + k) (route_of P k) ∷ [])
  unfolding view_from
  from_more j k [] h = absurd (omega arith)
  from_more j zero (r ∷ P) h = rw add-zero
  from_more j (suc k) (r ∷ P) h = rw (add-suc, ← suc-add, from_more (suc j) k P (le_of_suc-le-suc h))

  -- the view of one route more
  pub view-more : (k : ℕ) (P : Plan) → k < length P → view vans (take (suc k) P) ≡ view vans (take k P) ++ (seen vans k (route_of P k) ∷ [])
  unfolding view
  view-more k P h = rw zero-add at (from_more 0 k P h)
