-- One step of the pruned solver's search.
use Rattle.std.specs.Prelude.{◌≡◌, ℕ, ◌+◌, Bool, cond, ◌&&◌, ◌||◌, List, [], ltb, eqb, Float, length}
use Rattle.model.specs.Lists.{concat, lower, count, up_from}
pub use Rattle.model.specs.Lists.{with_last}
use Rattle.model.specs.Whole.{amount, IsWhole}
use Rattle.model.specs.Job.{Job}
use Rattle.model.specs.Plan.{placed, encode}
use Rattle.model.specs.Plan as form
use Rattle.model.specs.StopSet.{stops_of}
use Rattle.model.specs.Cost.{driving_cost}
use Rattle.model.specs.Rebuild.{choose, reached}
use Rattle.distance.specs.declared.tariff.Tariff.{Tariff}
use Rattle.solution.specs.declared.plan.Plan.{Plan}
use Rattle.solution.specs.Held.{routes}
use Rattle.delivery.specs.Held.{IsJobOf, IsCost}

-- what `better` says of two plans that cost the same
unfoldable pub wins_tie : ℕ → form.Plan → form.Plan → Bool
wins_tie n P Q = ltb (placed Q) (placed P) || (eqb (placed P) (placed Q) && lower (encode n P) (encode n Q))

-- and of two plans whose costs are a and b
unfoldable pub preferred : ℕ → ℕ → form.Plan → ℕ → form.Plan → Bool
unfolding wins_tie
preferred n a P b Q = ltb a b || (eqb a b && wins_tie n P Q)

-- a plan of as many vehicles and stops as another
pub record SameSizes (one other : Plan) : Type 0 where
  pub vehicles : other.v ≡ one.v
  pub stops : other.n ≡ one.n

-- two plans of the same sizes with what they cost
pub record Rivals (plan : Plan) (a : Float) (best : Plan) (b : Float) : Type 0 where
  pub sizes : SameSizes plan best
  pub cost : IsWhole a
  pub least : IsWhole b

-- the preferred one of the two, and its cost
pub record Winner (plan : Plan) (a : Float) (best : Plan) (b : Float) (kept : Plan) (r : Float) : Type 0 where
  pub choice : kept ≡ cond (preferred plan.n (amount a) (routes plan) (amount b) (routes best)) plan best
  pub cost : r ≡ cond (preferred plan.n (amount a) (routes plan) (amount b) (routes best)) a b

-- the plans reached from P, where its routes cost less than a bound
abbrev pub reached_below : Job → ℕ → form.Plan → List ℕ → List form.Plan
reached_below J bound P left = cond (ltb (driving_cost J P) bound) (reached J (length left) P left) []

-- what a step of the search is given: the plan it is at, the stops that are left, what its routes must cost less than,
-- and the best plan so far with its cost
pub record Search (t : Tariff) (left : ℕ) (plan : Plan) (b : Float) (best : Plan) (c : Float) : Type 0 where
  pub sizes : SameSizes plan best
  pub all : (s : ℕ) → count s (concat (routes plan)) + count s (stops_of left) ≡ count s (up_from 0 plan.n)
  pub bound : IsWhole b
  pub least : IsCost t best c

-- what it leaves: the choice among the best plan so far and the plans reached, and its cost
pub record Searched (t : Tariff) (left : ℕ) (plan : Plan) (b : Float) (best kept : Plan) (r : Float) : Type 0 where
  pub sizes : SameSizes plan kept
  pub cost : IsCost t kept r
  pub chosen : (J : Job) → IsJobOf J t plan → routes kept ≡ choose J (routes best) (reached_below J (amount b) (routes plan) (stops_of left))
