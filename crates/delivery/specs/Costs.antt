-- What a plan costs over a leg table, so that the crates above this one need not speak of a job, and what is asked of a plan to weigh it.
use Rattle.std.specs.Prelude.{◌≡◌, ℕ, suc, ◌+◌, ◌-◌, ◌≤◌, List, [], ◌∷◌, Float}
use Rattle.model.specs.Whole.{exact, whole}
use Rattle.model.specs.Job.{Job}
use Rattle.model.specs.Plan.{Plan, Route, placed, Lent, Sizes}
use Rattle.model.specs.Legs.{depot, LegTable, Affordable, Fits}
use Rattle.model.specs.Cost.{price, driving_cost, missed_cost, cost}
use Rattle.model.specs.Live.{live_count, live_cost}
use Rattle.model.specs.declared.Prices.{Prices}
use Rattle.distance.specs.Ways.{table_legs}

-- the route of vehicle k
abbrev pub table_price : List ℕ → Prices → ℕ → Route → ℕ
table_price t p k r = price p (table_legs t (depot k) r (depot k))

-- the routes of a plan, which are those of the vehicles from k on
unfoldable pub table_driving : List ℕ → Prices → ℕ → Plan → ℕ
table_driving t p k [] = 0
table_driving t p k (r ∷ P) = table_price t p k r + table_driving t p (suc k) P

-- the routes and the missed ones of n stops
unfoldable pub table_cost : List ℕ → Prices → ℕ → Plan → ℕ
unfolding table_driving
table_cost t p n P = table_driving t p 0 P + missed_cost p (n - placed P)

-- the routes and the missed ones of the live stops
unfoldable pub table_live : List ℕ → Prices → ℕ → Plan → ℕ
unfolding table_driving
table_live t p live P = table_driving t p 0 P + missed_cost p (live_count live - placed P)

-- a plan of v routes and n stops with a leg table and prices, all within the limits
pub record Ready (t : List ℕ) (v n : ℕ) (p : Prices) (xs : List ℕ) : Type 0 where
  pub legs : LegTable t
  pub sizes : Sizes v n
  pub prices : Affordable p
  pub plan : Lent v n xs

-- c is what the routes of P cost: over the table, and for every job that fits it
pub record Drives (t : List ℕ) (v n : ℕ) (p : Prices) (P : Plan) (c : Float) : Type 0 where
  pub small : table_driving t p 0 P ≤ exact
  pub table : c ≡ whole (table_driving t p 0 P)
  pub job : (J : Job) → Fits J t v n p → c ≡ whole (driving_cost J P)

-- c is what P costs: over the table, and for every job that fits it
pub record Costs (t : List ℕ) (v n : ℕ) (p : Prices) (P : Plan) (c : Float) : Type 0 where
  pub small : table_cost t p n P ≤ exact
  pub table : c ≡ whole (table_cost t p n P)
  pub job : (J : Job) → Fits J t v n p → c ≡ whole (cost J P)

-- c is what P costs while the stops of a set are live: over the table, and for every job that fits it
pub record LiveCosts (t : List ℕ) (v n : ℕ) (p : Prices) (live : ℕ) (P : Plan) (c : Float) : Type 0 where
  pub small : table_live t p live P ≤ exact
  pub table : c ≡ whole (table_live t p live P)
  pub job : (J : Job) → Fits J t v n p → c ≡ whole (live_cost J live P)
