-- Specification, 3: a whole number. Calls hand it out as the f64 of the same value.
use Prim.Native.Nat.{ℕ, suc, _+_, _-_, _*_}
use mathlib.Core.List.{[], _∷_}
use Rattle·model·specs.specs.declared.Prices.{Prices}
use Rattle·model·specs.specs.Job.{Job, stopCount, startOf, endOf, locationOf, distance}
use Rattle·model·specs.specs.Plan.{Plan, Route, placed}

-- the legs from a location through the stops of a route to a last location
unfoldable pub legs : Job → ℕ → Route → ℕ → ℕ
legs J from [] to = distance J from to
legs J from (s ∷ r) to = distance J from (locationOf J s) + legs J (locationOf J s) r to

-- L: the legs start, stops, end; an empty route has the one leg from start to end
unfoldable pub routeLength : Job → ℕ → Route → ℕ
unfolding legs
routeLength J k r = legs J (startOf J k) r (endOf J k)

-- what a route of length L costs: L × w + L × L × q
unfoldable pub price : Prices → ℕ → ℕ
price p d = d * p .linear + d * d * p .quadratic

-- what the route of vehicle k costs
abbrev pub routePrice : Job → ℕ → Route → ℕ
routePrice J k r = price (J .prices) (routeLength J k r)

-- what f gives for each route, added up; the first route is that of vehicle k
abbrev pub overRoutes : (ℕ → Route → ℕ) → ℕ → Plan → ℕ
overRoutes f k [] = 0
overRoutes f k (r ∷ P) = f k r + overRoutes f (suc k) P

-- the routes of a plan, which are those of the vehicles from k on
unfoldable pub drivingFrom : Job → ℕ → Plan → ℕ
unfolding routeLength price
drivingFrom J k [] = 0
drivingFrom J k (r ∷ P) = price (J .prices) (routeLength J k r) + drivingFrom J (suc k) P

-- the cost without the missed part
unfoldable pub drivingCost : Job → Plan → ℕ
unfolding drivingFrom
drivingCost J P = drivingFrom J 0 P

-- the missed part of so many stops
unfoldable pub missedCost : Prices → ℕ → ℕ
missedCost p m = m * p .missed

-- the sum over vehicles of (L × w + L × L × q) + (n − stops placed) × M
unfoldable pub cost : Job → Plan → ℕ
unfolding drivingCost missedCost
cost J P = drivingCost J P + missedCost (J .prices) (stopCount J - placed P)
