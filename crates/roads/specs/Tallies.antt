-- What is counted of a road on a route and on a plan, and what is asked of the lists that the walk reads.
use Rattle.std.specs.Prelude.{◌≡◌, ℕ, ◌+◌, ◌*◌, ◌/◌, ◌≤◌, ◌<◌, List, length, get_or}
use Rattle.model.specs.declared.Prices.{Prices}
use Rattle.model.specs.declared.Road.{Road}
use Rattle.model.specs.Lists.{count}
use Rattle.model.specs.Job.{job_of, priced}
use Rattle.model.specs.Plan.{Route}
use Rattle.model.specs.Cost.{legs}
use Rattle.model.specs.Roads.{leg_uses, plan_uses, plan_length}
use Rattle.model.specs.declared.job.Network.{Network}
use Rattle.distance.specs.Table.{Square, Limited}
use Rattle.solution.specs.declared.plan.Plan as held
use Rattle.solution.specs.Held.{routes}
use Rattle.roads.specs.declared.Tally.{Tally}

-- a route of at most 64 stops between two locations: stops of the list, at locations of the table
pub record Walkable (ss : List ℕ) (l : ℕ) (ds : List ℕ) (start end : ℕ) (r : Route) : Type 0 where
  pub table : Square l ds
  pub short : (i : ℕ) → get_or ds i 0 ≤ 200000
  pub places : (i : ℕ) → i < length ss → get_or ss i 0 < l
  pub begins : start < l
  pub ends : end < l
  pub few : length r ≤ 64
  pub stops : (s : ℕ) → 1 ≤ count s r → s < length ss

-- the uses and the metres of a route between two locations, for every job with these stops and this table
pub record RouteTally (ss : List ℕ) (l : ℕ) (ds : List ℕ) (R : Road) (start end : ℕ) (r : Route) (t : Tally) : Type 0 where
  pub uses : (vs : List ℕ) (p : Prices) → t.uses ≡ leg_uses (job_of vs ss l ds p) R start r end
  pub metres : (vs : List ℕ) (p : Prices) → t.metres ≡ legs (job_of vs ss l ds p) start r end

-- a plan of a network's vehicles and stops, and a network within the limits
pub record Mapped (N : Network) (p : held.Plan) : Type 0 where
  pub limits : Limited N
  pub vehicles : p.v ≡ length N.vehicles.now / 2
  pub stops : p.n ≡ length N.stops.now

-- the uses and the metres of all its routes, whatever the prices; there are at most 80 legs
pub record PlanTally (N : Network) (p : held.Plan) (R : Road) (t : Tally) : Type 0 where
  pub few : t.uses ≤ 80
  pub short : t.metres ≤ 16000000
  pub uses : (q : Prices) → t.uses ≡ plan_uses (priced N q) R (routes p)
  pub metres : (q : Prices) → t.metres ≡ plan_length (priced N q) (routes p)

-- the ceiling, from k, the uses S and the metres T
abbrev pub ceiling_from : Prices → ℕ → ℕ → ℕ → ℕ
ceiling_from p k S T = k * S * (p.linear + p.quadratic * (2 * T + k * S))
