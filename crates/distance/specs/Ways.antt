-- Lengths of ways over a leg table, so that the crates above this one need not speak of a job: places as in model's Legs.
use Rattle.std.specs.Prelude.{◌≡◌, ℕ, ◌+◌, ◌≤◌, ◌<◌, List, [], ◌∷◌, length}
use Rattle.model.specs.Lists.{count}
use Rattle.model.specs.Job.{Job}
use Rattle.model.specs.Plan.{Route}
use Rattle.model.specs.Legs.{leg_at, depot, Fits}
use Rattle.model.specs.Cost.{route_length}
use Rattle.model.specs.declared.Prices.{Prices}

-- the way from a place through the stops of a route to a last place
unfoldable pub table_legs : List ℕ → ℕ → Route → ℕ → ℕ
table_legs t from [] to = leg_at t from to
table_legs t from (s ∷ r) to = leg_at t from s + table_legs t s r to

-- the way from a place to the last stop of a route
unfoldable pub walked : List ℕ → ℕ → Route → ℕ
walked t from [] = 0
walked t from (s ∷ r) = leg_at t from s + walked t s r

-- the same way gone backwards: from the last stop of a route to a place
unfoldable pub walked_back : List ℕ → ℕ → Route → ℕ
walked_back t to [] = 0
walked_back t to (s ∷ r) = leg_at t s to + walked_back t s r

-- the last stop of a route, or `from` for an empty route
abbrev pub last_place : ℕ → Route → ℕ
last_place from [] = from
last_place from (s ∷ r) = last_place s r

-- every stop of a route is below n
abbrev pub Below : ℕ → Route → Type 0
Below n r = (s : ℕ) → 1 ≤ count s r → s < n

-- a route whose length can be asked: at most 64 stops, each of them a stop's place
pub record Drivable (r : Route) : Type 0 where
  pub few : length r ≤ 64
  pub stops : Below 64 r

-- d is the length of route r on vehicle k: over the table, and for every job that fits the table and has that vehicle and those stops
pub record RouteLength (t : List ℕ) (k : ℕ) (r : Route) (d : ℕ) : Type 0 where
  pub small : d ≤ 13000000
  pub way : d ≡ table_legs t (depot k) r (depot k)
  pub job : (J : Job) (v n : ℕ) (p : Prices) → Fits J t v n p → k < v → Below n r → d ≡ route_length J k r
