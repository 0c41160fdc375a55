-- Specification, 1: vehicles as start, end, start, end and so on, a location for each stop, and the distances row by row (row = from, column = to).
use Rattle.std.specs.Prelude.{ℕ, ◌+◌, ◌*◌, ◌/◌, List, length, get_or}
use Rattle.model.specs.declared.Prices.{Prices}
use Rattle.model.specs.declared.job.Network.{Network}
use Rattle.model.specs.declared.job.Job as lent

pub record Job : Type 0 where
  pub vehicles : List ℕ
  pub stops : List ℕ
  pub locations : ℕ
  pub distances : List ℕ
  pub prices : Prices

-- the job of these lists
abbrev pub job_of : List ℕ → List ℕ → ℕ → List ℕ → Prices → Job
job_of vs ss l ds p = record { vehicles = vs; stops = ss; locations = l; distances = ds; prices = p }

-- a network with prices
abbrev pub priced : Network → Prices → Job
priced N p = job_of N.vehicles.now N.stops.now N.locations N.distances.now p

-- the job that a call is lent, of the lists that it lends
abbrev pub of_lent : lent.Job → Job
of_lent J = priced J.network J.prices

-- v, the number of vehicles
abbrev pub vehicle_count : Job → ℕ
vehicle_count J = length J.vehicles / 2

-- n, the number of stops
abbrev pub stop_count : Job → ℕ
stop_count J = length J.stops

-- the location where vehicle k starts
abbrev pub start_of : Job → ℕ → ℕ
start_of J k = get_or J.vehicles (2 * k) 0

-- the location where vehicle k ends
abbrev pub end_of : Job → ℕ → ℕ
end_of J k = get_or J.vehicles (2 * k + 1) 0

-- the location of a stop
abbrev pub location_of : Job → ℕ → ℕ
location_of J s = get_or J.stops s 0

-- the entry of a table of l columns in row `from` and column `to`
unfoldable pub entry : List ℕ → ℕ → ℕ → ℕ → ℕ
entry table l from to = get_or table (from * l + to) 0

-- the metres from location a to location b
abbrev pub distance : Job → ℕ → ℕ → ℕ
distance J a b = entry J.distances J.locations a b
