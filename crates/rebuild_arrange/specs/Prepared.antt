-- What is known before the walk begins.
use Rattle.std.specs.Prelude.{◌≡◌, ℕ, ◌+◌, ◌-◌, ◌≤◌, ◌<◌, List, [], Float, get_or}
use Rattle.model.specs.declared.Region.{Region}
use Rattle.model.specs.Whole.{exact, whole, amount, IsWhole}
use Rattle.model.specs.Job.{Job}
use Rattle.model.specs.Cost.{price, missed_cost}
use Rattle.distance.specs.declared.tariff.Tariff.{Tariff}
use Rattle.solution.specs.declared.plan.Plan.{Plan}
use Rattle.solution.specs.Held.{routes}
use Rattle.delivery.specs.Costs.{table_cost}
use Rattle.delivery.specs.Held.{IsJobOf}
use Rattle.rebuild_fillings.specs.Walk.{Filling, empties}
use Rattle.rebuild_tables.specs.declared.frame.Frame.{Frame}
use Rattle.rebuild_tables.specs.Frame.{drained_count, plan_by, Framing}
use Rattle.rebuild_ways.specs.declared.Ways.{Ways}
use Rattle.rebuild_ways.specs.Ways.{vacant_at, prices_at, base_at}
use Rattle.rebuild_tables.specs.Ways.{route_by, driven_by, cost_by}
use Rattle.rebuild_tables.specs.Table.{gap_driving}
use Rattle.rebuild_tables.specs.Walks.{FullIn, Tabled, Priced}
use Rattle.rebuild_frame.specs.Listing.{StopsSmall}
use Rattle.rebuild_arrange.specs.Arranged.{Arrangeable}

-- r is what the plan costs without the regions' routes
pub record Based (t : Tariff) (p : Plan) (regions : List Region) (r : Float) : Type 0 where
  pub known : IsWhole r
  pub rest : amount r + gap_driving t.legs.table t.prices (routes p) regions ≡ table_cost t.legs.table t.prices p.n (routes p)

-- the drained stops of a frame, and the places on one side of the gaps, are places of the leg table
pub record Endable (f : Frame) (places : List ℕ) : Type 0 where
  pub stops : (i : ℕ) → get_or f.listed i 0 < 80
  pub gaps : (q : ℕ) → q < 3 → get_or places q 0 < 80

-- where the legs of a table begin, or end: the drained stops of a frame from place 1 on, and from place 8 on the places beside the gaps
pub record EndsOf (f : Frame) (places r : List ℕ) : Type 0 where
  pub stops : (i : ℕ) → 1 ≤ i → i < 8 → get_or r i 0 ≡ get_or f.listed i 0
  pub gaps : (q : ℕ) → q < 3 → get_or r (8 + q) 0 ≡ get_or places q 0
  pub small : (i : ℕ) → get_or r i 0 < 80

-- what all but the first gap's route costs where p gaps are empty, and so many drained stops are left
abbrev pub beside_first : Ways → ℕ → ℕ → ℕ
beside_first ways p m = base_at ways + (driven_by ways 1 (empties (p - 1)) + missed_cost (prices_at ways) m)

-- what is asked to add that up
pub record Addable (t : Tariff) (ways : Ways) (p m : ℕ) : Type 0 where
  pub prices : prices_at ways ≡ t.prices
  pub some : 1 ≤ p
  pub few : p ≤ 3
  pub left : m ≤ 7
  pub vacant : (q : ℕ) → q < p → vacant_at ways q ≡ price (prices_at ways) (route_by ways q [])
  pub small : beside_first ways p m ≤ exact

-- what is asked to fill the table of ways of a framed plan, which costs so much
pub record Tableable (t : Tariff) (p : Plan) (regions : List Region) (f : Frame) (c : Float) : Type 0 where
  pub plan : Arrangeable p regions
  pub framing : Framing p regions f
  pub near : StopsSmall f
  pub cost : c ≡ whole (table_cost t.legs.table t.prices p.n (routes p))

-- the table tells the routes and the costs of all arrangements of the frame
pub record Tells (t : Tariff) (p : Plan) (f : Frame) (ways : Ways) : Type 0 where
  pub tabled : Tabled ways f
  pub prices : prices_at ways ≡ t.prices
  pub costs : (xs : Filling) → FullIn f xs → cost_by ways (drained_count f) xs ≡ table_cost t.legs.table t.prices p.n (plan_by f xs)
  pub priced : (J : Job) → IsJobOf J t p → Priced J ways f
