-- The plan that a table of ways stands for.
use Rattle.std.specs.Prelude.{◌≡◌, ℕ, ◌+◌, ◌≤◌, ◌<◌, List, [], ◌∷◌, Float, length, get_or}
use Rattle.model.specs.declared.Prices.{Prices}
use Rattle.model.specs.declared.Region.{Region}
use Rattle.model.specs.Whole.{amount}
use Rattle.model.specs.Plan.{Plan, route_of}
use Rattle.model.specs.Region.{drained}
use Rattle.distance.specs.declared.tariff.Tariff.{Tariff}
use Rattle.solution.specs.declared.plan.Plan as held
use Rattle.solution.specs.Held.{routes}
use Rattle.delivery.specs.Costs.{table_price, table_cost}
use Rattle.rebuild_words.specs.Gaps.{Gapped}
use Rattle.rebuild_survey.specs.declared.Gap.{Gap}
use Rattle.rebuild_survey.specs.Surveys.{before_of, after_of, Surveyed}
use Rattle.rebuild_fillings.specs.Walk.{stop_at}
use Rattle.rebuild_ways.specs.declared.Ways.{Ways}
use Rattle.rebuild_ways.specs.Table.{Filled}

-- what the routes of some regions cost in a plan
unfoldable pub gap_driving : List ℕ → Prices → Plan → List Region → ℕ
gap_driving t p P [] = 0
gap_driving t p P (g ∷ gs) = table_price t p g.vehicle (route_of P g.vehicle) + gap_driving t p P gs

-- the stops that the regions drain from a plan
abbrev pub stops_from : held.Plan → List Region → List ℕ
stops_from p regions = drained (routes p) regions

-- The table is filled for a plan and its regions: rows and columns 1 and on are the drained stops, those from 8 on the ends of the gaps, and the
-- base is what the plan costs without the regions' routes.
pub record Grounded (t : Tariff) (p : held.Plan) (regions : List Region) (gaps : List Gap) (starts ends : List ℕ) (base : Float) (ways : Ways) : Type 0 where
  pub gapped : Gapped p regions
  pub surveyed : Surveyed t.legs p regions gaps
  pub few : length (stops_from p regions) ≤ 7
  pub leaving : (i : ℕ) → 1 ≤ i → i ≤ length (stops_from p regions) → get_or starts i 0 ≡ stop_at (stops_from p regions) i
  pub reaching : (i : ℕ) → 1 ≤ i → i ≤ length (stops_from p regions) → get_or ends i 0 ≡ stop_at (stops_from p regions) i
  pub before : (q : ℕ) → q < length regions → get_or starts (8 + q) 0 ≡ before_of gaps q
  pub after : (q : ℕ) → q < length regions → get_or ends (8 + q) 0 ≡ after_of gaps q
  pub rest : amount base + gap_driving t.legs.table t.prices (routes p) regions ≡ table_cost t.legs.table t.prices p.n (routes p)
  pub filled : Filled t starts ends gaps (length regions) base ways
