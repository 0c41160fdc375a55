-- What a plan that is held costs by a tariff.
use Rattle.std.specs.Prelude.{ℕ, Float}
use Rattle.model.specs.Job.{Job}
use Rattle.model.specs.Legs.{Fits}
use Rattle.distance.specs.declared.tariff.Tariff.{Tariff}
use Rattle.solution.specs.declared.plan.Plan.{Plan}
use Rattle.solution.specs.Held.{routes}
use Rattle.delivery.specs.Costs.{Drives, Costs, LiveCosts}

-- the tariff and the sizes of the plan are those of the job
abbrev pub IsJobOf : Job → Tariff → Plan → Type 0
IsJobOf J t p = Fits J t.legs.table p.v p.n t.prices

-- c is what the routes of a plan cost
abbrev pub IsDriving : Tariff → Plan → Float → Type 0
IsDriving t p c = Drives t.legs.table p.v p.n t.prices (routes p) c

-- c is what a plan costs
abbrev pub IsCost : Tariff → Plan → Float → Type 0
IsCost t p c = Costs t.legs.table p.v p.n t.prices (routes p) c

-- c is what a plan costs while the stops of a set are live
abbrev pub IsLiveCost : Tariff → Plan → ℕ → Float → Type 0
IsLiveCost t p live c = LiveCosts t.legs.table p.v p.n t.prices live (routes p) c
