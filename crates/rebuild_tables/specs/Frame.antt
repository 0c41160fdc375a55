-- A frame: the gaps, the plan and the drained stops of a walk, and the plan that a word stands for in it.
use Rattle.std.specs.Prelude.{◌≡◌, ℕ, List, take, drop}
use Rattle.model.specs.Plan.{Plan, encode}
use Rattle.model.specs.declared.Region.{Region}
use Rattle.solution.specs.declared.plan.Plan as held
use Rattle.solution.specs.Held.{routes}
use Rattle.rebuild_fillings.specs.Walk.{Filling, plan_at}
use Rattle.rebuild_fillings.specs.Rows.{filling_of, Worded}
use Rattle.rebuild_tables.specs.declared.frame.Frame.{Frame}

-- how many gaps there are
abbrev pub gap_count : Frame → ℕ
gap_count f = f.gaps

-- the stops of the job
abbrev pub stop_total : Frame → ℕ
stop_total f = f.plan.n

-- those that are on a route of the plan
abbrev pub placed_count : Frame → ℕ
placed_count f = f.placed

-- those that are drained
abbrev pub drained_count : Frame → ℕ
drained_count f = f.drained

-- the regions
abbrev pub framed_regions : Frame → List Region
framed_regions f = take (gap_count f) f.regions

-- the drained stops: i is 1 for the first
abbrev pub stops_in : Frame → List ℕ
stops_in f = take (drained_count f) (drop 1 f.listed)

-- the plan
abbrev pub framed_plan : Frame → Plan
framed_plan f = routes f.plan

-- the plan of a filling by places
abbrev pub plan_by : Frame → Filling → Plan
plan_by f xs = plan_at (framed_plan f) (framed_regions f) xs

-- the lent form of the plan that a word stands for
abbrev pub form_of : Frame → ℕ → List ℕ
form_of f w = encode (stop_total f) (plan_by f (filling_of w))

-- w is the word of an arrangement of the frame's stops in its gaps
abbrev pub Placeable : Frame → ℕ → Type 0
Placeable f w = Worded (gap_count f) (drained_count f) w

-- f is the frame of a plan and its regions
pub record Framing (plan : held.Plan) (regions : List Region) (f : Frame) : Type 0 where
  pub same : f.plan ≡ plan
  pub spans : framed_regions f ≡ regions
