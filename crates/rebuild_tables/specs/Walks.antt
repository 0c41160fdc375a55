-- The walk: where a call stands, what it meets, what it keeps and what it counts.
use Rattle.std.specs.Prelude.{◌≡◌, ℕ, suc, ◌+◌, ◌-◌, ◌≤◌, ◌<◌, List, [], map, Float, length, get_or}
use Rattle.model.specs.StopSet.{stops_of}
use Rattle.model.specs.Whole.{exact, whole}
use Rattle.model.specs.Job.{Job, stop_count}
use Rattle.model.specs.Plan.{Plan, placed}
use Rattle.model.specs.Legs.{Affordable}
use Rattle.model.specs.Cost.{price, missed_cost, cost}
use Rattle.model.specs.Lists.{up_from}
use Rattle.model.specs.Rebuild.{choose, fillings, arrangements, begun, completed}
use Rattle.rebuild_fillings.specs.Walk.{Filling, empties, fillings_from, plans_from, call_count}
use Rattle.rebuild_fillings.specs.Rows.{word_of, filling_of, done_of, here_of, Reached, Full}
use Rattle.rebuild_tables.specs.declared.frame.Frame.{Frame}
use Rattle.rebuild_tables.specs.declared.Kept.{Kept}
use Rattle.rebuild_tables.specs.Frame.{gap_count, stop_total, drained_count, framed_plan, framed_regions, plan_by, Placeable}
use Rattle.rebuild_ways.specs.declared.Ways.{Ways}
use Rattle.rebuild_ways.specs.Ways.{own_at, vacant_at, prices_at, base_at}
use Rattle.rebuild_tables.specs.Kept.{calls_in}
use Rattle.rebuild_tables.specs.Ways.{gone_by, route_by, driven_by, cost_by}
use Rattle.rebuild_tables.specs.Meeting.{trail_from}

-- a filling of the frame's gaps with some of its drained stops
abbrev pub FullIn : Frame → Filling → Type 0
FullIn f xs = Full (gap_count f) (drained_count f) xs

-- both tables are right, and no arrangement's routes or cost leave the numbers that an f64 counts
pub record Tabled (ways : Ways) (f : Frame) : Type 0 where
  pub prices : Affordable (prices_at ways)
  pub vacant : (q : ℕ) → q < gap_count f → vacant_at ways q ≡ price (prices_at ways) (route_by ways q [])
  pub short : (xs : Filling) → FullIn f xs → (q : ℕ) → q < gap_count f → route_by ways q (get_or xs q []) ≤ 16000000
  pub small : (xs : Filling) → FullIn f xs → cost_by ways (drained_count f) xs ≤ exact

-- the gaps after gap q
abbrev pub later : Frame → ℕ → ℕ
later f q = gap_count f - suc q

-- what all but gap q's route costs at a call: the gaps before it are as the word says, the later ones are empty, and those of a set are left
abbrev pub elsewhere : Ways → Frame → ℕ → ℕ → ℕ → ℕ
elsewhere ways f q left word =
    base_at ways
    + (driven_by ways 0 (done_of q word) + (driven_by ways (suc q) (empties (later f q)) + missed_cost (prices_at ways) (length (stops_of left))))

-- A call stands at a word in gap q: `len` is the length of gap q's route up to the last stop in the gap and behind the gap.
pub record Here (ways : Ways) (f : Frame) (q left word : ℕ) (len others : Float) : Type 0 where
  pub gap : q < gap_count f
  pub at : Reached (drained_count f) q (stops_of left) word
  pub gone : len ≡ whole (own_at ways q + gone_by ways (8 + q) (here_of q word))
  pub besides : others ≡ whole (elsewhere ways f q left word)

-- the plan of the best arrangement so far
abbrev pub best_plan : Frame → Kept → Plan
best_plan f kept = plan_by f (filling_of kept.best)

-- the best arrangement so far, and its cost
pub record Held (ways : Ways) (f : Frame) (kept : Kept) (best : Float) : Type 0 where
  pub word : Placeable f kept.best
  pub cost : best ≡ whole (cost_by ways (drained_count f) (filling_of kept.best))
  pub placed : kept.most ≡ placed (best_plan f kept)

-- a call of the walk, with room for what it counts
pub record Walkable (ways : Ways) (f : Frame) (kept : Kept) (q left word : ℕ) (len others best : Float) : Type 0 where
  pub tabled : Tabled ways f
  pub here : Here ways f q left word len others
  pub held : Held ways f kept best
  pub room : (r : ℕ) → r < gap_count f → calls_in kept r + call_count r q (length (stops_of left)) ≤ 390454

-- the fillings that a call meets, in its order: a filling of gap q, then every filling of the later gaps with the stops that are left
abbrev pub met_from : Frame → ℕ → ℕ → ℕ → List Filling
met_from f q left word = fillings_from (gap_count f) q (stops_of left) (done_of q word) (here_of q word)

-- their plans
abbrev pub plans_met : Frame → ℕ → ℕ → ℕ → List Plan
plans_met f q left word = plans_from (plan_by f) (gap_count f) q (stops_of left) (done_of q word) (here_of q word)

-- a job whose costs the table tells
pub record Priced (J : Job) (ways : Ways) (f : Frame) : Type 0 where
  pub total : stop_count J ≡ stop_total f
  pub each : (xs : Filling) → FullIn f xs → cost J (plan_by f xs) ≡ cost_by ways (drained_count f) xs

-- The plans from a call on were met: the best of them is kept, for every job, each call is counted in its gap, and the words that were met,
-- in their order, are noted in the trail.
pub record Walked (ways : Ways) (f : Frame) (before : Kept) (q left word : ℕ) (after : Kept) (found : Float) : Type 0 where
  pub held : Held ways f after found
  pub chosen : (J : Job) → Priced J ways f → best_plan f after ≡ choose J (best_plan f before) (plans_met f q left word)
  pub counted : (r : ℕ) → r < gap_count f → calls_in after r ≡ calls_in before r + call_count r q (length (stops_of left))
  pub noted : after.trail ≡ trail_from before.trail (map word_of (met_from f q left word))

-- ---- the whole walk

-- what is asked to walk all arrangements of a frame, with the plan of the best so far
pub record Visitable (ways : Ways) (f : Frame) (kept : Kept) (others best : Float) : Type 0 where
  pub tabled : Tabled ways f
  pub held : Held ways f kept best
  pub start : others ≡ whole (base_at ways + (driven_by ways 1 (empties (gap_count f - 1)) + missed_cost (prices_at ways) (drained_count f)))
  pub fresh : (r : ℕ) → r < 3 → calls_in kept r ≡ 0

-- All arrangements of the frame's regions were met: the best is kept, for every job, the fillings of the first region and the arrangements are
-- counted, and the trail is that of the definition's list, in its order.
pub record Visited (ways : Ways) (f : Frame) (before after : Kept) (found : Float) : Type 0 where
  pub held : Held ways f after found
  pub chosen : (J : Job) → Priced J ways f → best_plan f after ≡ choose J (best_plan f before) (arrangements (framed_plan f) (framed_regions f))
  pub started : calls_in after 0 ≡ begun (framed_plan f) (framed_regions f)
  pub met : calls_in after (gap_count f - 1) ≡ completed (framed_plan f) (framed_regions f)
  pub noted : after.trail ≡ trail_from before.trail (map word_of (fillings (gap_count f) (up_from 1 (drained_count f))))
