-- Specification, 10: the condition of each number, one table with the order in which they are tested, and which calls test which.
-- (14 is found while reading a file: see File.)
use Rattle.std.specs.Prelude.{ℕ, ◌+◌, ◌*◌, ◌%◌, Bool, true, false, cond, ◌&&◌, ◌||◌, not, List, [], ◌∷◌, eqb, ltb, leb, length, get_or}
use Rattle.model.specs.declared.Prices.{Prices}
use Rattle.model.specs.declared.Road.{Road}
use Rattle.model.specs.Lists.{member, all_below, all_once}
use Rattle.model.specs.Job.{Job, job_of, vehicle_count, stop_count}
use Rattle.model.specs.Plan.{Plan, decode, used_part, is_plan}
use Rattle.model.specs.StopSet.{contains, stops_of}
use Rattle.model.specs.Vans.{move_to, bad_vans, bad_move}
use Rattle.model.specs.declared.Move.{Move}
use Rattle.model.specs.Roads.{road_from, bad_road, bad_entry}

-- What a call is given. Where a call has no such argument the list is empty or the number 0, and the call does not test it.
pub record Arguments : Type 0 where
  pub job : Job
  pub plan : List ℕ
  pub smoothing : ℕ
  pub limit : ℕ
  pub draws : List ℕ
  pub given : List ℕ
  pub live : List ℕ
  pub vans : ℕ
  pub moves : List Move
  pub seen : List (List ℕ)
  pub roads : List Road

-- the arguments of a call that runs no rounds
abbrev pub asking : Job → List ℕ → List ℕ → Arguments
asking J plan given = record { job = J; plan = plan; smoothing = 0; limit = 0; draws = []; given = given; live = []; vans = 0; moves = []; seen = []; roads = [] }

-- the arguments of a call that has a set of live stops, with the stop that it adds or cancels
abbrev pub naming : Job → List ℕ → ℕ → ℕ → Arguments
naming J plan live s = record { job = J; plan = plan; smoothing = 0; limit = 0; draws = []; given = s ∷ []; live = live ∷ []; vans = 0; moves = []; seen = []; roads = [] }

-- that stop
abbrev pub stop_given : Arguments → ℕ
stop_given A = get_or A.given 0 0

-- and that set
abbrev pub live_set : Arguments → ℕ
live_set A = get_or A.live 0 0

-- the arguments of a run
abbrev pub running : Job → ℕ → ℕ → List ℕ → List ℕ → Arguments
running J smoothing limit draws plan =
    record { job = J; plan = plan; smoothing = smoothing; limit = limit; draws = draws; given = []; live = []; vans = 0; moves = []; seen = []; roads = [] }

-- what stands for the prices in a call that knows none
abbrev pub unpriced : Prices
unpriced = record { linear = 0; quadratic = 0; missed = 0 }

-- a job of which a call knows the vehicles and the stops alone
abbrev pub tableless : List ℕ → List ℕ → Job
tableless vs ss = job_of vs ss 0 [] unpriced

-- the arguments of a view by a caller who holds a set of vans: the last is the list that it is written to
abbrev pub looking : Job → List ℕ → ℕ → List ℕ → Arguments
looking J plan vans seen =
    record { job = J; plan = plan; smoothing = 0; limit = 0; draws = []; given = []; live = []; vans = vans; moves = []; seen = seen ∷ []; roads = [] }

-- that list
abbrev pub seen_given : Arguments → List ℕ
seen_given A = get_or A.seen 0 []

-- the arguments of a move by such a caller
abbrev pub moving : Job → List ℕ → ℕ → Move → Arguments
moving J plan vans m =
    record { job = J; plan = plan; smoothing = 0; limit = 0; draws = []; given = m.stop ∷ []; live = []; vans = vans; moves = m ∷ []; seen = []; roads = [] }

-- that move
abbrev pub move_given : Arguments → Move
move_given A = get_or A.moves 0 (move_to 0 0 0)

-- the arguments of roadworks: the last is the road that gets longer
abbrev pub lengthening : Job → List ℕ → Road → Arguments
lengthening J plan road =
    record { job = J; plan = plan; smoothing = 0; limit = 0; draws = []; given = []; live = []; vans = 0; moves = []; seen = []; roads = road ∷ [] }

-- that road
abbrev pub road_given : Arguments → Road
road_given A = get_or A.roads 0 (road_from 0 0 0)

-- the public calls
pub data Call : Type 0 where
  Weigh : Call
  StartPlan : Call
  TwoOpt : Call
  Rebuild : Call
  Exhaustive : Call
  Pruned : Call
  Solve : Call
  Arrive : Call
  Cancel : Call
  View : Call
  MoveStop : Call
  Roadworks : Call

-- x is from a to b
abbrev pub within : ℕ → ℕ → ℕ → Bool
within a b x = leb a x && leb x b

-- ---- the conditions

-- 1: vehicle list odd or over 32 long
unfoldable pub bad_vehicles : List ℕ → Bool
bad_vehicles vs = eqb (length vs % 2) 1 || ltb 32 (length vs)

-- 2: stop list over 64
unfoldable pub bad_stops : List ℕ → Bool
bad_stops ss = ltb 64 (length ss)

-- 3: l over 80 or table not l × l
unfoldable pub bad_table : ℕ → List ℕ → Bool
bad_table l ds = ltb 80 l || not (eqb (length ds) (l * l))

-- 4: plan not v + n long
unfoldable pub bad_length : ℕ → ℕ → List ℕ → Bool
bad_length v n plan = not (eqb (length plan) (v + n))

-- 4, of the list that a view is written to, where a call has one: not v + n long
abbrev pub bad_seen : ℕ → ℕ → List (List ℕ) → Bool
bad_seen v n [] = false
bad_seen v n (seen ∷ none) = bad_length v n seen

-- 4 whole: of that list, where a call has one, or of the plan
abbrev pub bad_lengths : Arguments → Bool
bad_lengths A =
    let v = vehicle_count A.job in
    let n = stop_count A.job in
    bad_seen v n A.seen || bad_length v n A.plan

-- 5: draw list outside 1 to 1,024
unfoldable pub bad_draws : List ℕ → Bool
bad_draws ds = not (within 1 1024 (length ds))

-- 6: location number not below l
unfoldable pub bad_locations : List ℕ → List ℕ → ℕ → Bool
bad_locations vs ss l = not (all_below l vs && all_below l ss)

-- 6, of a road, where a call has one
abbrev pub bad_roads : ℕ → List Road → Bool
bad_roads l [] = false
bad_roads l (road ∷ none) = bad_road l road

-- 6 whole: of that road, where a call has one, or of a vehicle or a stop
abbrev pub bad_places : Arguments → Bool
bad_places A = bad_roads A.job.locations A.roads || bad_locations A.job.vehicles A.job.stops A.job.locations

-- 7: distance over 200,000
unfoldable pub bad_distances : List ℕ → Bool
bad_distances ds = not (all_below 200001 ds)

-- 7, of a road, where a call has one
abbrev pub bad_entries : ℕ → List ℕ → List Road → Bool
bad_entries l ds [] = false
bad_entries l ds (road ∷ none) = bad_entry l ds road

-- 7 whole: of that road as it gets, where a call has one, or of the table
abbrev pub bad_legs : Arguments → Bool
bad_legs A = bad_entries A.job.locations A.job.distances A.roads || bad_distances A.job.distances

-- 8: w, q or M over its limit
unfoldable pub bad_prices : Prices → Bool
bad_prices p = ltb 1000000 p.linear || (ltb 16 p.quadratic || ltb 10000000000000 p.missed)

-- 9: c outside 1 to 1,000
unfoldable pub bad_smoothing : ℕ → Bool
bad_smoothing c = not (within 1 1000 c)

-- 10: round limit outside 1 to 1,000,000
unfoldable pub bad_limit : ℕ → Bool
bad_limit limit = not (within 1 1000000 limit)

-- 11: given plan not in plan form, or a stop twice
unfoldable pub bad_plan : ℕ → ℕ → List ℕ → Bool
bad_plan v n plan = not (is_plan v n plan)

-- every stop of a list is live
abbrev pub all_live : ℕ → List ℕ → Bool
all_live live [] = true
all_live live (s ∷ ss) = contains s live && all_live live ss

-- 11, of a live set: it lacks a stop of the plan, or names one not below n
unfoldable pub bad_live : ℕ → ℕ → ℕ → List ℕ → Bool
bad_live v n live plan = not (all_live live (used_part v plan) && all_below n (stops_of live))

-- of the live set, where a call has one
abbrev pub bad_lives : ℕ → ℕ → List ℕ → List ℕ → Bool
bad_lives v n [] plan = false
bad_lives v n (live ∷ none) plan = bad_live v n live plan

-- 11 whole: of the live set, where a call has one, or of the plan
abbrev pub bad_lent : Arguments → Bool
bad_lent A =
    let v = vehicle_count A.job in
    let n = stop_count A.job in
    bad_lives v n A.live A.plan || bad_plan v n A.plan

-- 12: given stops not below n, equal, or not one or two (the pair's call always has two)
unfoldable pub bad_given : ℕ → List ℕ → Bool
bad_given n given = not (all_below n given && (all_once given && within 1 2 (length given)))

-- 15, of a move, where a call has one
abbrev pub bad_moves : ℕ → List Move → Plan → Bool
bad_moves vans [] P = false
bad_moves vans (m ∷ none) P = bad_move vans m P

-- 15 whole: the set of vans names one not below v, or the move is not the caller's to make
abbrev pub bad_for_caller : Arguments → Bool
bad_for_caller A =
    let v = vehicle_count A.job in
    bad_vans v A.vans || bad_moves A.vans A.moves (decode v A.plan)

-- 16: arrival of a stop that is already live
unfoldable pub bad_arrival : ℕ → ℕ → Bool
bad_arrival live s = contains s live

-- 17: cancellation of one that is not
unfoldable pub bad_cancellation : ℕ → ℕ → Bool
bad_cancellation live s = not (contains s live)

-- 13: over 6 stops or 3 vehicles
unfoldable pub too_large : ℕ → ℕ → Bool
too_large v n = ltb 6 n || ltb 3 v

-- ---- the table

pub record Test : Type 0 where
  pub number : ℕ
  pub applies : Arguments → Bool

-- the numbers in the order in which they are tested
abbrev pub tests : List Test
tests =
    record { number = 1; applies = λ A. bad_vehicles A.job.vehicles }
    ∷ record { number = 2; applies = λ A. bad_stops A.job.stops }
    ∷ record { number = 3; applies = λ A. bad_table A.job.locations A.job.distances }
    ∷ record { number = 4; applies = bad_lengths }
    ∷ record { number = 5; applies = λ A. bad_draws A.draws }
    ∷ record { number = 6; applies = bad_places }
    ∷ record { number = 7; applies = bad_legs }
    ∷ record { number = 8; applies = λ A. bad_prices A.job.prices }
    ∷ record { number = 9; applies = λ A. bad_smoothing A.smoothing }
    ∷ record { number = 10; applies = λ A. bad_limit A.limit }
    ∷ record { number = 11; applies = bad_lent }
    ∷ record { number = 12; applies = λ A. bad_given (stop_count A.job) A.given }
    ∷ record { number = 15; applies = bad_for_caller }
    ∷ record { number = 16; applies = λ A. bad_arrival (live_set A) (stop_given A) }
    ∷ record { number = 17; applies = λ A. bad_cancellation (live_set A) (stop_given A) }
    ∷ record { number = 13; applies = λ A. too_large (vehicle_count A.job) (stop_count A.job) }
    ∷ []

-- the numbers that a call can give: those that speak of an argument it has
abbrev pub asked : Call → List ℕ
asked Weigh = 1 ∷ 2 ∷ 3 ∷ 4 ∷ 6 ∷ 7 ∷ 8 ∷ 11 ∷ []
asked StartPlan = 1 ∷ 2 ∷ 3 ∷ 4 ∷ 6 ∷ 7 ∷ []
asked TwoOpt = 1 ∷ 2 ∷ 3 ∷ 4 ∷ 6 ∷ 7 ∷ 8 ∷ 11 ∷ 12 ∷ []
asked Rebuild = 1 ∷ 2 ∷ 3 ∷ 4 ∷ 6 ∷ 7 ∷ 8 ∷ 11 ∷ 12 ∷ []
asked Exhaustive = 1 ∷ 2 ∷ 3 ∷ 4 ∷ 6 ∷ 7 ∷ 8 ∷ 13 ∷ []
asked Pruned = 1 ∷ 2 ∷ 3 ∷ 4 ∷ 6 ∷ 7 ∷ 8 ∷ 13 ∷ []
asked Solve = 1 ∷ 2 ∷ 3 ∷ 4 ∷ 5 ∷ 6 ∷ 7 ∷ 8 ∷ 9 ∷ 10 ∷ []
asked Arrive = 1 ∷ 2 ∷ 3 ∷ 4 ∷ 6 ∷ 7 ∷ 8 ∷ 11 ∷ 12 ∷ 16 ∷ []
asked Cancel = 1 ∷ 2 ∷ 3 ∷ 4 ∷ 6 ∷ 7 ∷ 8 ∷ 11 ∷ 12 ∷ 17 ∷ []
asked View = 1 ∷ 2 ∷ 4 ∷ 11 ∷ 15 ∷ []
asked MoveStop = 1 ∷ 2 ∷ 3 ∷ 4 ∷ 6 ∷ 7 ∷ 8 ∷ 11 ∷ 12 ∷ 15 ∷ []
asked Roadworks = 1 ∷ 2 ∷ 3 ∷ 4 ∷ 6 ∷ 7 ∷ 8 ∷ 11 ∷ []

-- the first of some tests that the call makes and that applies; 0 where there is none
abbrev pub first_number_of : Call → Arguments → List Test → ℕ
first_number_of c A [] = 0
first_number_of c A (t ∷ ts) = cond (member t.number (asked c) && t.applies A) t.number (first_number_of c A ts)

-- the number that a call is refused with; 0 where it is accepted
unfoldable pub refusal : Call → Arguments → ℕ
refusal c A = first_number_of c A tests
