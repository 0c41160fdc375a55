-- Specification, 15: a day of arrivals and cancellations on one job, and what is promised after every list of them.
use Rattle.std.specs.Prelude.{◌≡◌, ◌≢◌, ℕ, ◌+◌, ◌≤◌, ◌<◌, Bool, true, false, cond, ◌&&◌, List, [], ◌∷◌, eqb, ltb, Float, length, Result, Ok, Err}
use Rattle.model.specs.Lists.{concat, count, Once}
use Rattle.model.specs.Whole.{exact, whole, amount}
use Rattle.model.specs.Job.{Job, vehicle_count, stop_count}
use Rattle.model.specs.Plan.{Plan, encode, decode, is_plan}
use Rattle.model.specs.StopSet.{contains}
use Rattle.model.specs.Cost.{driving_cost, missed_cost}
use Rattle.model.specs.Rebuild.{empty_plan}
use Rattle.model.specs.Refusals.{Arguments, naming, Call, Arrive, Cancel, refusal, bad_vehicles, bad_stops, bad_table, bad_locations, bad_distances, bad_prices}
use Rattle.model.specs.declared.Standing.{Standing}
use Rattle.model.specs.declared.refusal.Refusal.{Refusal}
use Rattle.model.specs.Live.{missed_stops, live_cost}
use Rattle.model.specs.Calls.{plan_left, live_answer}

-- a stop, by any number, that arrives or is cancelled
pub data Event : Type 0 where
  Arrival : ℕ → Event
  Cancellation : ℕ → Event

-- the stop that an event names
abbrev pub stop_of : Event → ℕ
stop_of (Arrival s) = s
stop_of (Cancellation s) = s

-- whether it arrives
abbrev pub arrives : Event → Bool
arrives (Arrival s) = true
arrives (Cancellation s) = false

-- ---- which stops are live, read off the events alone

-- whether the last event that names stop s is an arrival; `before` where none names it
abbrev pub last_arrives : ℕ → Bool → List Event → Bool
last_arrives s before [] = before
last_arrives s before (e ∷ es) = last_arrives s (cond (eqb s (stop_of e)) (arrives e) before) es

-- stop s, of n, has been added and not been cancelled since
abbrev pub live_after : ℕ → ℕ → List Event → Bool
live_after n s es = ltb s n && last_arrives s false es

-- ---- the calls, one after another

-- the lent plan, the live set, and the cost that was answered last
pub record Day : Type 0 where
  pub plan : List ℕ
  pub live : ℕ
  pub cost : Float

-- the empty plan, the empty live set, and what that costs
unfoldable pub new_day : Job → Day
new_day J = record { plan = encode (stop_count J) (empty_plan J); live = 0; cost = whole (live_cost J 0 (empty_plan J)) }

-- the call that an event makes
abbrev pub call_made : Event → Call
call_made (Arrival s) = Arrive
call_made (Cancellation s) = Cancel

-- and its arguments
abbrev pub arguments_of : Job → Day → Event → Arguments
arguments_of J D e = naming J D.plan D.live (stop_of e)

-- the day with the plan that a call has left, and its answer: a refused call answers nothing new
abbrev pub answered : Result Standing Refusal → List ℕ → Day → Day
answered (Err e) plan D = record { plan = plan; live = D.live; cost = D.cost }
answered (Ok t) plan D = record { plan = plan; live = t.live; cost = t.cost }

-- an event
unfoldable pub next : Job → Day → Event → Day
next J D e = answered (live_answer (call_made e) (arguments_of J D e)) (plan_left (call_made e) (arguments_of J D e)) D

-- events one after another
abbrev pub next_all : Job → Day → List Event → Day
next_all J D [] = D
next_all J D (e ∷ es) = next_all J (next J D e) es

-- the day after a list of events, from an empty plan and an empty live set
abbrev pub day_after : Job → List Event → Day
day_after J es = next_all J (new_day J) es

-- the plan of a day
abbrev pub plan_of : Job → Day → Plan
plan_of J D = decode (vehicle_count J) D.plan

-- ---- the claim

-- a job that no call refuses for itself: none of 1, 2, 3, 6, 7 and 8 applies
pub record WithinLimits (J : Job) : Type 0 where
  pub vehicles : bad_vehicles J.vehicles ≡ false
  pub stops : bad_stops J.stops ≡ false
  pub table : bad_table J.locations J.distances ≡ false
  pub locations : bad_locations J.vehicles J.stops J.locations ≡ false
  pub distances : bad_distances J.distances ≡ false
  pub prices : bad_prices J.prices ≡ false

-- of a job, a list of events and the day after them
pub record DayPromise (J : Job) (es : List Event) (D : Day) : Type 0 where
  -- live are exactly the stops added and not cancelled since
  pub live : (s : ℕ) → contains s D.live ≡ live_after (stop_count J) s es
  -- the plan is in plan form, and holds no stop twice
  pub form : is_plan (vehicle_count J) (stop_count J) D.plan ≡ true
  pub once : Once (concat (plan_of J D))
  -- and none that is not live
  pub inside : (s : ℕ) → 1 ≤ count s (concat (plan_of J D)) → contains s D.live ≡ true
  -- the cost answered last is what weighing the plan afresh gives
  pub cost : D.cost ≡ whole (live_cost J D.live (plan_of J D))
  -- its missed part counts only the live stops that are unplaced
  pub missed : live_cost J D.live (plan_of J D) ≡ driving_cost J (plan_of J D) + missed_cost J.prices (length (missed_stops D.live (plan_of J D)))
  -- a whole number that f64 counts without a gap
  pub small : amount D.cost < exact
  -- a further event that is refused changes nothing
  pub unchanged : (e : Event) → refusal (call_made e) (arguments_of J D e) ≢ 0 → next J D e ≡ D
  -- and none is refused for the plan or the live set
  pub taken : (e : Event) → refusal (call_made e) (arguments_of J D e) ≢ 11
