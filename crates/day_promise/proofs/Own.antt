-- On a job within limits, with a plan and a live set that pass 4 and 11, an event is refused for its own stop alone.
use Prim.Native.Nat.{ℕ}
use mathlib.Core.Path.{◌≡◌, refl}
use mathlib.Core.Bool.{Bool, true, false, cond, ◌&&◌, not}
use mathlib.Core.List.{[], ◌∷◌}
use lib.Dec.{ltb}
use Rattle.model.specs.Job.{Job, vehicle_count, stop_count}
use Rattle.model.specs.StopSet.{contains}
use Rattle.model.specs.Refusals.{refusal, bad_length, bad_live, bad_plan, bad_given, bad_arrival, bad_cancellation}
use Rattle.model.specs.Days.{Event, Arrival, Cancellation, stop_of, Day, call_made, arguments_of, WithinLimits}
use Rattle.day_promise.specs.Own.{own_refusal}

cond-not : (t : Bool) (a b : ℕ) → cond (not t) a b ≡ cond t b a
cond-not true a b = refl
cond-not false a b = refl

given-one : (n s : ℕ) → bad_given n (s ∷ []) ≡ not (ltb s n)
unfolding bad_given
given-one n s = go (ltb s n)
  where
    go : (t : Bool) → not ((t && true) && true) ≡ not t
    go true = refl
    go false = refl

module _ (J : Job) (D : Day) (W : WithinLimits J) (long : bad_length (vehicle_count J) (stop_count J) D.plan ≡ false)
    (live : bad_live (vehicle_count J) (stop_count J) D.live D.plan ≡ false) (form : bad_plan (vehicle_count J) (stop_count J) D.plan ≡ false) where
  pub refusal-own : (e : Event) → refusal (call_made e) (arguments_of J D e) ≡ own_refusal e (stop_count J) (contains (stop_of e) D.live)
  unfolding refusal bad_arrival bad_cancellation
  refusal-own (Arrival s) = rw (W.vehicles, W.stops, W.table, long, W.locations, W.distances, W.prices, live, form, given-one, cond-not)
  refusal-own (Cancellation s) =
      rw (W.vehicles, W.stops, W.table, long, W.locations, W.distances, W.prices, live, form, given-one) (simp cond-not)
