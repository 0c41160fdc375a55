-- The costs that an arrival and a cancellation answer are whole numbers that f64 counts without a gap.
use Prim.Native.Nat.{ℕ, ◌+◌, ◌≤◌}
use native.Mathlib.Omega.{arith}
use native.Mathlib.Nat.{le_refl, le_trans}
use mathlib.Core.Path.{◌≡◌, refl}
use mathlib.Core.Bool.{true}
use lib.ListN.{length}
use Rattle.model.specs.Lists.{member}
use Rattle.model.specs.Whole.{exact}
use Rattle.model.specs.Plan.{Plan, placed}
use Rattle.model.specs.StopSet.{including, excluding}
use Rattle.model.specs.Live.{live_cost, cancelled}
use Rattle.model.specs.Refusals.{Arguments, stop_given, live_set, Call, Arrive, Cancel, asked, refusal}
use Rattle.model.specs.Calls.{lent_plan, made, new_live}
use Rattle.model.proofs.PlanForm.{lent_length, lent_placed}
use Rattle.model.proofs.Live.{arrived-least, cancelled-routes, cancelled-placed}
use Rattle.delivery.proofs.Live.{live-exact}
use Rattle.call_refusals.proofs.Accepted.{priced-table, listed, affordable, lent}

module _ (c : Call) (A : Arguments) (e : refusal c A ≡ 0) (priced : member 8 (asked c) ≡ true) (read : member 11 (asked c) ≡ true) where
  -- whatever stops are live, for a plan of as many routes as the lent one, with no more stops placed
  live_small : (live : ℕ) (P : Plan) → length P ≡ length (lent_plan A) → placed P ≤ placed (lent_plan A) → live_cost A.job live P ≤ exact
  live_small live P routes fewer =
      let l = lent c A e read in
      let z = (listed c A e).sizes in
      let few : placed P + length P ≤ 80 = omega (arith, lent_length _ _ _ l, lent_placed _ _ _ l, z.vehicles, z.stops) in
      omega (arith, live-exact A.job ((listed c A e).limits (priced-table c priced)).short (affordable c A e priced) live P few)

pub arrival-exact : (A : Arguments) → refusal Arrive A ≡ 0 → live_cost A.job (new_live Arrive A) (made Arrive A) ≤ exact
unfolding made new_live
arrival-exact A e =
    le_trans (arrived-least A.job (live_set A) (stop_given A) (lent_plan A)).0
    (live_small Arrive A e refl refl (including (stop_given A) (live_set A)) (lent_plan A) refl (le_refl (placed (lent_plan A))))

pub cancellation-exact : (A : Arguments) → refusal Cancel A ≡ 0 → live_cost A.job (new_live Cancel A) (made Cancel A) ≤ exact
unfolding made new_live
cancellation-exact A e =
    live_small Cancel A e refl refl (excluding (stop_given A) (live_set A)) (cancelled (stop_given A) (lent_plan A))
    (cancelled-routes (stop_given A) (lent_plan A)) (cancelled-placed (stop_given A) (lent_plan A) (lent Cancel A e refl).once)
