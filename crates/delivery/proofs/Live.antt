-- What a plan costs while some stops are live: over the leg table, for every job that fits it, and below 2 ^ 53.
use mathlib.Core.Path.{◌≡◌, refl, sym, ap, ap₂, ◌∙◌}
use Prim.Native.Nat.{ℕ, ◌+◌, ◌-◌, ◌^◌, ◌≤◌, ◌<◌}
use native.Mathlib.Omega.{arith}
use mathlib.Core.List.{List}
use lib.ListN.{length, get_or}
use lib.Ieee.{Float, binary64, add}
use Rattle.model.specs.declared.Prices.{Prices}
use Rattle.model.specs.Lists.{concat}
use Rattle.model.specs.Whole.{whole, exact}
use Rattle.model.specs.Job.{Job, stop_count}
use Rattle.model.specs.Plan.{Plan, placed, decode}
use Rattle.model.specs.StopSet.{stops_of}
use Rattle.model.specs.Legs.{LegTable, Affordable, Fits}
use Rattle.model.specs.Cost.{driving_cost, missed_cost, cost}
use Rattle.model.specs.Live.{live_count, live_cost}
use Rattle.model.proofs.Lists.{length-up_from}
use Rattle.model.proofs.Counts.{once-few}
use Rattle.model.proofs.Cost.{cost-is}
use Rattle.model.proofs.PlanForm.{lent_length}
use Rattle.stop_set.proofs.Laws.{stops-once, stops-small, stops-below}
use Rattle.distance.specs.Ways.{Below}
use Rattle.delivery.specs.Costs.{table_driving, table_live, Ready, Drives, LiveCosts}
use Rattle.delivery.proofs.Laws.{dearest_missed, missed-small, driving-small, sum-exact, table-driving, lent-few, lent-64}
use Rattle.delivery.proofs.Limits.{driving-limit}

pub live_cost-is : (J : Job) (live : ℕ) (P : Plan) → live_cost J live P ≡ driving_cost J P + missed_cost J.prices (live_count live - placed P)
unfolding live_cost
live_cost-is J live P = refl

pub table_live-is : (t : List ℕ) (p : Prices) (live : ℕ) (P : Plan) → table_live t p live P ≡ table_driving t p 0 P + missed_cost p (live_count live - placed P)
unfolding table_live
table_live-is t p live P = refl

-- a set has no more than 64 stops
pub live_count-le : (live : ℕ) → live_count live ≤ 64
live_count-le live = once-few 64 (stops_of live) (stops-once live) (stops-small live)

-- with every stop live it is the cost of a plan (Specification, 3)
pub live_cost-all : (J : Job) (P : Plan) → stop_count J ≤ 64 → live_cost J (2 ^ stop_count J - 1) P ≡ cost J P
live_cost-all J P h =
    live_cost-is J (2 ^ stop_count J - 1) P
    ∙ ap (λ (m : ℕ). driving_cost J P + missed_cost J.prices (m - placed P)) (ap length (stops-below (stop_count J) h) ∙ length-up_from 0 (stop_count J))
    ∙ sym (cost-is J P)

-- what is missed of them
missed-live : (p : Prices) → Affordable p → (live : ℕ) (P : Plan) → missed_cost p (live_count live - placed P) ≤ dearest_missed
missed-live p A live P = missed-small p A (live_count live - placed P) (omega (arith, live_count-le live))

-- over a table, and for a job within the limits
pub live_small : (t : List ℕ) (p : Prices) → LegTable t → Affordable p → (live : ℕ) (P : Plan) → placed P + length P ≤ 80 → table_live t p live P < exact
live_small t p L A live P h = omega (arith, table_live-is t p live P, driving-small t p L A 0 P h, missed-live p A live P)

pub live-exact : (J : Job) → ((i : ℕ) → get_or J.distances i 0 ≤ 200000) → Affordable J.prices
    → (live : ℕ) (P : Plan) → placed P + length P ≤ 80 → live_cost J live P < exact
live-exact J short A live P h =
    omega (arith, live_cost-is J live P, driving-limit J short A P h, missed-live J.prices A live P)

-- both are one number where the job fits the table
pub table-live : (J : Job) (t : List ℕ) (v n : ℕ) (p : Prices) → Fits J t v n p → (live : ℕ) (P : Plan) → length P ≤ v → Below n (concat P) → Below 64 (concat P)
    → table_live t p live P ≡ live_cost J live P
table-live J t v n p F live P few N S =
    table_live-is t p live P
    ∙ ap₂ ◌+◌ (table-driving J t v n p F P few N S) (ap (λ (q : Prices). missed_cost q (live_count live - placed P)) (sym F.prices))
    ∙ sym (live_cost-is J live P)

-- the routes and the missed live stops are added exactly
pub lives-is : (t : List ℕ) (v n : ℕ) (p : Prices) (xs : List ℕ) → Ready t v n p xs → (live : ℕ) (c m : Float)
    → Drives t v n p (decode v xs) c → m ≡ whole (missed_cost p (live_count live - placed (decode v xs)))
    → LiveCosts t v n p live (decode v xs) (add binary64 c m)
lives-is t v n p xs R live c m D e =
    let P = decode v xs in
    let e' = table_live-is t p live P in
    let small = live_small t p R.legs R.prices live P (lent-few t v n p xs R) in
    let d : add binary64 c m ≡ whole (table_live t p live P) = ap₂ (add binary64) D.table e ∙ sum-exact _ _ (omega arith) ∙ ap whole (sym e') in
    record {
      small = omega arith;
      table = d;
      job = λ J F. d ∙ ap whole (table-live J t v n p F live P (omega (arith, lent_length v n xs R.plan)) R.plan.below (lent-64 t v n p xs R));
    }
