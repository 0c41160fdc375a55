-- No more stops are placed than are live, and at most 64 are live.
use Prim.Native.Nat.{ℕ, ◌-◌}
use native.Mathlib.Omega.{arith}
use mathlib.Core.Path.{ap₂, ◌∙◌}
use Rattle.model.specs.Whole.{whole}
use Rattle.model.specs.Cost.{missed_cost}
use Rattle.delivery.proofs.Live.{live_count-le, lives-is}
use Rattle.delivery.proofs.Ready.{ready}
use Rattle.delivery.proofs.live_cost.Goals as goal

pub missed_cost-requires : goal.missed_cost-requires
missed_cost-requires c =
    (omega (arith, c.size.ensures.stops, live_count-le c.args.live), c.args.tariff.now.affordable)

pub returns : goal.returns
returns c =
    let t = c.args.tariff.now in
    lives-is t.legs.table c.args.plan.now.v c.args.plan.now.n t.prices _ (ready t c.args.plan.now) c.args.live
    c.driving_cost-driving.result c.missed_cost.result c.driving_cost-driving.ensures
    (
    c.missed_cost.ensures
    ∙ ap₂ (λ (a b : ℕ). whole (missed_cost t.prices (a - b))) c.size.ensures.stops
    (c.size-placed.ensures.digits ∙ c.placed_set.ensures.size)
    )
