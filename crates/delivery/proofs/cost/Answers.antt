-- The routes and the missed stops, added exactly.
use Prim.Native.Nat.{ℕ}
use mathlib.Core.Path.{ap, ◌∙◌}
use Rattle.model.specs.Whole.{whole}
use Rattle.model.specs.Cost.{missed_cost}
use Rattle.delivery.proofs.Laws.{costs-is}
use Rattle.delivery.proofs.Ready.{ready}
use Rattle.delivery.proofs.cost.Goals as goal

pub returns : goal.returns
returns c =
    let t = c.args.tariff.now in
    costs-is t.legs.table c.args.plan.now.v c.args.plan.now.n t.prices _ (ready t c.args.plan.now) c.driving_cost-driving.result c.missed_cost.result
    c.driving_cost-driving.ensures (c.missed_cost.ensures ∙ ap (λ (m : ℕ). whole (missed_cost t.prices m)) c.missed.ensures)
