use Prim.Native.Nat.{◌<◌}
use mathlib.Core.Path.{◌≡◌, refl}
use lib.ListN.{length}
use Rattle.std.proofs.Common.{rules}
use Rattle.rebuild_arrange.proofs.Arranging.{none-arranged}
use Rattle.rebuild_arrange.proofs.rearrange.Goals as goal

pub returns-then-is_empty : goal.returns-then-is_empty
returns-then-is_empty c =
    let none : length c.args.regions.now ≡ 0 = search rules in
    none-arranged c.args.tariff.now c.args.plan.now c.args.regions.now c.requires none _ c.cost-cost.ensures refl refl

pub arrange_gaps-requires : goal.arrange_gaps-requires
arrange_gaps-requires c =
    let some : 0 < length c.args.regions.now = search rules in
    record { arrangeable = (c.requires, some); cost_value = c.cost-cost.ensures.table }
