use Rattle.rebuild_tables.specs.Frame.{drained_count}
use Rattle.rebuild_tables.proofs.Begin.{all-places, first-call, visited}
use Rattle.rebuild_walk.proofs.visit.Goals as goal

-- src/lib.rt:149:5
pub walk-requires : goal.walk-requires
walk-requires c =
    first-call c.args.ways.now c.args.frame.now c.args.kept.now c.args.others c.args.best c.requires c.without-left.result (all-places (drained_count c.args.frame.now) c.drained.result c.below-all.result c.without-left.result c.drained.ensures c.below-all.ensures c.without-left.ensures) c.own-own.result c.own-own.ensures

-- src/lib.rt:136:1
pub returns : goal.returns
returns c =
    visited c.args.ways.now c.args.frame.now c.args.kept.now c.args.others c.args.best c.requires c.without-left.result (all-places (drained_count c.args.frame.now) c.drained.result c.below-all.result c.without-left.result c.drained.ensures c.below-all.ensures c.without-left.ensures) _ _ c.walk.ensures
