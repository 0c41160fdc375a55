use Rattle.pruned.proofs.Solving.{beginning, sized, ending}
use Rattle.pruned.proofs.pruned.Goals as goal

pub reach-cost-requires : goal.reach-cost-requires
reach-cost-requires c =
    let a = c.args in
    beginning a.tariff.now a.v a.n c.requires c.blank-start.result c.blank-start.ensures c.below-left.result c.below-left.ensures
    c.of_u64-unbounded.result c.of_u64-unbounded.ensures c.cost-least.result c.cost-least.ensures

pub returns : goal.returns
returns c =
    let a = c.args in
    record {
      sizes =
          sized a.tariff.now a.v a.n c.requires c.blank-start.result c.blank-start.ensures c.below-left.result c.below-left.ensures
          c.of_u64-unbounded.result c.of_u64-unbounded.ensures _ _ c.reach-cost.ensures;
      chosen = λ J F.
          ending a.tariff.now a.v a.n c.requires c.blank-start.result c.blank-start.ensures c.below-left.result c.below-left.ensures
          c.of_u64-unbounded.result c.of_u64-unbounded.ensures _ _ c.reach-cost.ensures J F;
    }
