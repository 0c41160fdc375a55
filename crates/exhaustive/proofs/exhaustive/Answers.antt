use Rattle.exhaustive.proofs.Outcome.{arrangeable, chosen-sizes, chosen}
use Rattle.exhaustive.proofs.exhaustive.Goals as goal

pub rearrange-walk-requires : goal.rearrange-walk-requires
rearrange-walk-requires c =
    let a = c.args in
    arrangeable a.v a.n c.requires.0 c.requires.1 _ c.full-plan.ensures

pub returns : goal.returns
returns c =
    let a = c.args in
    let r = c.rearrange-walk in
    record {
      sizes = chosen-sizes a.v a.n c.requires.0 c.requires.1 _ c.full-plan.ensures a.tariff.now _ r.result r.ensures;
      chosen = chosen a.v a.n c.requires.0 c.requires.1 _ c.full-plan.ensures a.tariff.now _ r.result r.ensures;
    }
