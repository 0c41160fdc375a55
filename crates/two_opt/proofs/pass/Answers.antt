-- The list is cut to ten stops where it has more.
use Rattle.model.proofs.Counts.{once-take}
use Rattle.two_opt.proofs.Turns.{ten, first-ten}
use Rattle.two_opt.proofs.pass.Goals as goal

pub all_pairs-requires : goal.all_pairs-requires
all_pairs-requires c = once-take c.args.near.now c.requires c.min-few.result

pub returns : goal.returns
returns c =
    let a = c.args in
    let e = c.all_pairs.ensures in
    let l = first-ten a.tariff.now a.plan.now a.near.now _ c.min-few.result c.min-few.ensures e.plan_after in
    record { plan_after = ten a.tariff.now a.plan.now a.near.now _ l; sizes = e.sizes; plan_after_2 = l }
