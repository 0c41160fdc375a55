use native.Mathlib.Omega.{arith}
use lib.ListN.{take, length-take}
use Rattle.rebuild.proofs.Outcome.{arrangeable, leaves}
use Rattle.rebuild.proofs.rebuild.Goals as goal

pub rearrange-requires : goal.rearrange-requires
rearrange-requires c =
    let r = c.regions_of-p in
    arrangeable c.args.plan.now c.args.picks.now (take r.result r.new.out) r.ensures.out_after
    (omega (arith, length-take r.result r.new.out, r.ensures.upper_bound, c.requires))

pub returns : goal.returns
returns c =
    let r = c.regions_of-p in
    leaves c.args.plan.now c.args.picks.now (take r.result r.new.out) r.ensures.out_after c.args.tariff.now _ c.rearrange.result c.rearrange.ensures
