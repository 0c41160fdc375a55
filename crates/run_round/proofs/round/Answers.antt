use mathlib.Core.Path.{refl}
use native.Mathlib.Omega.{arith}
use lib.ListN.{length-take}
use Rattle.run_round.proofs.Steps.{part-row, part-picks, row-lent, rounded}
use Rattle.run_round.proofs.round.Goals as goal

pub pass-requires : goal.pass-requires
pass-requires c =
    let a = c.args in row-lent a.tariff.now a.plan.now.n a.near.now a.settings.now c.requires.course c.among-row.result c.among-row.ensures.1

pub pick-k-requires : goal.pick-k-requires
pick-k-requires c =
    let k = c.requires.course in
    record {
      several = k.several;
      few = c.args.plan.now.sizes.stops;
      long = k.long;
      legs = c.args.tariff.now.legs.table;
      rows = k.rows;
      some = k.some;
      early = omega (arith, c.requires.standing);
      room = refl;
    }

pub rebuild-walk-requires : goal.rebuild-walk-requires
rebuild-walk-requires c = simp length-take (omega (arith, c.pick-k.ensures.at_most))

pub counted-requires : goal.counted-requires
counted-requires c =
    let stands = c.requires.standing.0 in
    record {
      smooth = c.requires.course.smooth;
      few = c.pick-k.ensures.at_most;
      more = c.requires.standing.1;
      counted = stands.counted;
      early = stands.early;
    }

pub returns : goal.returns
returns c =
    let k = c.pick-k in
    let x = c.among-row in
    let a = c.args in
    rounded a.tariff.now a.near.now a.settings.now a.plan.now c.requires.course
    _ _ _ _ _ _ x.result _ _ a.p _ c.requires.standing.0 x.ensures.0 x.ensures.1 (part-row x.result a.plan.now.n a.near.now) c.pass.ensures.plan_after c.pass.ensures.sizes
    k.ensures (part-picks k.result k.new.picks) c.rebuild-walk.ensures c.counted.ensures
