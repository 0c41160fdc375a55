use lib.ListN.{drop}
use Rattle.model.specs.Lists.{pairs}
use Rattle.two_opt.proofs.Turns.{none_yet, none_left, row_more, done}
use Rattle.two_opt.proofs.all_pairs.Goals as goal

pub loop-i-init : goal.loop-i-init
loop-i-init c =
    let a = c.args in
    none_yet a.tariff.now a.plan.now (pairs a.stops.now)

pub loop-i-preserved : goal.loop-i-preserved
loop-i-preserved c =
    let e = c.pairs_of.ensures in
    row_more c.args.stops.now c.loop-i.i c.pairs_of.new.plan c.loop-i.invariant c.requires c.loop-i-test.true e.plan_after e.sizes

pub returns : goal.returns
returns c =
    let so = c.loop-i.invariant in
    record {
      plan_after = done (pairs (drop c.loop-i.i c.args.stops.now)) so (none_left c.args.stops.now c.loop-i.i c.loop-i-test.false);
      sizes = (so.vehicles, so.stops);
    }
