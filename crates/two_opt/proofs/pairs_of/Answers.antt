use lib.ListN.{get_or}
use Rattle.two_opt.specs.Pairs.{pairs_of}
use Rattle.two_opt.proofs.Turns.{none_yet, with-end, later, later-apart, one_more, done}
use Rattle.two_opt.proofs.pairs_of.Goals as goal

pub loop-t-init : goal.loop-t-init
loop-t-init c =
    let a = c.args in
    rw (later a.stops.now a.i) (none_yet a.tariff.now a.plan.now (pairs_of a.i a.stops.now))

pub pair-requires : goal.pair-requires
pair-requires c = later-apart c.args.stops.now c.args.i c.loop-t.t-index c.requires.0 c.loop-t-test.true

pub loop-t-preserved : goal.loop-t-preserved
loop-t-preserved c =
    let a = c.args in
    let e = c.pair.ensures in
    one_more (get_or a.stops.now a.i 0) _ c.loop-t.t-index c.pair.new.plan c.loop-t.invariant c.loop-t-test.true
    (later-apart a.stops.now a.i c.loop-t.t-index c.requires.0 c.loop-t-test.true) e.plan_after e.sizes

pub returns : goal.returns
returns c =
    let so = c.loop-t.invariant in
    record {
      plan_after = done _ so (with-end _ _ c.loop-t.t-index c.loop-t-test.false);
      sizes = (so.vehicles, so.stops);
    }
