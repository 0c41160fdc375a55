use native.Mathlib.Omega.{arith}
use Rattle.rebuild_arrange.proofs.Others.{adding-none, adding-more, adding-all}
use Rattle.rebuild_arrange.proofs.others_of.Goals as goal

pub loop-q-init : goal.loop-q-init
loop-q-init c =
    adding-none c.args.tariff.now c.args.ways.now c.args.p c.args.m c.requires c.base.result c.missed_cost.result c.base.ensures c.missed_cost.ensures

pub loop-q-preserved : goal.loop-q-preserved
loop-q-preserved c =
    let l = c.loop-q in
    adding-more c.args.tariff.now c.args.ways.now c.args.p c.args.m c.requires l.q l.sum l.invariant c.loop-q-test.true c.vacant-sum.result c.vacant-sum.ensures

pub returns : goal.returns
returns c =
    let l = c.loop-q in
    adding-all c.args.tariff.now c.args.ways.now c.args.p c.args.m c.requires l.q l.sum l.invariant (omega arith)
