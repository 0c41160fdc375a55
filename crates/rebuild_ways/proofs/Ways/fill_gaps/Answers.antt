use Rattle.std.proofs.Common.{refl, arith}
use Rattle.rebuild_ways.proofs.Gaps.{closable, own-exact, vacant-exact, gaps-more}
use Rattle.rebuild_ways.proofs.Ways.fill_gaps.Goals as goal

pub closed-vacant-requires-clause-whole : goal.closed-vacant-requires-clause-whole
closed-vacant-requires-clause-whole c =
    closable c.args.gaps.now c.args.p c.args.self.now c.requires c.loop-q.q c.loop-q-test.true c.loop-q.self c.loop-q.invariant

pub invariant_of-self-clause-whole_own : goal.invariant_of-self-clause-whole_own
invariant_of-self-clause-whole_own c =
    own-exact c.args.gaps.now c.args.p c.args.self.now c.requires c.loop-q.q c.loop-q-test.true c.loop-q.self c.loop-q.invariant

pub invariant_of-self-clause-whole_vacant : goal.invariant_of-self-clause-whole_vacant
invariant_of-self-clause-whole_vacant c =
    vacant-exact c.args.gaps.now c.args.p c.args.self.now c.requires c.loop-q.q c.loop-q-test.true c.loop-q.self c.loop-q.invariant
    c.closed-vacant.result c.closed-vacant.ensures

pub loop-q-preserved : goal.loop-q-preserved
loop-q-preserved c =
    gaps-more c.args.gaps.now c.args.p c.args.self.now c.requires c.loop-q.q c.loop-q-test.true c.loop-q.self c.loop-q.invariant
    c.closed-vacant.result c.closed-vacant.ensures (omega (arith, c.requires.few)) (omega (arith, c.requires.few)) _ refl refl refl refl refl
