-- The sum has all but the empty gaps from q on.
use Rattle.rebuild_arrange.proofs.Others.{Adding}
use Rattle.rebuild_arrange.proofs.others_of.Given as goal

abbrev pub invariant-loop-q : goal.invariant-loop-q
invariant-loop-q l = Adding l.ways l.p l.m l.q l.sum
