use Rattle.pruned.proofs.Preferring.{cheaper, dearer, tied}
use Rattle.pruned.proofs.prefers.Goals as goal

pub returns-then-cheaper : goal.returns-then-cheaper
returns-then-cheaper c = cheaper c.args.plan.now.n _ _ _ _ _ c.cheaper.ensures c.if-cheaper.true

pub returns-then-same : goal.returns-then-same
returns-then-same c =
    tied c.args.plan.now.n _ _ _ _ _ c.cheaper.ensures c.if-cheaper.false _ c.same.ensures c.if-same.true _ c.wins_tie.ensures

pub returns-else-same : goal.returns-else-same
returns-else-same c =
    dearer c.args.plan.now.n _ _ _ _ _ c.cheaper.ensures c.if-cheaper.false _ c.same.ensures c.if-same.false
