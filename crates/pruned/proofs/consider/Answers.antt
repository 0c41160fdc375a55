use Rattle.pruned.proofs.Preferring.{kept_new, kept-old}
use Rattle.pruned.proofs.consider.Goals as goal

pub returns-then-prefers : goal.returns-then-prefers
returns-then-prefers c =
    let a = c.args in
    kept_new a.plan.now a.cost a.best.now a.least c.prefers.result c.prefers.ensures c.if-prefers.true

pub returns : goal.returns
returns c =
    let a = c.args in
    kept-old a.plan.now a.cost a.best.now a.least c.prefers.result c.prefers.ensures c.if-prefers.false
