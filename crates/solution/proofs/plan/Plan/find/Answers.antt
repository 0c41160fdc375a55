use native.Mathlib.Omega.{arith}
use borrow.Author.Count.{below_more}
use Rattle.model.specs.Plan.{Lent}
use Rattle.solution.proofs.Locate.{nowhere, found, passed}
use Rattle.solution.proofs.plan.Plan.find.Goals as goal
use Rattle.solution.proofs.plan.Plan.find.Goals.{After-form-form}

lent : (c : After-form-form) → Lent c.args.self.now.v c.args.self.now.n c.form-form.result.now
lent c = rw c.form-form.ensures c.args.self.now.lent

pub returns-then-at-size : goal.returns-then-at-size
returns-then-at-size c =
    let p = c.args.self.now in
    rw c.form-form.ensures at
    (found p.v p.n c.form-form.result.now (lent (goal.at.returns-then-at-size c).After-form-form) c.args.stop c.loop-k.k c.loop-k.at (omega arith)
    c.loop-k.invariant.0 (omega arith))

pub loop-k-preserved : goal.loop-k-preserved
loop-k-preserved c =
    let p = c.args.self.now in
    let next =
    passed p.v p.n c.form-form.result.now (lent (goal.at.loop-k-preserved c).After-form-form) c.args.stop c.loop-k.k c.loop-k.at (omega arith)
    c.loop-k.invariant.0 (omega arith)
    in
    (next.1, below_more _ _ c.loop-k.invariant.1 next.0)

pub returns : goal.returns
returns c =
    let p = c.args.self.now in
    rw c.form-form.ensures at
    (nowhere p.v p.n c.form-form.result.now (lent (goal.at.returns c).After-form-form) c.args.stop c.loop-k.k c.loop-k-test.false c.loop-k.invariant.1)
