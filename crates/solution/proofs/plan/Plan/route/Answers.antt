use Prim.Native.Nat.{ℕ, ◌+◌, ◌≤◌}
use native.Mathlib.Omega.{arith}
use mathlib.Core.Path.{◌≡◌, sym, ap, ◌∙◌}
use lib.ListN.{length, get_or, take}
use mathlib.Core.List.{List}
use Rattle.model.specs.Plan.{route_of, decode, Lent}
use Rattle.model.specs.Lists.{sum}
use Rattle.model.proofs.PlanForm.{route-part, route-end}
use Rattle.solution.proofs.plan.Plan.route.Goals as goal
use Rattle.solution.proofs.plan.Plan.route.Goals.{After-form-form}

lent : (c : After-form-form) → Lent c.args.self.now.v c.args.self.now.n c.form-form.result.now
lent c = rw c.form-form.ensures c.args.self.now.lent

-- the route ends within the plan
within : (c : After-form-form) → let F = c.form-form.result.now in
    (sum (take c.args.k F) + get_or F c.args.k 0 ≤ c.args.self.now.n) × (length F ≡ c.args.self.now.v + c.args.self.now.n)
within c =
    let p = c.args.self.now in
    let l = lent c in
    (route-end p.v p.n c.form-form.result.now l.long l.fits c.args.k c.requires, l.long)

pub overflow_cast-end : goal.overflow_cast-end
overflow_cast-end c = omega (arith, within (goal.at.overflow_cast-end c).After-form-form)

pub overflow_add-end : goal.overflow_add-end
overflow_add-end c = omega (arith, within (goal.at.overflow_add-end c).After-form-form)

pub offset_bounds-form-start : goal.offset_bounds-form-start
offset_bounds-form-start c = omega (arith, within (goal.at.offset_bounds-form-start c).After-form-form)

pub slice_bounds-result-end : goal.slice_bounds-result-end
slice_bounds-result-end c = omega (arith, within (goal.at.slice_bounds-result-end c).After-form-form)

pub returns : goal.returns
returns c =
    let p = c.args.self.now in
    sym (route-part p.v c.form-form.result.now (omega (arith, within (goal.at.returns c).After-form-form)) c.args.k c.offset-start.result c.requires c.offset-start.ensures)
    ∙ ap (λ (F : List ℕ). route_of (decode p.v F) c.args.k) c.form-form.ensures
