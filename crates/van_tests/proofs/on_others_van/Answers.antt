use mathlib.Core.Path.{sym, ◌∙◌}
use native.Mathlib.Omega.{arith}
use Rattle.model.proofs.PlanForm.{lent_length}
use Rattle.solution.specs.Held.{numbers_of, routes}
use Rattle.van_tests.proofs.Laws.{van-of, others, nobodys}
use Rattle.van_tests.proofs.on_others_van.Goals as goal

pub holds-requires : goal.holds-requires
holds-requires c =
    let p = c.args.plan.now in
    let k = van-of c.args.vans c.args.stop (routes p) _ (sym c.in-Some.is ∙ c.find.ensures) in
    omega (arith, k, lent_length p.v p.n (numbers_of p) p.lent, p.sizes.vehicles)

pub returns-in-Some : goal.returns-in-Some
returns-in-Some c =
    let a = c.args in
    others a.vans a.stop (routes a.plan.now) _ (sym c.in-Some.is ∙ c.find.ensures) _ c.holds.ensures

pub returns-in-None : goal.returns-in-None
returns-in-None c =
    let a = c.args in
    nobodys a.vans a.stop (routes a.plan.now) (sym c.in-None.is ∙ c.find.ensures)
