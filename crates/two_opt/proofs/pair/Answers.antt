use mathlib.Core.Path.{refl, sym, ◌∙◌}
use Rattle.solution.specs.Held.{routes}
use Rattle.two_opt.proofs.Placed.{On, found, missing, first-missing, second-missing, on_one, on-two, one-route, two-routes, unchanged, the-pair}
use Rattle.two_opt.proofs.pair.Goals as goal
use Rattle.two_opt.proofs.pair.Goals.{In-Some, In-Some-find}

-- the first stop is on a route
first : (c : In-Some) → let a = c.args in On (routes a.plan.now) a.s c.in-Some.x.vehicle
first c = found c.args.s (routes c.args.plan.now) _ (sym c.in-Some.is ∙ c.find.ensures)

second : (c : In-Some-find) → let a = c.args in On (routes a.plan.now) a.t c.in-Some-find.y.vehicle
second c = found c.args.t (routes c.args.plan.now) _ (sym c.in-Some-find.is ∙ c.find-2.ensures)

pub returns-in_default : goal.returns-in_default
returns-in_default c =
    let a = c.args in
    let P = routes a.plan.now in
    record {
      plan_after = unchanged a.tariff.now a.plan.now a.s a.t (λ J. first-missing J P a.s a.t (missing a.s P (sym c.in_default.is ∙ c.find.ensures)));
      sizes = (refl, refl);
    }

pub returns-in_default-find : goal.returns-in_default-find
returns-in_default-find c =
    let a = c.args in
    let P = routes a.plan.now in
    record {
      plan_after = unchanged a.tariff.now a.plan.now a.s a.t (λ J. second-missing J P a.s a.t (missing a.t P (sym c.in_default-find.is ∙ c.find-2.ensures)));
      sizes = (refl, refl);
    }

pub intra-requires : goal.intra-requires
intra-requires c =
    one-route c.args.plan.now (first (goal.at.intra-requires c).In-Some) (second (goal.at.intra-requires c).In-Some-find) c.if-a-b.true c.requires

pub inter-requires : goal.inter-requires
inter-requires c =
    two-routes c.args.plan.now (first (goal.at.inter-requires c).In-Some) (second (goal.at.inter-requires c).In-Some-find) c.if-a-b.false

pub returns-then-a-b : goal.returns-then-a-b
returns-then-a-b c =
    let a = c.args in
    let A = first (goal.at.returns-then-a-b c).In-Some in
    let B = second (goal.at.returns-then-a-b c).In-Some-find in
    let e = c.intra.ensures in
    record {
      plan_after = the-pair a.tariff.now a.plan.now a.s a.t _ _ (λ J. on_one J (routes a.plan.now) a.s a.t A B c.if-a-b.true) e.plan_after;
      sizes = e.sizes;
    }

pub returns-else-a-b : goal.returns-else-a-b
returns-else-a-b c =
    let a = c.args in
    let A = first (goal.at.returns-else-a-b c).In-Some in
    let B = second (goal.at.returns-else-a-b c).In-Some-find in
    let e = c.inter.ensures in
    record {
      plan_after = the-pair a.tariff.now a.plan.now a.s a.t _ _ (λ J. on-two J (routes a.plan.now) a.s a.t A B c.if-a-b.false) e.plan_after;
      sizes = e.sizes;
    }
