use native.Mathlib.Omega.{arith}
use Rattle.arrival.proofs.Arrivals.{missing, as-many, arrives, arrives-at, kept, placed_at}
use Rattle.arrival.proofs.arrive.Goals as goal

pub insert-requires-clause-place : goal.insert-requires-clause-place
insert-requires-clause-place c =
    let there = c.best_place-best.ensures.place _ c.in-Some.is in (omega (arith, there.vehicle, as-many c.requires), there.position)

pub insert-requires-clause-stop : goal.insert-requires-clause-stop
insert-requires-clause-stop c = (c.requires.below, missing c.requires)

pub returns-in-Some-clause-plan_after : goal.returns-in-Some-clause-plan_after
returns-in-Some-clause-plan_after c J f =
    let b = c.best_place-best in
    arrives c.requires c.args.tariff.now J f b.result b.ensures _ (placed_at c.args.plan.now c.insert.new.plan _ _ _ c.in-Some.is c.insert.ensures)

pub returns-in-Some-clause-value : goal.returns-in-Some-clause-value
returns-in-Some-clause-value c J f = arrives-at c.requires c.args.tariff.now J f c.best_place-best.result c.best_place-best.ensures

pub returns-in_default-clause-plan_after : goal.returns-in_default-clause-plan_after
returns-in_default-clause-plan_after c J f =
    let b = c.best_place-best in
    arrives c.requires c.args.tariff.now J f b.result b.ensures _ (kept _ _ _ c.in_default.is)

pub returns-in_default-clause-value : goal.returns-in_default-clause-value
returns-in_default-clause-value c J f = arrives-at c.requires c.args.tariff.now J f c.best_place-best.result c.best_place-best.ensures
