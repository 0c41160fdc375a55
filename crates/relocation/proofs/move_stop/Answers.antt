use mathlib.Core.Path.{sym, ◌∙◌}
use native.Mathlib.Omega.{arith}
use Rattle.model.specs.Vans.{moved}
use Rattle.solution.specs.Held.{routes, Becomes}
use Rattle.joining.proofs.Leaving.{Leaves, found}
use Rattle.relocation.proofs.Apart.{apart-stored}
use Rattle.relocation.proofs.Moves.{puttable, missing-now, put, out-already, its-van, from-van, from-unplaced}
use Rattle.relocation.proofs.move_stop.Goals as goal
use Rattle.relocation.proofs.move_stop.Goals.{After-insert, After-insert-in-None, In-Some}

there : (c : In-Some) → Leaves c.args.m.stop (routes c.args.plan.now) c.in-Some.found.vehicle c.in-Some.found.position
there c = found c.args.m.stop (routes c.args.plan.now) c.args.plan.now.lent.once _ (sym c.in-Some.is ∙ c.find.ensures)

into : (c : After-insert) → Becomes c.args.plan.now c.insert.new.plan (moved c.args.m (routes c.args.plan.now))
into c = put c.requires c.remove.new.plan c.remove.ensures c.insert.new.plan c.insert.ensures

-- the stop was unplaced
into-2 : (c : After-insert-in-None)
    → Becomes c.args.plan.now c.insert-in-None.new.plan (moved c.args.m (routes c.args.plan.now))
into-2 c =
    put c.requires c.args.plan.now (out-already c.requires (sym c.in-None.is ∙ c.find.ensures)) c.insert-in-None.new.plan c.insert-in-None.ensures

pub both_cost-old-requires : goal.both_cost-old-requires
both_cost-old-requires c =
    (its-van c.requires _ _ (there (goal.at.both_cost-old-requires c).In-Some), c.requires.van)

pub insert-requires-clause-place : goal.insert-requires-clause-place
insert-requires-clause-place c = puttable c.requires c.remove.new.plan c.remove.ensures

pub insert-requires-clause-stop : goal.insert-requires-clause-stop
insert-requires-clause-stop c = missing-now c.requires c.remove.new.plan c.remove.ensures

pub both_cost-new-requires : goal.both_cost-new-requires
both_cost-new-requires c =
    let same = (into (goal.at.both_cost-new-requires c).After-insert).vehicles in
    rw same (its-van c.requires _ _ (there (goal.at.both_cost-new-requires c).In-Some), c.requires.van)

pub insert-requires-in-None-clause-place : goal.insert-requires-in-None-clause-place
insert-requires-in-None-clause-place c = puttable c.requires c.args.plan.now (out-already c.requires (sym c.in-None.is ∙ c.find.ensures))

pub returns-in-Some-clause-plan_after : goal.returns-in-Some-clause-plan_after
returns-in-Some-clause-plan_after c = into (goal.at.returns-in-Some-clause-plan_after c).After-insert

pub returns-in-Some-clause-changes : goal.returns-in-Some-clause-changes
returns-in-Some-clause-changes c =
    let after = c.both_cost-new in
    let before = c.both_cost-old in
    from-van c.requires c.args.tariff.now _ _ (there (goal.at.returns-in-Some-clause-changes c).In-Some) c.insert.new.plan
    (into (goal.at.returns-in-Some-clause-changes c).After-insert) before.result after.result before.ensures.0 after.ensures.0 _
    (apart-stored after.result before.result c.change.result (omega (arith, after.ensures.1)) (omega (arith, before.ensures.1)) c.change.ensures)

pub returns-in-None-clause-plan_after : goal.returns-in-None-clause-plan_after
returns-in-None-clause-plan_after c = into-2 (goal.at.returns-in-None-clause-plan_after c).After-insert-in-None

pub returns-in-None-clause-changes : goal.returns-in-None-clause-changes
returns-in-None-clause-changes c =
    let after = c.route_cost-new in
    let before = c.route_cost-old in
    from-unplaced c.requires c.args.tariff.now (sym c.in-None.is ∙ c.find.ensures) c.insert-in-None.new.plan
    (into-2 (goal.at.returns-in-None-clause-changes c).After-insert-in-None) before.result after.result before.ensures.0 after.ensures.0 _
    (apart-stored after.result _ c.change-in-None.result (omega (arith, after.ensures.1)) (omega (arith, before.ensures.1, c.args.tariff.now.affordable.missed))
    c.change-in-None.ensures)
