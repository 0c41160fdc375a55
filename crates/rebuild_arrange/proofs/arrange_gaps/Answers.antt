use Prim.Native.Nat.{ℕ, ◌-◌}
use mathlib.Core.Path.{refl, ap, ◌∙◌}
use lib.ListN.{get_or}
use Rattle.rebuild_tables.specs.declared.frame.Frame.{Frame}
use Rattle.rebuild_tables.specs.Frame.{Framing}
use Rattle.rebuild_arrange.proofs.Arranging.{addable, visitable, visited-arranged}
use Rattle.rebuild_arrange.proofs.arrange_gaps.Goals as goal
use Rattle.rebuild_arrange.proofs.arrange_gaps.Goals.{After-fill-own}

abbrev frame : After-fill-own → Frame
frame c = c.fill-own.result.frame

abbrev framing : (c : After-fill-own) → Framing c.args.plan.now c.args.regions.now (frame c)
framing c = c.fill-own.ensures.framing

pub fill-own-requires : goal.fill-own-requires
fill-own-requires c = (c.requires.arrangeable.0.gapped, c.requires.arrangeable.1, c.requires.arrangeable.0.few)

pub table_ways-ways-requires : goal.table_ways-ways-requires
table_ways-ways-requires c =
    record { plan = c.requires.arrangeable.0; framing = framing (goal.at.table_ways-ways-requires c).After-fill-own; near = c.fill-own.ensures.stops_small; cost = c.requires.cost_value }

pub others_of-others-requires : goal.others_of-others-requires
others_of-others-requires c =
    let a = c.args in
    addable a.tariff.now a.plan.now a.regions.now c.requires.arrangeable.0 (frame (goal.at.others_of-others-requires c).After-fill-own) (framing (goal.at.others_of-others-requires c).After-fill-own) c.table_ways-ways.result c.table_ways-ways.ensures
    c.gaps-p.result c.gaps-p.ensures c.drained.result c.drained.ensures

pub visit-found-requires : goal.visit-found-requires
visit-found-requires c =
    let a = c.args in
    visitable a.tariff.now a.plan.now a.regions.now c.requires.arrangeable.0 (frame (goal.at.visit-found-requires c).After-fill-own) (framing (goal.at.visit-found-requires c).After-fill-own) c.table_ways-ways.result c.table_ways-ways.ensures
    c.new-kept.result (c.new-kept.ensures.word ∙ c.fill-own.ensures.value) (c.new-kept.ensures.placed ∙ c.placed.ensures) c.new-kept.ensures.uncalled a.cost c.requires.cost_value c.others_of-others.result c.gaps-p.result c.drained.result
    c.gaps-p.ensures c.drained.ensures c.others_of-others.ensures

pub returns : goal.returns
returns c =
    let a = c.args in
    visited-arranged a.tariff.now a.plan.now a.regions.now c.requires.arrangeable.0 (frame (goal.at.returns c).After-fill-own) (framing (goal.at.returns c).After-fill-own) c.table_ways-ways.result c.table_ways-ways.ensures
    c.new-kept.result (c.new-kept.ensures.word ∙ c.fill-own.ensures.value) (c.new-kept.ensures.placed ∙ c.placed.ensures) c.new-kept.ensures.uncalled a.cost c.requires.cost_value c.others_of-others.result c.gaps-p.result c.drained.result
    c.gaps-p.ensures c.drained.ensures c.others_of-others.ensures c.visit-found.new.kept c.visit-found.result c.visit-found.ensures _ c.plan_of.ensures _ refl refl
    (ap (λ (g : ℕ). get_or c.visit-found.new.kept.calls (g - 1) 0) c.gaps-p.ensures)
