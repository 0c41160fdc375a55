-- The lists that are copied into the frame and the counts make it the frame of the plan and its regions.
use mathlib.Core.Path.{refl, ap, ◌∙◌}
use mathlib.Core.List.{◌++◌}
use lib.ListN.{length, drop, replicate}
use Rattle.rebuild_words.specs.Gaps.{no_region}
use Rattle.rebuild_frame.proofs.Filled.{Parts, framed, regions-same, small-parts}
use Rattle.rebuild_frame.proofs.fill.Goals as goal
use Rattle.rebuild_frame.proofs.fill.Goals.{After-size}

parts : (c : After-size) → Parts c.args.plan.now c.args.regions.now c.size.result c.list_stops-listed.result.count (c.copy_from_slice.new.self ++ drop (length c.args.regions.now) (replicate 3 no_region)) c.list_stops-listed.new.stops
parts c =
    let l = c.list_stops-listed in
    record {
      on_routes = c.size.ensures.digits ∙ c.placed_set.ensures.size;
      off_routes = l.ensures.number;
      copied = ap (λ xs. xs ++ drop (length c.args.regions.now) (replicate 3 no_region)) c.copy_from_slice.ensures.after;
      holds = l.ensures.holds;
    }

pub invariant_of-frame : goal.invariant_of-frame
invariant_of-frame c =
    record { framed = framed c.args.plan.now c.args.regions.now c.requires.0 c.requires.2 (parts (goal.at.invariant_of-frame c).After-size) c.requires.1 }

pub returns : goal.returns
returns c =
    let a = c.args in
    record {
      framing = record { same = refl; spans = regions-same a.plan.now a.regions.now c.requires.0 c.requires.2 (parts (goal.at.returns c).After-size) };
      value = c.list_stops-listed.ensures.says;
      stops_small = small-parts a.plan.now a.regions.now c.requires.0 c.requires.2 (parts (goal.at.returns c).After-size);
    }
