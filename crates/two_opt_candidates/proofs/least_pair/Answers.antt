use mathlib.Core.Path.{◌∙◌}
use Rattle.two_opt_candidates.proofs.Sides.{first-there, second-there, two-routes, all_found}
use Rattle.two_opt_candidates.proofs.least_pair.Goals as goal

pub cut_at-x-requires : goal.cut_at-x-requires
cut_at-x-requires c = (c.requires.first, c.requires.second, c.requires.first_row, first-there c.requires c.position-i.result c.position-i.ensures)

pub cut_at-y-requires : goal.cut_at-y-requires
cut_at-y-requires c = (c.requires.first, c.requires.second, c.requires.second_row, second-there c.requires c.position-j.result c.position-j.ensures)

pub least_of_cuts-requires : goal.least_of_cuts-requires
least_of_cuts-requires c =
    two-routes c.requires _ c.position-i.ensures c.position-j.ensures c.cut_at-x.ensures c.cut_at-y.ensures c.args.tariff.now.legs.lengths

pub returns : goal.returns
returns c =
    c.least_of_cuts.ensures ∙ all_found c.requires _ c.position-i.ensures c.position-j.ensures c.cut_at-x.ensures c.cut_at-y.ensures c.args.tariff.now.prices
