use mathlib.Core.Path.{refl}
use mathlib.Core.List.{List}
use lib.ListN.{length}
use Rattle.rebuild_survey.specs.declared.Gap.{Gap}
use Rattle.rebuild_arrange.proofs.Tables.{starts-near, ends-near, fillable, tells}
use Rattle.rebuild_arrange.proofs.table_ways.Goals as goal
use Rattle.rebuild_arrange.proofs.table_ways.Goals.{After-survey}

abbrev gaps : After-survey → List Gap
gaps c = c.survey.new.gaps

pub ends_of-starts-requires : goal.ends_of-starts-requires
ends_of-starts-requires c =
    starts-near c.args.tariff.now c.args.plan.now c.args.regions.now c.args.frame.now c.args.cost c.requires
    (gaps (goal.at.ends_of-starts-requires c).After-survey) c.survey.ensures.surveyed c.survey.ensures.unsurveyed

pub ends_of-ends-requires : goal.ends_of-ends-requires
ends_of-ends-requires c =
    ends-near c.args.tariff.now c.args.plan.now c.args.regions.now c.args.frame.now c.args.cost c.requires
    (gaps (goal.at.ends_of-ends-requires c).After-survey) c.survey.ensures.surveyed c.survey.ensures.unsurveyed

pub filled-requires : goal.filled-requires
filled-requires c =
    fillable c.args.tariff.now c.args.plan.now c.args.regions.now c.args.frame.now c.args.cost c.requires
    (gaps (goal.at.filled-requires c).After-survey) c.survey.ensures.surveyed c.survey.ensures.unsurveyed c.ends_of-starts.result c.ends_of-ends.result c.ends_of-starts.ensures c.ends_of-ends.ensures
    c.base_of-base.result c.base_of-base.ensures (length c.args.regions.now) refl

pub returns : goal.returns
returns c =
    tells c.args.tariff.now c.args.plan.now c.args.regions.now c.args.frame.now c.args.cost c.requires
    (gaps (goal.at.returns c).After-survey) c.survey.ensures.surveyed c.survey.ensures.unsurveyed c.ends_of-starts.result c.ends_of-ends.result c.ends_of-starts.ensures c.ends_of-ends.ensures
    c.base_of-base.result c.base_of-base.ensures (length c.args.regions.now) refl c.filled.result c.filled.ensures
