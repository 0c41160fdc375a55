use Prim.Native.Nat.{ℕ}
use mathlib.Core.Path.{sym, ap, subst, ◌∙◌}
use native.Mathlib.Omega.{arith}
use lib.ListN.{get_or}
use Rattle.model.specs.Whole.{whole}
use Rattle.model.specs.Plan.{Route}
use Rattle.model.specs.Legs.{depot}
use Rattle.model.specs.Cost.{price}
use Rattle.distance.specs.Ways.{table_legs, Drivable}
use Rattle.rebuild_words.specs.Gaps.{no_region}
use Rattle.rebuild_survey.proofs.Surveys.{turn as turn-of}
use Rattle.rebuild_arrange.proofs.Base.{left-none, left-more, left-all}
use Rattle.rebuild_arrange.proofs.base_of.Goals as goal

pub loop-region-init : goal.loop-region-init
loop-region-init c =
    left-none c.args.tariff.now c.args.plan.now c.args.regions.now c.requires.arrangeable c.args.cost c.requires.cost_value

pub route-route-requires : goal.route-route-requires
route-route-requires c =
    let a = c.args in
    let u = turn-of a.plan.now a.regions.now c.requires.arrangeable.gapped c.loop-region.region-index (omega arith) in
    u.known

pub route_length-length-requires : goal.route_length-length-requires
route_length-length-requires c =
    let a = c.args in
    let u = turn-of a.plan.now a.regions.now c.requires.arrangeable.gapped c.loop-region.region-index (omega arith) in
    (omega (arith, u.known, u.narrow), subst Drivable (sym c.route-route.ensures) u.drivable)

pub price-rest-requires : goal.price-rest-requires
price-rest-requires c = (omega (arith, c.route_length-length.ensures.small), c.args.tariff.now.affordable)

pub loop-region-preserved : goal.loop-region-preserved
loop-region-preserved c =
    let a = c.args in
    let l = c.loop-region in
    let k = (get_or a.regions.now l.region-index no_region).vehicle in
    let d = c.route_length-length.ensures.way ∙ ap (λ (r : Route). table_legs a.tariff.now.legs.table (depot k) r (depot k)) c.route-route.ensures in
    left-more a.tariff.now a.plan.now a.regions.now c.requires.arrangeable l.region-index l.rest l.invariant (omega arith)
    c.price-rest.result (c.price-rest.ensures ∙ ap (λ (x : ℕ). whole (price a.tariff.now.prices x)) d)

pub returns : goal.returns
returns c =
    let l = c.loop-region in
    left-all c.args.tariff.now c.args.plan.now c.args.regions.now c.requires.arrangeable l.region-index l.rest l.invariant
    (omega arith)
