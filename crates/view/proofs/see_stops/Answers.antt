use mathlib.Core.Path.{sym, ◌∙◌}
use Rattle.model.proofs.PlanForm.{lent_length, lent_placed}
use Rattle.solution.specs.Held.{numbers_of, routes}
use Rattle.view.proofs.Seeing.{stops-none, stops-room, stops-own, stops-other, stops-all}
use Rattle.view.proofs.see_stops.Goals as goal
use Rattle.view.proofs.see_stops.Goals.{then-contains, else-contains}

pub loop-k-init : goal.loop-k-init
loop-k-init c =
    let p = c.args.plan.now in
    stops-none p.v p.n (routes p) c.args.vans c.args.area.now c.requires

pub paste-at-requires : goal.paste-at-requires
paste-at-requires c =
    let p = c.args.plan.now in
    stops-room p.v p.n (routes p) (lent_length p.v p.n (numbers_of p) p.lent) (lent_placed p.v p.n (numbers_of p) p.lent) c.args.vans c.loop-k.k c.loop-k.at c.loop-k.area
    c.loop-k.invariant c.loop-k-test.true c.route.result.now c.route.ensures

pub loop-k-preserved : goal.loop-k-preserved
loop-k-preserved c =
    let p = c.args.plan.now in
    let l = lent_length p.v p.n (numbers_of p) p.lent in
    let few = lent_placed p.v p.n (numbers_of p) p.lent in
    elim c.if-contains.branch [
      | then-contains w ↦ stops-own p.v p.n (routes p) l few c.args.vans c.loop-k.k c.loop-k.at c.loop-k.area c.loop-k.invariant c.loop-k-test.true w.route.result.now w.route.ensures
          c.if-contains.at c.if-contains.area (sym c.contains.ensures ∙ w.if-contains.true) (w.at-is ∙ w.paste-at.ensures.value) (w.area-is ∙ w.paste-at.ensures.to_after)
      | else-contains w ↦ stops-other p.v p.n (routes p) l few c.args.vans c.loop-k.k c.loop-k.at c.loop-k.area c.loop-k.invariant c.loop-k-test.true
          c.if-contains.at c.if-contains.area (sym c.contains.ensures ∙ w.if-contains.false) w.at-is w.area-is
    ]

pub returns : goal.returns
returns c =
    let p = c.args.plan.now in
    stops-all p.v p.n (routes p) (lent_length p.v p.n (numbers_of p) p.lent) (lent_placed p.v p.n (numbers_of p) p.lent) c.args.vans c.loop-k.k c.loop-k.at c.loop-k.area
    c.loop-k.invariant c.loop-k-test.false c.fill.new.to c.fill.ensures
