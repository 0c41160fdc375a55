use mathlib.Core.Path.{ap, ◌∙◌}
use mathlib.Core.Bool.{true, false}
use Rattle.model.specs.TwoOpt.{ends_exchanged, inverted}
use lib.ListN.{replicate}
use Rattle.two_opt_intra.proofs.Choice.{first_alike, second_alike, Front, front, weighable-front, weighs-front, Weights, chosen}
use Rattle.two_opt_intra.proofs.reorder.Goals as goal
use Rattle.two_opt_intra.proofs.reorder.Goals.{After-second-2-1, After-weigh-old, then-b-a, else-b-a}

-- the candidates stand at the front of their arrays
first : (c : After-second-2-1) → let a = c.args in
    Front a.route.now (ends_exchanged a.i a.j a.route.now) c.ends_exchanged.new.out
first c =
    let a = c.args in
    front a.route.now (ends_exchanged a.i a.j a.route.now) (replicate 64 0) _ c.ends_exchanged.ensures
    (first_alike a.i a.j a.route.now c.requires.i_lt_j.0)

second : (c : After-second-2-1) → let a = c.args in
    Front a.route.now (inverted a.i a.j a.route.now) c.inverted.new.out
second c =
    let a = c.args in
    front a.route.now (inverted a.i a.j a.route.now) (replicate 64 0) _ c.inverted.ensures
    (second_alike a.i a.j a.route.now c.requires.i_lt_j.0)

-- what the three routes cost
weights : (c : After-weigh-old) → let a = c.args in
    Weights a.tariff.now.legs.table a.tariff.now.prices a.vehicle a.i a.j a.route.now
    c.weigh-a.result c.weigh-b.result c.weigh-old.result
weights c =
    record {
      first = weighs-front (first (goal.at.After-weigh-old c).After-second-2-1) c.weigh-a.ensures;
      second = weighs-front (second (goal.at.After-weigh-old c).After-second-2-1) c.weigh-b.ensures;
      old = c.weigh-old.ensures;
    }

pub weigh-a-requires : goal.weigh-a-requires
weigh-a-requires c = weighable-front (first (goal.at.weigh-a-requires c).After-second-2-1) c.requires.weighable

pub weigh-b-requires : goal.weigh-b-requires
weigh-b-requires c = weighable-front (second (goal.at.weigh-b-requires c).After-second-2-1) c.requires.weighable

pub returns-then-old-cost : goal.returns-then-old-cost
returns-then-old-cost c =
    let W = weights (goal.at.returns-then-old-cost c).After-weigh-old in
    elim c.if-b-a.branch [
      | then-b-a w ↦ chosen W true true w.if-b-a.true (rw (ap (λ x. x.1) w.cost-is) at c.if-old-cost.true)
      | else-b-a w ↦ chosen W false true w.if-b-a.false (rw (ap (λ x. x.1) w.cost-is) at c.if-old-cost.true)
    ]

pub returns : goal.returns
returns c =
    let W = weights (goal.at.returns c).After-weigh-old in
    let e = c.copy_from_slice.ensures.after in
    elim c.if-b-a.branch [
      | then-b-a w ↦ e ∙ ap (λ x. x.0.now) w.cost-is ∙ (second (goal.at.returns c).After-second-2-1).stands
          ∙ chosen W true false w.if-b-a.true (rw (ap (λ x. x.1) w.cost-is) at c.if-old-cost.false)
      | else-b-a w ↦ e ∙ ap (λ x. x.0.now) w.cost-is ∙ (first (goal.at.returns c).After-second-2-1).stands
          ∙ chosen W false false w.if-b-a.false (rw (ap (λ x. x.1) w.cost-is) at c.if-old-cost.false)
    ]
