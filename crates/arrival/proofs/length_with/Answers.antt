use Prim.Native.Nat.{◌+◌}
use mathlib.Core.Path.{◌≡◌}
use native.Mathlib.Omega.{arith}
use Rattle.model.specs.Legs.{depot}
use Rattle.model.specs.Live.{put_in}
use Rattle.distance.specs.Ways.{table_legs}
use Rattle.arrival.proofs.Ways.{old-small, new-small, inserted}
use Rattle.arrival.proofs.length_with.Goals as goal
use Rattle.arrival.proofs.length_with.Goals.{After-leg-3}

-- the legs that come and the one that goes
joined : (c : After-leg-3)
    → let a = c.args in
    table_legs a.legs.now.table (depot a.k) (put_in a.place a.stop a.route.now) (depot a.k) + c.leg-3.result
    ≡ a.length + c.leg.result + c.leg-2.result
joined c =
    omega (
      arith,
      inserted c.args.legs.now.lengths c.requires c.comes_from-from.result c.goes_to-to.result c.comes_from-from.ensures.0 c.goes_to-to.ensures.0,
      c.leg.ensures.0,
      c.leg-2.ensures.0,
      c.leg-3.ensures.0,
    )

pub overflow_add-result : goal.overflow_add-result
overflow_add-result c = omega (arith, old-small c.args.legs.now.lengths c.requires)

pub overflow_add-result-2 : goal.overflow_add-result-2
overflow_add-result-2 c = omega (arith, old-small c.args.legs.now.lengths c.requires)

pub overflow_sub-result : goal.overflow_sub-result
overflow_sub-result c = omega (arith, joined (goal.at.overflow_sub-result c).After-leg-3)

pub returns : goal.returns
returns c =
    (omega (arith, joined (goal.at.returns c).After-leg-3), omega (arith, joined (goal.at.returns c).After-leg-3, new-small c.args.legs.now.lengths c.requires))
