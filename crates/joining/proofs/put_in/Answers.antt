use Prim.Native.Nat.{◌+◌}
use native.Mathlib.Omega.{arith}
use Rattle.joining.proofs.Places.{Reached, reached, put-form}
use Rattle.joining.proofs.put_in.Goals as goal
use Rattle.joining.proofs.put_in.Goals.{After-offset}

found : (c : After-offset) → Reached c.args.v c.args.n c.args.plan.now c.args.k c.args.i (c.offset.result + c.args.i)
found c =
    reached c.args.v c.args.n c.args.plan.now c.requires.sizes.1 c.args.k c.args.i (c.offset.result + c.args.i) c.requires.k_lt_v.0 c.requires.k_lt_v.1 (omega arith)

pub overflow_add-at : goal.overflow_add-at
overflow_add-at c = omega (arith, found (goal.at.overflow_add-at c).After-offset)

pub offset_bounds-plan-at : goal.offset_bounds-plan-at
offset_bounds-plan-at c = omega (arith, found (goal.at.offset_bounds-plan-at c).After-offset)

pub slice_bounds-shift_in-count : goal.slice_bounds-shift_in-count
slice_bounds-shift_in-count c = omega (arith, found (goal.at.slice_bounds-shift_in-count c).After-offset)

pub slice_bounds-shift_in-start : goal.slice_bounds-shift_in-start
slice_bounds-shift_in-start c = omega (arith, found (goal.at.slice_bounds-shift_in-start c).After-offset)

pub overflow_add-plan : goal.overflow_add-plan
overflow_add-plan c =
    let here = found (goal.at.overflow_add-plan c).After-offset in
    omega (arith, here, here.kept c.shift_in.new.part)

pub returns : goal.returns
returns c =
    put-form c.args.v c.args.n c.args.plan.now c.requires.sizes.1 c.args.k c.args.i (c.offset.result + c.args.i) c.requires.k_lt_v.0 c.requires.k_lt_v.1 (omega arith)
    c.shift_in.new.part c.args.stop c.requires.k_lt_v.2 c.shift_in.ensures
