use Prim.Native.Nat.{◌+◌}
use lib.ListN.{length-take, length-drop}
use native.Mathlib.Omega.{arith}
use Rattle.joining.proofs.Places.{Reached, reached, out-form}
use Rattle.joining.proofs.take_out.Goals as goal
use Rattle.joining.proofs.take_out.Goals.{After-offset}

found : (c : After-offset) → Reached c.args.v c.args.n c.args.plan.now c.args.k c.args.i (c.offset.result + c.args.i)
found c =
    reached c.args.v c.args.n c.args.plan.now c.requires.sizes.1 c.args.k c.args.i (c.offset.result + c.args.i) c.requires.k_lt_v.0 (omega (arith, c.requires.k_lt_v.1)) (omega arith)

pub overflow_add-at : goal.overflow_add-at
overflow_add-at c = omega (arith, found (goal.at.overflow_add-at c).After-offset)

pub offset_bounds-plan-at : goal.offset_bounds-plan-at
offset_bounds-plan-at c = omega (arith, found (goal.at.offset_bounds-plan-at c).After-offset)

pub slice_bounds-shift_out-count : goal.slice_bounds-shift_out-count
slice_bounds-shift_out-count c = omega (arith, found (goal.at.slice_bounds-shift_out-count c).After-offset)

pub slice_bounds-shift_out-start : goal.slice_bounds-shift_out-start
slice_bounds-shift_out-start c = omega (arith, found (goal.at.slice_bounds-shift_out-start c).After-offset)

pub shift_out-requires : goal.shift_out-requires
shift_out-requires c = simp (length-take, length-drop) (omega (arith, found (goal.at.shift_out-requires c).After-offset))

pub overflow_sub-plan : goal.overflow_sub-plan
overflow_sub-plan c =
    let here = found (goal.at.overflow_sub-plan c).After-offset in
    omega (arith, here, here.kept c.shift_out.new.part)

pub returns : goal.returns
returns c =
    out-form c.args.v c.args.n c.args.plan.now c.requires.sizes.1 c.args.k c.args.i (c.offset.result + c.args.i) c.requires.k_lt_v.0 (omega (arith, c.requires.k_lt_v.1)) (omega arith)
    c.shift_out.new.part c.requires.k_lt_v.1 c.shift_out.ensures
