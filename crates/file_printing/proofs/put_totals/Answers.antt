use Rattle.std.proofs.Common.{◌≡◌, ◌<◌, ◌^◌, Bool, true, false, cond, refl, lit<}
use mir.Val.{bool_byte}
use native.Mathlib.Omega.{arith}
use lib.ListN.{length-set}
use Rattle.file_printing.proofs.Pieces.{totals-printed}
use Rattle.file_printing.proofs.put_totals.Goals as goal

-- a test as a number
small : (b : Bool) → bool_byte b < 10 ^ 20
small true = lit< tt
small false = lit< tt

bit : (b : Bool) → bool_byte b ≡ cond b 1 0
bit true = refl
bit false = refl

pub shape_of-out : goal.shape_of-out
shape_of-out c = simp length-set (omega arith)

pub returns : goal.returns
returns c =
    let start = c.to_whole in
    let end = c.to_whole-2 in
    totals-printed c.args.t _ _ _ _ _ _ c.args.at start.result end.result _ c.requires.at_in_bounds
    (omega (arith, start.type_inv)) (omega (arith, end.type_inv)) (omega arith) (omega arith) (small c.args.t.settled)
    start.ensures.0 end.ensures.0 (bit c.args.t.settled)
    c.put_number.ensures
    c.put_number-2.ensures
    c.put_number-3.ensures
    c.put_number-4.ensures
    c.put_number-5.ensures
