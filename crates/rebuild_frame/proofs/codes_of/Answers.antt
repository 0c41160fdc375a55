use Prim.Native.Nat.{◌+◌, ◌-◌, ◌<◌}
use native.Mathlib.Omega.{arith}
use lib.ListN.{get_or, set}
use Rattle.rebuild_words.specs.Words.{code}
use Rattle.rebuild_frame.proofs.Codes.{digit_at, read_same, read_none, read_all, read-gap, read-zero, read_known, read-room, read-stop}
use Rattle.rebuild_frame.proofs.codes_of.Goals as goal
use Rattle.rebuild_frame.proofs.codes_of.Goals.{Then-digit-ne0, then-digit-ge8, else-digit-ge8+then-digit-ne0, else-digit-ge8+else-digit-ne0}

small : (c : Then-digit-ne0) → get_or c.args.frame.now.listed (digit_at c.args.word c.loop-i.i) 0 < 64
small c =
    let l = c.loop-i in
    read_known c.args.frame.now c.args.word c.requires.0 l.i l.m l.gap l.codes l.invariant
    c.loop-i-test.true c.if-digit-ge8.false c.if-digit-ne0.true

room : (c : Then-digit-ne0) → c.loop-i.m < 7
room c =
    let l = c.loop-i in
    read-room c.args.frame.now c.args.word c.requires.0 l.i l.m l.gap l.codes l.invariant
    c.loop-i-test.true c.if-digit-ge8.false c.if-digit-ne0.true

pub loop-i-init : goal.loop-i-init
loop-i-init c = read_none c.args.frame.now c.args.word c.requires.0 c.args.codes.now c.requires.1

pub overflow_sub-gap : goal.overflow_sub-gap
overflow_sub-gap c = c.if-digit-ge8.true

pub overflow_mul-codes : goal.overflow_mul-codes
overflow_mul-codes c = omega (arith, c.loop-i.invariant.low)

pub overflow_add-codes : goal.overflow_add-codes
overflow_add-codes c = omega (arith, small (goal.at.overflow_add-codes c).Then-digit-ne0, c.loop-i.invariant.low)

pub offset_bounds-codes-m : goal.offset_bounds-codes-m
offset_bounds-codes-m c = omega (arith, room (goal.at.offset_bounds-codes-m c).Then-digit-ne0)

pub bounds-codes-m : goal.bounds-codes-m
bounds-codes-m c = room (goal.at.bounds-codes-m c).Then-digit-ne0

pub overflow_add-m : goal.overflow_add-m
overflow_add-m c = omega (arith, room (goal.at.overflow_add-m c).Then-digit-ne0)

pub loop-i-preserved : goal.loop-i-preserved
loop-i-preserved c =
    let l = c.loop-i in
    let f = c.args.frame.now in
    let w = c.args.word in
    let d = digit_at w l.i in
    let h = c.loop-i-test.true in
    elim c.if-digit-ge8.branch [
      | then-digit-ge8 j ↦
          read_same f w (l.i + 1) l.m (d - 8) l.codes
          (read-gap f w c.requires.0 l.i l.m l.gap l.codes l.invariant h j.if-digit-ge8.true) _ _ _
          j.codes-is j.m-is j.gap-is
      | else-digit-ge8+then-digit-ne0 j ↦
          read_same f w (l.i + 1) (l.m + 1) l.gap (set l.codes l.m (code l.gap (get_or f.listed d 0)))
          (read-stop f w c.requires.0 l.i l.m l.gap l.codes l.invariant h j.if-digit-ge8.false j.if-digit-ne0.true) _ _ _
          j.codes-is j.m-is j.gap-is
      | else-digit-ge8+else-digit-ne0 j ↦
          read_same f w (l.i + 1) l.m l.gap l.codes
          (read-zero f w c.requires.0 l.i l.m l.gap l.codes l.invariant h j.if-digit-ne0.false) _ _ _
          j.codes-is j.m-is j.gap-is
    ]

pub returns : goal.returns
returns c =
    let l = c.loop-i in (
      read_all c.args.frame.now c.args.word c.requires.0 l.i l.m l.gap l.codes l.invariant (omega arith),
      omega (arith, l.invariant.few, l.invariant.long),
    )
