use Rattle.std.proofs.Common.{arith}
use Rattle.file_lines.proofs.Fills.{number-within, filled_more}
use Rattle.file_lines.proofs.fill_lines.Goals as goal

pub overflow_mul-i : goal.overflow_mul-i
overflow_mul-i c = omega (arith, number-within _ _ _ _ _ c.requires.there c.loop-i-test.true)

pub overflow_add-i : goal.overflow_add-i
overflow_add-i c = omega (arith, number-within _ _ _ _ _ c.requires.there c.loop-i-test.true)

pub overflow_add-at : goal.overflow_add-at
overflow_add-at c = omega (arith, number-within _ _ _ _ _ c.requires.there c.loop-i-test.true)

pub loop-i-preserved : goal.loop-i-preserved
loop-i-preserved c =
    filled_more _ _ _ _ _ _ _ _ (omega arith) c.loop-i-test.true c.loop-i.invariant c.number_at.ensures
