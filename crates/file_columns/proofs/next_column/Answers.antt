-- A space, a digit, or a byte that leads to no number.
use native.Mathlib.Omega.{arith}
use Rattle.file_columns.proofs.Leads.{space-column, digit-column, no-column}
use Rattle.file_columns.proofs.next_column.Goals as goal

pub returns-in-32 : goal.returns-in-32
returns-in-32 c = space-column _ _ c.if-value-eq0.true c.in-32.is

pub returns-then-next-eq0 : goal.returns-then-next-eq0
returns-then-next-eq0 c = no-column _ _ (λ b. omega arith) (λ low high. omega arith)

pub returns-else-next-eq0 : goal.returns-else-next-eq0
returns-else-next-eq0 c = digit-column _ _ (omega arith) (omega arith) (omega arith)

pub returns-in_default : goal.returns-in_default
returns-in_default c = no-column _ _ (λ b. omega arith) (λ low high. omega arith)

pub returns-in_default-2 : goal.returns-in_default-2
returns-in_default-2 c = no-column _ _ (λ b. omega arith) (λ low high. omega arith)

pub returns-in_default-3 : goal.returns-in_default-3
returns-in_default-3 c = no-column _ _ (λ b. omega arith) (λ low high. omega arith)
