use Rattle.std.proofs.Common.{arith}
use Rattle.std.proofs.lemmas.List.{length-take}
use Rattle.file_columns.proofs.Leads.{read_none, read_small, read_more, no_room, past_end, no_field, no-last-digit, whole-field}
use Rattle.file_columns.proofs.read_field.Goals as goal

pub returns-in_err-get : goal.returns-in_err-get
returns-in_err-get c = let s = c.args in rw c.from_residual.ensures (past_end s.bytes.now s.at (omega (arith, c.in_err-get.ensures.lookup.0)))

pub returns-in_err-field : goal.returns-in_err-field
returns-in_err-field c =
    let s = c.args in
    rw c.from_residual-in_err-field.ensures
    (no_room s.bytes.now _ s.at c.in_ok-get.ensures.lookup.0.2 (omega (arith, c.in_err-field.ensures.lookup.0)))

pub loop-byte-init : goal.loop-byte-init
loop-byte-init c = read_none _

pub next_column-requires : goal.next_column-requires
next_column-requires c = read_small c.loop-byte.invariant

pub returns-in_err-value : goal.returns-in_err-value
returns-in_err-value c =
    let s = c.args in
    let field = c.in_ok-field.ensures.lookup.0 in
    rw c.from_residual-in_err-value.ensures
    (no_field s.bytes.now _ _ s.at c.in_ok-get.ensures.lookup.0.2 field.2 field.1 c.loop-byte.value c.loop-byte.byte-index c.next_column.result (omega (arith, field.3, length-take 13 c.in_ok-field.field.now))
    c.loop-byte.invariant c.next_column.ensures c.in_err-value.was)

pub loop-byte-preserved : goal.loop-byte-preserved
loop-byte-preserved c =
    let s = c.args in
    let field = c.in_ok-field.ensures.lookup.0 in
    read_more s.bytes.now _ _ s.at c.in_ok-get.ensures.lookup.0.2 field.2 field.1 c.loop-byte.value c.loop-byte.byte-index _ c.next_column.result (omega (arith, field.3, length-take 13 c.in_ok-field.field.now))
    c.loop-byte.invariant c.next_column.ensures c.in_ok-value.was

pub overflow_mul-result : goal.overflow_mul-result
overflow_mul-result c = omega (arith, read_small c.loop-byte.invariant)

pub overflow_add-result : goal.overflow_add-result
overflow_add-result c = omega (arith, read_small c.loop-byte.invariant)

pub returns-in-48-to-57 : goal.returns-in-48-to-57
returns-in-48-to-57 c =
    let s = c.args in
    let field = c.in_ok-field.ensures.lookup.0 in
    whole-field s.bytes.now _ _ s.at c.in_ok-get.ensures.lookup.0.2 field.2 field.1 c.loop-byte.value c.loop-byte.byte-index (omega (arith, field.3, length-take 13 c.in_ok-field.field.now))
    c.loop-byte.invariant (omega arith) (omega arith)

pub returns-in_default : goal.returns-in_default
returns-in_default c =
    let s = c.args in
    let field = c.in_ok-field.ensures.lookup.0 in
    no-last-digit s.bytes.now _ _ s.at c.in_ok-get.ensures.lookup.0.2 field.2 field.1 (λ low. omega arith)

pub returns-in_default-2 : goal.returns-in_default-2
returns-in_default-2 c =
    let s = c.args in
    let field = c.in_ok-field.ensures.lookup.0 in
    no-last-digit s.bytes.now _ _ s.at c.in_ok-get.ensures.lookup.0.2 field.2 field.1 (λ low. omega arith)
