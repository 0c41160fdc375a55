use Rattle.std.proofs.Common.{rules, ◌≡◌, Err}
use Rattle.model.specs.Numbers.{refused}
use mathlib.Core.Path.{refl, ap, ◌∙◌}
use Rattle.call_refusals.specs.Order.{of_road}
use Rattle.call_tests.proofs.Laws.{said}
use Rattle.call_refusals.proofs.Order.{said-first, passed_first, taken, left}
use Rattle.call_refusals.proofs.of_road.Goals as goal

pub returns-then-bad_road : goal.returns-then-bad_road
unfolding of_road
returns-then-bad_road c = taken _ _ 6 _ c.bad_road.ensures c.if-bad_road.true

pub returns-in_err-of_entries : goal.returns-in_err-of_entries
unfolding of_road
returns-in_err-of_entries c =
    let e : c.from_residual.result ≡ Err c.in_err-of_entries.field-0.0 = search rules in ap refused e ∙ left _ _ 6 _ _ c.bad_road.ensures c.if-bad_road.false (said-first _ _ _ c.in_err-of_entries.ensures)

pub bad_entry-requires : goal.bad_entry-requires
bad_entry-requires c =
    (c.requires, said c.bad_road.ensures c.if-bad_road.false)

pub returns-then-bad_entry : goal.returns-then-bad_entry
unfolding of_road
returns-then-bad_entry c =
    left _ _ 6 _ _ c.bad_road.ensures c.if-bad_road.false
    (passed_first _ _ _ c.in_ok-of_entries.ensures (taken _ _ 7 0 c.bad_entry.ensures c.if-bad_entry.true))

pub returns-else-bad_entry : goal.returns-else-bad_entry
unfolding of_road
returns-else-bad_entry c =
    left _ _ 6 _ _ c.bad_road.ensures c.if-bad_road.false
    (passed_first _ _ _ c.in_ok-of_entries.ensures (left _ _ 7 0 0 c.bad_entry.ensures c.if-bad_entry.false refl))
