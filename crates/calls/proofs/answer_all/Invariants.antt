-- Each turn prints at most 1,446 bytes, so that their sum is a machine number.
use Rattle.std.proofs.Common.{◌≡◌, ◌*◌, ◌≤◌, length}
use Rattle.calls.proofs.Turns.{Past}
use Rattle.calls.proofs.answer_all.Given as goal

abbrev pub invariant-loop-turn : goal.invariant-loop-turn
invariant-loop-turn g l =
    Past l.start l.stop l.initial.bytes l.bytes l.at l.end l.printed × (l.at ≤ l.end) × (l.end ≤ length l.bytes)
    × (length l.bytes ≡ length l.initial.bytes) × (length l.out ≡ length l.initial.out) × (l.printed ≤ 1446 * l._turn)
