use Rattle.std.proofs.Common.{rules, arith}
use Rattle.calls.proofs.Turns.{answered, left-within, refused, done}
use Rattle.calls.proofs.answer_all.Goals as goal

pub returns-in-Refused : goal.returns-in-Refused
returns-in-Refused g c =
    refused _ _ _ _ _ _ _ _ c.loop-turn.invariant.0 (search rules) _ _ c.turn.result c.turn.ensures _ c.in-Refused.is

pub loop-turn-preserved : goal.loop-turn-preserved
loop-turn-preserved g c =
    let inv = c.loop-turn.invariant in
    let past = answered _ _ _ _ _ _ _ _ inv.0 (search rules) _ _ c.turn.result c.turn.ensures _ _ _ c.in-Answered.is in
    let left = left-within _ _ _ _ _ _ _ _ inv.0 (search rules) _ _ c.turn.result c.turn.ensures _ _ _ c.in-Answered.is in
    (past, left.0, omega (arith, left.1), omega arith, omega arith, omega (arith, inv.4, left.2))

pub returns-in-Done : goal.returns-in-Done
returns-in-Done g c =
    done _ _ _ _ _ _ _ _ c.loop-turn.invariant.0 (search rules) _ _ c.turn.result c.turn.ensures c.in-Done.is
