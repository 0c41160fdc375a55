use Rattle.std.proofs.Common.{arith}
use Rattle.calls.proofs.Turns.{still, turn-done, turn-answered, turn-refused}
use Rattle.calls.proofs.turn.Goals as goal

pub returns-then-from-to : goal.returns-then-from-to
returns-then-from-to g c = turn-done _ _ _ _ c.more.result c.more.ensures _ _ c.in-Some.is _ c.if-from-to.true

pub returns-in-Answered : goal.returns-in-Answered
returns-in-Answered g c =
    turn-answered _ _ _ _ c.more.result c.more.ensures _ _ c.in-Some.is _ _ c.answer_sheet.result c.answer_sheet.ensures _ _ c.in-Answered.is

pub returns-in-Bad : goal.returns-in-Bad
returns-in-Bad g c =
    let t = still _ _ _ _ c.more.result c.more.ensures _ _ c.in-Some.is in
    turn-refused _ _ _ _ c.more.result c.more.ensures _ _ c.in-Some.is _ _ c.answer_sheet.result c.answer_sheet.ensures _ c.in-Bad.is
    (omega (arith, t.order, c.if-from-to.false))
