use Rattle.sheet_head.specs.Numbered.{number_of_call}
use Rattle.sheet_head.proofs.Heads.{plan-some, plan-none}
use Rattle.sheet_head.proofs.check_plan.Goals as goal

pub returns-then-has_plan : goal.returns-then-has_plan
returns-then-has_plan c =
    let f = c.has_plan in
    let s = c.args in
    plan-some (number_of_call s.call) s.bytes.now s.at _ f.result f.ensures c.if-has_plan.true c.check_list.ensures

pub returns : goal.returns
returns c =
    let f = c.has_plan in
    let s = c.args in
    plan-none (number_of_call s.call) s.bytes.now s.at f.result f.ensures c.if-has_plan.false
