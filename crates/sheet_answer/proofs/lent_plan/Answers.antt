use Rattle.std.proofs.Common.{◌≡◌, ◌∙◌, sym, ap, false, cond}
use lib.ListN.{replicate}
use Rattle.std.proofs.lemmas.List.{take-replicate}
use Rattle.sheet_head.specs.Form.{has_plan}
use Rattle.sheet_head.specs.Numbered.{number_of_call}
use Rattle.sheet_head.specs.Reading.{plan_of}
use Rattle.sheet_answer.proofs.lent_plan.Goals as goal

pub returns-then-not-has_plan : goal.returns-then-not-has_plan
returns-then-not-has_plan c =
    let k = c.args.head.now in
    let none : has_plan (number_of_call k.call) ≡ false = sym c.has_plan.ensures ∙ c.if-not-has_plan.true in
    (c.requires, take-replicate c.args.whole 96 0 c.requires ∙ sym (ap (λ b. cond b (plan_of k) (replicate c.args.whole 0)) none))
