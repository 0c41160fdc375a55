use Rattle.std.proofs.Common.{sym, ◌∙◌}
use Rattle.sheet_head.specs.Numbered.{number_of_call}
use Rattle.sheet_head.proofs.Heads.{given-some, given-none}
use Rattle.sheet_head.proofs.check_given.Goals as goal

pub returns-then-most-eq0 : goal.returns-then-most-eq0
returns-then-most-eq0 c = given-none (number_of_call c.args.call) _ _ (sym c.given_counts-least.ensures.1 ∙ c.if-most-eq0.true)

pub returns : goal.returns
returns c =
    let counts = c.given_counts-least.ensures in
    given-some (number_of_call c.args.call) _ _ _ (λ z. c.if-most-eq0.false (counts.1 ∙ z))
    (rw (counts.0, counts.1) at c.check_list.ensures)
