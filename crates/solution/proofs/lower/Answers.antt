use Rattle.std.proofs.Common.{◌∙◌}
use Rattle.solution.proofs.Walks.{lower-cmp}
use Rattle.solution.proofs.lower.Goals as goal

pub returns : goal.returns
returns c = c.lt.ensures ∙ lower-cmp c.args.a.now c.args.b.now c.requires
