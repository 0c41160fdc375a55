use mathlib.Core.Path.{◌∙◌}
use mir.Syntax.{w64}
use mir.ValLaws.{to_z-of_z}
use Rattle.relocation.proofs.Apart.{minus-bits, minus-fits}
use Rattle.relocation.proofs.change.Goals as goal

pub overflow_sub-result : goal.overflow_sub-result
overflow_sub-result c = minus-fits c.args.new c.args.old c.requires.0 c.requires.1

pub returns : goal.returns
returns c =
    to_z-of_z w64 _ (minus-fits c.args.new c.args.old c.requires.0 c.requires.1) ∙ minus-bits c.args.new c.args.old c.requires.0 c.requires.1
