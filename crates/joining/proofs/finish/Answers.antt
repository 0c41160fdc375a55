use Rattle.pasting.proofs.Put.{finished}
use Rattle.joining.proofs.finish.Goals as goal

pub returns : goal.returns
returns c =
    finished c.args.area.now c.paste-end.new.to c.args.last.now c.fill.new.to c.args.at c.paste-end.result c.requires
    c.paste-end.ensures.value c.paste-end.ensures.to_after c.fill.ensures
