use Rattle.two_opt_cuts.proofs.with_stop.Goals as goal

pub returns : goal.returns
returns c a b xs E = (c.onward-first.ensures a xs E.0, c.onward-second.ensures b xs E.1)
