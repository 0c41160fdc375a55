use Rattle.two_opt_inter.proofs.Rows.{written-turned}
use Rattle.two_opt_inter.proofs.write_turned.Goals as goal

pub returns-then-reversed : goal.returns-then-reversed
returns-then-reversed c =
    let a = c.args in
    written-turned a.row.now c.paste_reversed.new.to a.route.now c.if-reversed.true c.paste_reversed.ensures.to_after

pub returns : goal.returns
returns c =
    let a = c.args in
    written-turned a.row.now c.paste.new.to a.route.now c.if-reversed.false c.paste.ensures.to_after
