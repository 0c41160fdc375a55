use native.Mathlib.Omega.{arith}
use Rattle.run_draws.proofs.Picks.{picks-one, picks-before, picks-after}
use Rattle.run_draws.proofs.pick.Goals as goal

pub returns-then-more-eq0 : goal.returns-then-more-eq0
returns-then-more-eq0 c =
    let a = c.args in
    picks-one a.near.now a.n a.draws.now a.place a.picks.now c.requires
    c.among-row.result c.among-i.result c.among-more.result c.among-row.ensures.0 c.among-row.ensures.1 c.among-i.ensures.0 c.among-i.ensures.1
    c.among-more.ensures.0 c.if-more-eq0.true

pub returns-then-j-i : goal.returns-then-j-i
returns-then-j-i c =
    let a = c.args in
    picks-before a.near.now a.n a.draws.now a.place a.picks.now c.requires
    c.among-row.result c.among-i.result c.among-more.result c.among-row.ensures.0 c.among-row.ensures.1 c.among-i.ensures.0 c.among-i.ensures.1
    c.among-more.ensures.0 c.among-j.result (λ e. omega arith) c.among-more.ensures.1 c.among-j.ensures.0 c.among-j.ensures.1 c.if-j-i.true

pub returns : goal.returns
returns c =
    let a = c.args in
    picks-after a.near.now a.n a.draws.now a.place a.picks.now c.requires
    c.among-row.result c.among-i.result c.among-more.result c.among-row.ensures.0 c.among-row.ensures.1 c.among-i.ensures.0 c.among-i.ensures.1
    c.among-more.ensures.0 c.among-j.result (λ e. omega arith) c.among-more.ensures.1 c.among-j.ensures.0 c.among-j.ensures.1 c.if-j-i.false
