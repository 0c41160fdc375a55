use Rattle.std.proofs.Common.{rules, ◌<◌}
use Rattle.std.specs.Prelude.{All, IsTrue, ◌↔◌}
use Rattle.call_tests.proofs.Laws.{all-below-said}
use Rattle.call_tests.proofs.all_below.Goals as goal

pub returns : goal.returns
returns c =
    let h : IsTrue c.all.result ↔ All (λ x. x < c.args.limit) c.args.list.now = search rules in
    all-below-said _ _ _ h
