use mathlib.Core.List.{◌++◌}
use lib.ListN.{length-append}
use Rattle.pasting.proofs.Put.{around-two}
use native.Mathlib.Omega.{arith}
use Rattle.joining.proofs.write_around_two.Goals as goal

pub returns : goal.returns
returns c =
    let a = c.args in
    let l₁ = length-append a.front.now a.first.now in
    let l₂ = length-append a.between.now a.second.now in
    around-two a.area.now c.join-at.new.to c.join-end.new.to c.finish.new.area (a.front.now ++ a.first.now)
    (a.between.now ++ a.second.now) a.back.now c.join-at.result c.join-end.result (omega arith) (omega arith) (omega arith)
    c.join-at.ensures.to_after c.join-end.ensures.to_after c.finish.ensures
