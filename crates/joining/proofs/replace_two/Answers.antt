use mathlib.Core.Path.{◌≡◌, sym}
use Rattle.solution.specs.Held.{routes}
use Rattle.model.specs.TwoOpt.{set_route}
use Rattle.model.proofs.Lists.{change-comm}
use native.Mathlib.Omega.{arith}
use Rattle.joining.proofs.replace_two.Goals as goal
use Rattle.joining.proofs.replace_two.Goals.{Start}

-- which route is replaced first makes no difference
exchanged : (s : Start) → let a = s.args in let P = routes a.old.now in
    set_route a.b a.second.now (set_route a.a a.first.now P) ≡ set_route a.a a.first.now (set_route a.b a.second.now P)
exchanged s =
    let a = s.args in
    change-comm a.b a.a (λ _. a.second.now) (λ _. a.first.now) (routes a.old.now) (λ e. s.requires.a_lt_v.2 (sym e))

pub replace_in_order-requires : goal.replace_in_order-requires
replace_in_order-requires c =
    record { len = c.requires.len; a_lt_b = (omega arith, c.requires.a_lt_v.1); bound = c.requires.bound }

pub replace_in_order-requires-else-a-b : goal.replace_in_order-requires-else-a-b
replace_in_order-requires-else-a-b c =
    record { len = c.requires.len; a_lt_b = (omega arith, c.requires.a_lt_v.0); bound = rw (exchanged (goal.at.replace_in_order-requires-else-a-b c).Start) at c.requires.bound }

pub returns-then-a-b : goal.returns-then-a-b
returns-then-a-b c = c.replace_in_order.ensures

pub returns-else-a-b : goal.returns-else-a-b
returns-else-a-b c =
    rw (exchanged (goal.at.returns-else-a-b c).Start) c.replace_in_order-else-a-b.ensures
