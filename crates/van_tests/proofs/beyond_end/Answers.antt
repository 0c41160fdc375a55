use Rattle.van_tests.proofs.Laws.{end_after, end-as-it-is}
use Rattle.van_tests.proofs.beyond_end.Goals as goal

pub returns-then-position-route : goal.returns-then-position-route
returns-then-position-route c = end_after _ _ _ c.route-route.ensures _ c.position.ensures c.if-position-route.true

pub returns : goal.returns
returns c = end-as-it-is _ _ _ c.route-route.ensures _ c.position.ensures c.if-position-route.false
