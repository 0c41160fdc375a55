use Rattle.std.proofs.Common.{arith}
use Rattle.calls.proofs.Turns.{read-on}
use Rattle.calls.proofs.more.Goals as goal

pub returns-in-Ok : goal.returns-in-Ok
returns-in-Ok g c =
    read-on c.args.at c.args.end _ c.args.bytes.now _ c.refill.result c.refill.ensures c.in-Ok.is c.requires.order (omega arith) c.requires.long
