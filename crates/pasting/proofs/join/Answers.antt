use native.Mathlib.Omega.{arith}
use Rattle.pasting.proofs.Put.{joined}
use Rattle.pasting.proofs.join.Goals as goal

pub returns : goal.returns
returns c =
    let q = c.paste in
    let a = c.args in
    let parts = joined a.to.now c.paste-end.new.to q.new.to a.head.now a.tail.now a.at c.paste-end.result q.result (omega arith)
    c.paste-end.ensures.value c.paste-end.ensures.to_after q.ensures.value q.ensures.to_after in record { value = parts.0; to_after = parts.1 }
