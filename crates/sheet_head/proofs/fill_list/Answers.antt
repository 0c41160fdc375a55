use native.Mathlib.Omega.{arith}
use Rattle.sheet_head.proofs.Lists.{fillable, laid, laid_none}
use Rattle.sheet_head.proofs.fill_list.Goals as goal

pub returns-then-count-eq0 : goal.returns-then-count-eq0
returns-then-count-eq0 c = let s = c.args in laid_none s.bytes.now s.at s.count s.list.now c.if-count-eq0.true

pub fill_lines-requires : goal.fill_lines-requires
fill_lines-requires c = fillable _ _ _ _ c.requires (omega arith)

pub returns : goal.returns
returns c =
    let s = c.args in
    laid s.bytes.now s.at s.count s.list.now _ (omega arith) c.fill_lines.ensures
