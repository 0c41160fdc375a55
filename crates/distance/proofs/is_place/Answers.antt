use borrow.Author.Tests.{lt-ltb, le-ltb, le-leb, lt-leb}
use Rattle.distance.proofs.is_place.Goals as goal

pub returns-then-place-n : goal.returns-then-place-n
returns-then-place-n c = simp (lt-ltb _ _ c.if-place-n.true)

pub returns-then-place-ge64 : goal.returns-then-place-ge64
returns-then-place-ge64 c = simp (le-ltb _ _ c.if-place-n.false, le-leb _ _ c.if-place-ge64.true)

pub returns-else-place-ge64 : goal.returns-else-place-ge64
returns-else-place-ge64 c = simp (le-ltb _ _ c.if-place-n.false, lt-leb _ _ c.if-place-ge64.false)
