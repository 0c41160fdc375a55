use Rattle.std.proofs.Common.{◌≡◌, ℕ, true, false, Option, Some, None, is_some, refl, arith}
use Rattle.file_lines.proofs.Checks.{field-within}
use Rattle.sheet_head.proofs.Lists.{goes_on, ends}
use Rattle.sheet_head.proofs.count_fields.Goals as goal

none : (f : Option ℕ) → is_some f ≡ false → f ≡ None
none None e = refl
none (Some n) e = let z : ◌≡◌ {A = ℕ} 0 1 = cc in absurd (omega arith)

some : (f : Option ℕ) → is_some f ≡ true → (n : ℕ) × (f ≡ Some n)
some None e = let z : ◌≡◌ {A = ℕ} 0 1 = cc in absurd (omega arith)
some (Some n) e = (n, refl)

pub loop-i-init : goal.loop-i-init
loop-i-init c = (omega arith, λ ns h. omega arith)

pub returns-then-is_none : goal.returns-then-is_none
returns-then-is_none c =
    let read = c.read_field in
    let inv = c.loop-i.invariant in
    record { few = omega arith; count = λ ns h. ends _ _ _ _ read.result inv.0 read.ensures (none read.result c.if-is_none.ensures) ns h (inv.1 ns h) }

pub overflow_add-next : goal.overflow_add-next
overflow_add-next c =
    let read = c.read_field in
    omega (arith, field-within c.args.bytes.now _ _ read.result read.ensures (some read.result c.if-is_none.ensures).1)

pub loop-i-preserved : goal.loop-i-preserved
loop-i-preserved c =
    let read = c.read_field in
    let inv = c.loop-i.invariant in
    (omega arith, λ ns h. goes_on _ _ _ _ _ read.result inv.0 read.ensures (some read.result c.if-is_none.ensures).1 ns h (inv.1 ns h))

pub returns : goal.returns
returns c =
    let inv = c.loop-i.invariant in
    record { few = omega arith; count = λ ns h. omega (arith, inv.1 ns h, h.few) }
