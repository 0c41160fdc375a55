use mathlib.Core.Path.{ap}
use Prim.Native.Nat.{ℕ, ◌%◌}
use native.Mathlib.Nat.{mod-lt}
use Rattle.run_draws.proofs.among.Goals as goal

pub returns : goal.returns
returns c =
    let m = c.args.m in
    (ap (λ (x : ℕ). x % m) c.drawn.ensures, mod-lt c.drawn.result c.requires.1)
