use native.Mathlib.Nat.{mod-lt}
use native.Mathlib.Omega.{arith}
use Rattle.run_draws.proofs.drawn.Goals as goal

pub offset_bounds-draws-place : goal.offset_bounds-draws-place
offset_bounds-draws-place c = omega (arith, mod-lt c.args.place c.requires)

pub bounds-draws-place : goal.bounds-draws-place
bounds-draws-place c = omega (arith, mod-lt c.args.place c.requires)
