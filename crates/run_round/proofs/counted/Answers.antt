use mathlib.Core.Path.{refl, ap}
use Prim.Native.Nat.{ℕ, ◌+◌}
use native.Mathlib.Omega.{arith}
use Rattle.run_round.proofs.counted.Goals as goal

pub returns : goal.returns
returns c =
    let old = c.args.p in
    let one = c.improves in
    record {
      cost = refl;
      rounds = refl;
      place = refl;
      one = omega (arith, one.ensures.0);
      is =
          λ m k M K p q.
          (c.after_round-averages.ensures.numbers m k M K p q, ap (λ (x : ℕ). old.improving + x) (one.ensures.1 m k M K p q));
    }
