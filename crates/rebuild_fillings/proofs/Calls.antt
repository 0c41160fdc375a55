-- How often the walk is called in each gap.
use Prim.Native.Nat.{ℕ, zero, suc, ◌+◌, ◌-◌, ◌*◌, ◌≤◌, ◌<◌}
use native.Mathlib.Nat.{mul-zero}
use native.Mathlib.Omega.{arith}
use native.Mathlib.Decide.{dec_lt, ℕ_discrete}
use mathlib.Core.Path.{◌≡◌, refl}
use mathlib.Core.Bool.{cond}
use lib.Dec.{eqb}
use borrow.Author.Tests.{lt-ltb, le-ltb, eq-eqb, ne_eqb}
use Rattle.model.specs.Rebuild.{arrangement_count}
use Rattle.model.proofs.Fillings.{count_small}
use Rattle.rebuild_fillings.specs.Walk.{call_count}

-- ---- the number by a rule on numbers

pub no-stops : (g : ℕ) → arrangement_count g 0 ≡ 1
no-stops zero = refl
no-stops (suc g) = refl

-- nothing in the first gap, or one of m stops first
pub count-step : (g m : ℕ) → arrangement_count (suc g) m ≡ arrangement_count g m + m * arrangement_count (suc g) (m - 1)
count-step g zero = rw (no-stops g) (omega arith)
count-step g (suc m) = let e : suc m - 1 ≡ m = omega arith in rw e

-- no call in a gap before
pub call_count-before : (r q m : ℕ) → r < q → call_count r q m ≡ 0
unfolding call_count
call_count-before r q m h = rw (lt-ltb r q h)

pub call_count-on : (r q m : ℕ) → q ≤ r → call_count r q m ≡ arrangement_count (suc r - q) m
unfolding call_count
call_count-on r q m h = rw (le-ltb r q h)

-- the call itself, the next gap, and each of the m stops left
pub call_count-step : (r q m : ℕ) → call_count r q m ≡ cond (eqb q r) 1 0 + (call_count r (suc q) m + m * call_count r q (m - 1))
call_count-step r q m = go (dec_lt r q) (ℕ_discrete q r)
  where
    go : Dec (r < q) → Dec (q ≡ r) → call_count r q m ≡ cond (eqb q r) 1 0 + (call_count r (suc q) m + m * call_count r q (m - 1))
    go (yes h) d =
        rw (call_count-before r q m h, call_count-before r q (m - 1) h, ne_eqb q r (λ e. omega arith), call_count-before r (suc q) m (omega arith), mul-zero)
        (omega arith)
    go (no h) (yes e) =
        let k : q ≤ r = omega arith in
        let a : suc r - q ≡ 1 = omega arith in
        rw (call_count-on r q m k, call_count-on r q (m - 1) k, eq-eqb q r e, call_count-before r (suc q) m (omega arith), a)
        (omega (arith, count-step 0 m))
    go (no h) (no f) =
        let k : q ≤ r = omega arith in
        let i : suc q ≤ r = omega arith in
        let a : suc r - q ≡ suc (suc r - suc q) = omega arith in
        rw (call_count-on r q m k, call_count-on r q (m - 1) k, ne_eqb q r f, call_count-on r (suc q) m i, a)
        (omega (arith, count-step (suc r - suc q) m))

-- at most three gaps and seven stops: a small number
pub call_count-small : (r q m : ℕ) → r ≤ 2 → m ≤ 7 → call_count r q m ≤ 390454
call_count-small r q m hr hm = go (dec_lt r q)
  where
    go : Dec (r < q) → call_count r q m ≤ 390454
    go (yes h) = rw (call_count-before r q m h) (omega arith)
    go (no h) = rw (call_count-on r q m (omega arith)) (count_small (suc r - q) m (omega arith) hm)
