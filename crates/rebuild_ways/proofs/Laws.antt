-- What is read of a table of ways.
use Rattle.std.proofs.Common.{◌≡◌, ℕ, zero, suc, replicate, ◌+◌, ◌≤◌, ◌<◌, List, [], ◌∷◌, length, get_or, refl, sym, ap, ap₂, ◌∙◌, arith}
use lib.Ieee.{Float, binary64, of_bits, add, mul, nan}
use Rattle.model.specs.declared.Prices.{Prices}
use Rattle.model.specs.Whole.{exact, whole, amount, IsWhole}
use Rattle.model.specs.Legs.{Affordable}
use Rattle.model.specs.Cost.{price}
use Rattle.whole.proofs.Laws.{amount-is, back_whole, whole-amount, zero-whole}
use Rattle.rebuild_ways.specs.Exact.{IsExact, Wholly}
use Rattle.rebuild_ways.specs.Ways.{cell_at}
use Rattle.delivery.proofs.Laws.{sum-exact, price-exact}

-- within a list it is the same whatever stands for what is past its end
pub inside : {A : Type 0} (xs : List A) (i : ℕ) (a b : A) → i < length xs → get_or xs i a ≡ get_or xs i b
inside [] i a b h = absurd (omega arith)
inside (x ∷ xs) zero a b h = refl
inside (x ∷ xs) (suc i) a b h = inside xs i a b (omega arith)

-- what is read of a cell is its number
pub read : (xs : List Float) → Wholly xs → (i : ℕ) → i < length xs → get_or xs i nan ≡ whole (cell_at xs i)
read xs W i h = inside xs i nan (whole 0) h ∙ (W i).1

-- a way one leg further
pub further : (x y : Float) (n : ℕ) → IsWhole x → y ≡ whole n → amount x + n ≤ exact → add binary64 x y ≡ whole (amount x + n)
further x y n X e h = ap₂ (add binary64) (sym (whole-amount x X)) e ∙ sum-exact (amount x) n h

-- what a length costs
pub priced : (p : Prices) → Affordable p → (d : ℕ) → d ≤ 16000000 → (x a b : Float) → x ≡ whole d → a ≡ whole p.linear
    → b ≡ whole p.quadratic → mul binary64 x (add binary64 a (mul binary64 x b)) ≡ whole (price p d)
priced p A d h x a b X L Q = rw (X, L, Q) (price-exact p A d h)

-- a whole number as a table keeps it
pub exact-whole : (n : ℕ) → n ≤ exact → IsExact (whole n)
exact-whole n h = let e = back_whole n h in (omega arith, ap whole (sym e))

pub exact-known : (x : Float) → IsWhole x → IsExact x
exact-known x X = (omega (arith, amount-is x X.0 X.1 X.2), sym (whole-amount x X))

-- a list of zeros
pub zeros-whole : (k : ℕ) → Wholly (replicate k (of_bits binary64 0))
zeros-whole zero i = exact-whole 0 (omega arith)
zeros-whole (suc k) zero = rw zero-whole (exact-whole 0 (omega arith))
zeros-whole (suc k) (suc i) = zeros-whole k i
