-- Tables of zeros, as they are lent to be filled.
use mathlib.Core.Path.{◌≡◌, refl}
use Prim.Native.Nat.{ℕ, zero, suc, ◌<◌}
use lib.ListN.{get_or, replicate}

pub zeros-none : (k i : ℕ) → ◌≡◌ {A = ℕ} (get_or (replicate k 0) i 0) 0
zeros-none zero i = refl
zeros-none (suc k) zero = refl
zeros-none (suc k) (suc i) = zeros-none k i

pub zeros-small : (b : ℕ) → 0 < b → (k i : ℕ) → get_or (replicate k 0) i 0 < b
zeros-small b h k i = rw (zeros-none k i) h
