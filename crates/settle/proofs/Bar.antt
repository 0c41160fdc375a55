-- u * 0.01 on plain numbers, in units: `bar u`. After 7 * c idle rounds the other average is no larger.
use mathlib.Core.Path.{◌≡◌, sym, ap, ◌∙◌}
use Prim.Native.Nat.{ℕ, suc, ◌+◌, ◌*◌, ◌^◌, ◌≤◌, ◌<◌}
use native.Mathlib.Nat.{le_trans, le_of_eq, one-mul, mul_comm, mul_assoc, mul_right_comm, add-mul, mul-le-mul, mul-le-mul_left, le_of_mul-le-mul_right}
use native.Mathlib.Omega.{arith}
use lib.Dec.{lit≤, lit<}
use lib.Pow.{pow-add}
use Rattle.settle.proofs.Units.{nearly, nearly-lower, nearly-ge, nearly-le}
use Rattle.settle.proofs.Decay.{Fallen, fallen-enough}

abbrev pub bar : ℕ → ℕ
bar u = nearly 53 (u * 5764607523034235) (2 ^ 59)

pub bar-le : (j u : ℕ) → u ≤ 2 ^ j → bar u ≤ 2 ^ j
bar-le j u h =
    le_trans (nearly-le 53 1 j (u * 5764607523034235) (2 ^ 59) (lit< tt) (lit< tt) (lit≤ tt) (le_trans (mul-le-mul h (lit≤ tt)) (le_of_eq (ap (λ (x : ℕ). x * 2 ^ 59) (sym (one-mul (2 ^ j)))))))
    (le_of_eq (one-mul (2 ^ j)))

pub bar-ge : (j u : ℕ) → 2 ^ (j + 7) ≤ u → 2 ^ j ≤ bar u
bar-ge j u h =
    le_trans (le_of_eq (sym (one-mul (2 ^ j))))
    (nearly-ge 53 1 j (u * 5764607523034235) (2 ^ 59) (lit< tt) (lit< tt) (lit≤ tt)
    (le_trans (le_of_eq (ap (λ (x : ℕ). x * 2 ^ 59) (one-mul (2 ^ j)) ∙ sym (pow-add 2 j 59) ∙ ap (λ (x : ℕ). 2 ^ x) (split j) ∙ pow-add 2 (j + 7) 52)) (mul-le-mul h (lit≤ tt))))
  where
    split : (x : ℕ) → x + 59 ≡ x + 7 + 52
    split x = omega arith

-- in two steps, for `omega`'s bound of 38 digits
lower-part : (y w k : ℕ) → y * 2 ^ 52 ≤ w * 2 ^ 52 + y + k * 2 ^ 52 → y * 1000 ≤ (w + k) * 1001
lower-part y w k h = omega arith

lower-rest : (u x g k : ℕ) → 0 < g → k ≤ g * 100 → u * g * 1000 ≤ (x * k + k) * 1001 → u ≤ 101 * x + 101
lower-rest u x g k G K h =
    let a : x * k ≤ x * (g * 100) = mul-le-mul_left x K in
    let b : x * (g * 100) ≡ x * g * 100 = sym (mul_assoc x g 100) in
    let c : (x * 100100 + 100100) * g ≡ x * g * 100100 + g * 100100 = add-mul (x * 100100) 100100 g ∙ ap (λ (z : ℕ). z + 100100 * g) (mul_right_comm x 100100 g) ∙ ap (λ (z : ℕ). x * g * 100100 + z) (mul_comm 100100 g) in
    let d : u * g * 1000 ≡ u * 1000 * g = mul_right_comm u g 1000 in
    last u x (le_of_mul-le-mul_right {m = u * 1000} {n = x * 100100 + 100100} (omega arith) G)
  where
    last : (u x : ℕ) → u * 1000 ≤ x * 100100 + 100100 → u ≤ 101 * x + 101
    last u x l = omega arith

lower-lin : (u x : ℕ) → u * 5764607523034235 * 2 ^ 52 ≤ x * 2 ^ 59 * 2 ^ 52 + u * 5764607523034235 + 2 ^ 59 * 2 ^ 52 → u ≤ 101 * x + 101
lower-lin u x h = lower-rest u x 5764607523034235 (2 ^ 59) (lit< tt) (lit≤ tt) (lower-part (u * 5764607523034235) (x * 2 ^ 59) (2 ^ 59) h)

fallen-lin : (a u m : ℕ) → a * 39 ^ 7 ≤ u * 20 ^ 7 + 4 * m * 39 ^ 7 → a * 107 ≤ u + 428 * m
fallen-lin a u m h = omega arith

settle-lin : (a u m x : ℕ) → u ≤ 101 * x + 101 → a * 107 ≤ u + 428 * m → m ≤ 8000 → 2 ^ 30 ≤ u → a ≤ x
settle-lin a u m x h k l g = omega arith

pub fallen-under : (b m u a : ℕ) → 7 * suc b ≤ m → m ≤ 8000 → 2 ^ 30 ≤ u → Fallen b m u a → a ≤ bar u
fallen-under b m u a h l g f =
    settle-lin a u m (bar u) (lower-lin u (bar u) (nearly-lower 53 (u * 5764607523034235) (2 ^ 59) (lit< tt) (lit< tt))) (fallen-lin a u m (fallen-enough b m u a h f)) l g
