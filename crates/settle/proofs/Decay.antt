-- Powers: Bernoulli's inequality, and what follows for the idle rounds. Nothing here is about floats.
use mathlib.Core.Path.{◌≡◌, sym, ap, ◌∙◌}
use Prim.Native.Nat.{ℕ, zero, suc, ◌+◌, ◌*◌, ◌^◌, ◌≤◌, ◌<◌}
use native.Mathlib.Nat.{le_trans, le_of_eq, mul-one, one-mul, zero-mul, mul_comm, mul_assoc, mul_right_comm, mul-le-mul, mul-le-mul_left, mul-le-mul_right, le_of_mul-le-mul_right, mul-suc, suc-mul, add-mul, mul-add, pow-zero, pow-suc, one-le-pow, pow-le-pow_left, mul-mul-mul_comm, le_dest}
use native.Mathlib.Omega.{arith}
use lib.Pow.{pow-add}

-- ---- (n / (n + j)) ^ k ≤ n / (n + k * j)
bern-lin : (n j k : ℕ) → n * (n + suc k * j) ≤ (n + k * j) * (n + j)
bern-lin n j k =
    let a : n * (n + suc k * j) ≡ n * n + (n * (k * j) + n * j) = simp (suc-mul, mul-add) in
    let b : (n + k * j) * (n + j) ≡ n * n + k * j * n + (n * j + k * j * j) = simp (mul-add, add-mul) (omega arith) in
    let e : n * (k * j) ≡ k * j * n = mul_comm n (k * j) in
    omega arith

pub bernoulli : (n j k : ℕ) → n ^ k * (n + k * j) ≤ (n + j) ^ k * n
bernoulli n j zero =
    let a : n ^ 0 * (n + 0 * j) ≡ n = simp (pow-zero, one-mul, zero-mul) (omega arith) in
    let b : (n + j) ^ 0 * n ≡ n = simp (pow-zero, one-mul) in
    omega arith
bernoulli n j (suc k) =
    let a : n ^ suc k * (n + suc k * j) ≡ n ^ k * (n * (n + suc k * j)) = rw (pow-suc n k) (mul_assoc (n ^ k) n (n + suc k * j)) in
    let b : n ^ k * ((n + k * j) * (n + j)) ≡ n ^ k * (n + k * j) * (n + j) = sym (mul_assoc (n ^ k) (n + k * j) (n + j)) in
    let e : (n + j) ^ k * n * (n + j) ≡ (n + j) ^ suc k * n = mul_right_comm ((n + j) ^ k) n (n + j) ∙ ap (λ (x : ℕ). x * n) (sym (pow-suc (n + j) k)) in
    le_trans (le_of_eq a)
    (le_trans (mul-le-mul_left (n ^ k) (bern-lin n j k))
    (le_trans (le_of_eq b)
    (le_trans (mul-le-mul_right (n + j) (bernoulli n j k)) (le_of_eq e))))

-- ---- With c = b + 1, an idle round leaves (20 * c - 19) / (20 * c) of δ, a little more than its (c - 1) / c, and 4 units, at most.
abbrev pub share : ℕ → ℕ
share b = 20 * b + 1

abbrev pub full : ℕ → ℕ
full b = 20 * b + 1 + 19

round-lin : (b : ℕ) → share b * 39 ≤ (share b + suc b * 19) * 20
round-lin b = omega arith

-- c of them leave 20 / 39
pub c-rounds : (b : ℕ) → share b ^ suc b * 39 ≤ full b ^ suc b * 20
c-rounds b =
    let n = share b in
    let x = n ^ suc b in
    let y = full b ^ suc b in
    let p : x * 39 * n ≡ x * (n * 39) = mul_right_comm x 39 n ∙ mul_assoc x n 39 in
    let q : x * ((n + suc b * 19) * 20) ≡ x * (n + suc b * 19) * 20 = sym (mul_assoc x (n + suc b * 19) 20) in
    le_of_mul-le-mul_right
    (le_trans (le_of_eq p)
    (le_trans (mul-le-mul_left x (round-lin b))
    (le_trans (le_of_eq q)
    (le_trans (mul-le-mul_right 20 (bernoulli n 19 (suc b))) (le_of_eq (mul_right_comm y n 20))))))
    (positive (20 * b))
  where
    positive : (k : ℕ) → 0 < k + 1
    positive k = omega arith

-- k times as many leave the k-th power of it
many : (n m c a d : ℕ) → n ^ c * a ≤ m ^ c * d → (k : ℕ) → n ^ (k * c) * a ^ k ≤ m ^ (k * c) * d ^ k
many n m c a d h zero = le_of_eq (simp (zero-mul, pow-zero))
many n m c a d h (suc k) =
    let e : (x y : ℕ) → x ^ (suc k * c) * y ^ suc k ≡ x ^ (k * c) * y ^ k * (x ^ c * y) =
    λ x y. ap (λ (z : ℕ). x ^ z * y ^ suc k) (suc-mul k c) ∙ ap (λ (z : ℕ). z * y ^ suc k) (pow-add x (k * c) c) ∙ ap (λ (z : ℕ). x ^ (k * c) * x ^ c * z) (pow-suc y k) ∙ mul-mul-mul_comm (x ^ (k * c)) (x ^ c) (y ^ k) y in
    le_trans (le_of_eq (e n a)) (le_trans (mul-le-mul (many n m c a d h k) h) (le_of_eq (sym (e m d))))

-- and more leave no more
more : (n m i j a d : ℕ) → n ≤ m → i ≤ j → n ^ i * a ≤ m ^ i * d → n ^ j * a ≤ m ^ j * d
more n m i j a d l g h =
    let k = le_dest g in
    let e : (x y : ℕ) → x ^ j * y ≡ x ^ i * y * x ^ k.0 = λ x y. ap (λ (z : ℕ). x ^ z * y) (sym k.1) ∙ ap (λ (z : ℕ). z * y) (pow-add x i k.0) ∙ mul_right_comm (x ^ i) (x ^ k.0) y in
    le_trans (le_of_eq (e n a)) (le_trans (mul-le-mul h (pow-le-pow_left l k.0)) (le_of_eq (sym (e m d))))

pub seven-c-rounds : (b m : ℕ) → 7 * suc b ≤ m → share b ^ m * 39 ^ 7 ≤ full b ^ m * 20 ^ 7
seven-c-rounds b m h = more (share b) (full b) (7 * suc b) m (39 ^ 7) (20 ^ 7) (less (20 * b + 1)) h (many (share b) (full b) (suc b) 39 20 (c-rounds b) 7)
  where
    less : (k : ℕ) → k ≤ k + 19
    less k = omega arith

-- ---- after m idle rounds a is at most u * (share / full) ^ m + 4 * m
abbrev pub Fallen : ℕ → ℕ → ℕ → ℕ → Type 0
Fallen b m u a = a * full b ^ m ≤ u * share b ^ m + 4 * m * full b ^ m

pub fallen-none : (b u a : ℕ) → a ≤ u → Fallen b 0 u a
fallen-none b u a h =
    let p : a * full b ^ 0 ≡ a = simp (pow-zero, mul-one) in
    let q : u * share b ^ 0 ≡ u = simp (pow-zero, mul-one) in
    omega arith

step-pow : (a a' u n m k x y : ℕ) → a' * m ≤ a * n + 4 * m → n ≤ m → a * x ≤ u * y + 4 * k * x → a' * (x * m) ≤ u * (y * n) + 4 * suc k * (x * m)
step-pow a a' u n m k x y h l f =
    let p : a' * (x * m) ≡ a' * m * x = simp (mul_assoc, mul_comm) in
    let q : a' * m * x ≤ (a * n + 4 * m) * x = mul-le-mul_right x h in
    let r : (a * n + 4 * m) * x ≡ a * x * n + 4 * (x * m) = add-mul (a * n) (4 * m) x ∙ ap (λ (z : ℕ). z + 4 * m * x) (mul_right_comm a n x) ∙ ap (λ (z : ℕ). a * x * n + z) (mul_assoc 4 m x ∙ ap (λ (z : ℕ). 4 * z) (mul_comm m x)) in
    let s : a * x * n ≤ (u * y + 4 * k * x) * n = mul-le-mul_right n f in
    let t : (u * y + 4 * k * x) * n ≡ u * (y * n) + 4 * k * (x * n) = add-mul (u * y) (4 * k * x) n ∙ ap (λ (z : ℕ). z + 4 * k * x * n) (mul_assoc u y n) ∙ ap (λ (z : ℕ). u * (y * n) + z) (mul_assoc (4 * k) x n) in
    let v : 4 * k * (x * n) ≤ 4 * k * (x * m) = mul-le-mul_left (4 * k) (mul-le-mul_left x l) in
    let w : 4 * suc k * (x * m) ≡ 4 * k * (x * m) + 4 * (x * m) = ap (λ (z : ℕ). z * (x * m)) (mul-suc 4 k) ∙ add-mul (4 * k) 4 (x * m) in
    omega arith

pub fallen-more : (b m u a a' : ℕ) → a' * full b ≤ a * share b + 4 * full b → Fallen b m u a → Fallen b (suc m) u a'
fallen-more b m u a a' h f =
    rw (pow-suc (full b) m, pow-suc (share b) m) (step-pow a a' u (share b) (full b) m (full b ^ m) (share b ^ m) h (less (20 * b + 1)) f)
  where
    less : (k : ℕ) → k ≤ k + 19
    less k = omega arith

-- so from 7 * c idle rounds on it is at most u / 107, and 4 * m
cancel : (a u x y i j k : ℕ) → 0 < x → a * x ≤ u * y + k * x → y * i ≤ x * j → a * i ≤ u * j + k * i
cancel a u x y i j k X f h =
    let p : a * i * x ≤ (u * y + k * x) * i = le_trans (le_of_eq (mul_right_comm a i x)) (mul-le-mul_right i f) in
    let q : (u * y + k * x) * i ≡ u * (y * i) + k * i * x = add-mul (u * y) (k * x) i ∙ ap (λ (z : ℕ). z + k * x * i) (mul_assoc u y i) ∙ ap (λ (z : ℕ). u * (y * i) + z) (mul_right_comm k x i) in
    let r : u * (y * i) ≤ u * (x * j) = mul-le-mul_left u h in
    let s : u * (x * j) ≡ u * j * x = simp (mul_assoc, mul_comm) in
    let t : (u * j + k * i) * x ≡ u * j * x + k * i * x = add-mul (u * j) (k * i) x in
    le_of_mul-le-mul_right (omega arith) X

pub fallen-enough : (b m u a : ℕ) → 7 * suc b ≤ m → Fallen b m u a → a * 39 ^ 7 ≤ u * 20 ^ 7 + 4 * m * 39 ^ 7
fallen-enough b m u a h f = cancel a u (full b ^ m) (share b ^ m) (39 ^ 7) (20 ^ 7) (4 * m) (one-le-pow m (full b) (positive (20 * b + 1))) f (seven-c-rounds b m h)
  where
    positive : (k : ℕ) → 0 < k + 19
    positive k = omega arith
