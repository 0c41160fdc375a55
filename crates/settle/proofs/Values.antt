-- The operations of a round on floats that are a whole number of units, which is every finite float: `Has x a` says that x is a units, and not -0.
use mathlib.Core.Path.{◌≡◌, sym, ap, ◌∙◌, subst}
use Prim.Native.Nat.{ℕ, zero, suc, ◌+◌, ◌*◌, ◌^◌, ◌≤◌, ◌<◌}
use native.Mathlib.Nat.{lt_irrefl, mul-one, one-mul, zero-mul, mul_comm, mul_assoc, mul_left_comm, mul_right_comm, mul-mul-mul_comm, add-mul, mul-pos, mul-le-mul_right, zero-lt-suc, eq_of_mul-eq-mul_right}
use mathlib.Core.Bool.{Bool, true, false, ◌&&◌, cond, true≢false}
use lib.Dec.{T, eqb, eqb→eq, not_T, eqb-suc-zero}
use lib.Pow.{pow_pos}
use lib.Ieee.{Float, nan, inf, fin, Format, binary64, prec, low, up, down, round, mul, add, div, eq, le, of_int}
use lib.Ieee.Fits.{up_pos, down_pos, and_i, and_l, eq→eqb, two, two-le_pos}
use lib.Ieee.Bits.{is_true, is_false}
use lib.Ieee.Exact.{HasValue}
use lib.Ieee.Back.{round_whole}
use lib.Ieee.Order.{le_of_values}
use lib.Ieee.Scale.{round_same, round_val, overflow}
use Rattle.model.specs.Whole.{whole, exact}
use Rattle.settle.proofs.Units.{nearly, nearly-same}

-- ---- by any fractions that the operands equal
mul-value : (f : Format) (x y : Float) (a c b d : ℕ) → 0 < c → 0 < d → HasValue x false a c → HasValue y false b d → mul f x y ≡ round f false (a * b) (c * d)
unfolding mul
mul-value f nan y a c b d C D p q = absurd p
mul-value f (inf s) y a c b d C D p q = absurd p
mul-value f (fin true m e) y a c b d C D p q = absurd (true≢false p.0)
mul-value f (fin false m e) nan a c b d C D p q = absurd q
mul-value f (fin false m e) (inf t) a c b d C D p q = absurd q
mul-value f (fin false m e) (fin true n g) a c b d C D p q = absurd (true≢false q.0)
mul-value f (fin false m e) (fin false n g) a c b d C D p q =
    round_same f false (m * up e * (n * up g)) (down e * down g) (a * b) (c * d) (mul-pos (down_pos e) (down_pos g)) (mul-pos C D)
    (mul-mul-mul_comm (m * up e) (n * up g) c d ∙ ap (λ (z : ℕ). z * (n * up g * d)) p.1 ∙ ap (λ (z : ℕ). a * down e * z) q.1 ∙ mul-mul-mul_comm a (down e) b (down g))

cross-add : (x y e g a b c : ℕ) → x * c ≡ a * e → y * c ≡ b * g → (x * g + y * e) * c ≡ (a + b) * (e * g)
cross-add x y e g a b c p q =
    let i : (x * g + y * e) * c ≡ x * c * g + y * c * e = add-mul (x * g) (y * e) c ∙ ap (λ (z : ℕ). z + y * e * c) (mul_right_comm x g c) ∙ ap (λ (z : ℕ). x * c * g + z) (mul_right_comm y e c) in
    let j : x * c * g ≡ a * (e * g) = ap (λ (z : ℕ). z * g) p ∙ mul_assoc a e g in
    let k : y * c * e ≡ b * (e * g) = ap (λ (z : ℕ). z * e) q ∙ mul_assoc b g e ∙ ap (λ (z : ℕ). b * z) (mul_comm g e) in
    i ∙ ap (λ (z : ℕ). z + y * c * e) j ∙ ap (λ (z : ℕ). a * (e * g) + z) k ∙ sym (add-mul a b (e * g))

add-value : (f : Format) (x y : Float) (a b c : ℕ) → 0 < c → HasValue x false a c → HasValue y false b c → add f x y ≡ round f false (a + b) c
unfolding add
add-value f nan y a b c C p q = absurd p
add-value f (inf s) y a b c C p q = absurd p
add-value f (fin true m e) y a b c C p q = absurd (true≢false p.0)
add-value f (fin false m e) nan a b c C p q = absurd q
add-value f (fin false m e) (inf t) a b c C p q = absurd q
add-value f (fin false m e) (fin true n g) a b c C p q = absurd (true≢false q.0)
add-value f (fin false m e) (fin false n g) a b c C p q =
    round_same f false (m * up e * down g + n * up g * down e) (down e * down g) (a + b) c (mul-pos (down_pos e) (down_pos g)) C
    (cross-add (m * up e) (n * up g) (down e) (down g) a b c p.1 q.1)

cross-div : (x y e g a b c d : ℕ) → x * c ≡ a * e → y * d ≡ b * g → x * g * (b * c) ≡ a * d * (y * e)
cross-div x y e g a b c d p q =
    let i : x * g * (b * c) ≡ x * c * (b * g) = simp (mul_assoc, mul_comm, mul_left_comm) in
    let j : a * d * (y * e) ≡ a * e * (y * d) = simp (mul_assoc, mul_comm, mul_left_comm) in
    i ∙ ap (λ (z : ℕ). z * (b * g)) p ∙ ap (λ (z : ℕ). a * e * z) (sym q) ∙ sym j

div_value : (f : Format) (x y : Float) (a c b d : ℕ) → 0 < c → 0 < b → HasValue x false a c → HasValue y false b d → div f x y ≡ round f false (a * d) (b * c)
unfolding div
div_value f nan y a c b d C B p q = absurd p
div_value f (inf s) y a c b d C B p q = absurd p
div_value f (fin true m e) y a c b d C B p q = absurd (true≢false p.0)
div_value f (fin false m e) nan a c b d C B p q = absurd q
div_value f (fin false m e) (inf t) a c b d C B p q = absurd q
div_value f (fin false m e) (fin true n g) a c b d C B p q = absurd (true≢false q.0)
div_value f (fin false m e) (fin false zero g) a c b d C B p q =
    absurd (lt_irrefl 0 (subst (λ (z : ℕ). 0 < z) (sym q.1 ∙ ap (λ (z : ℕ). z * d) (zero-mul (up g)) ∙ zero-mul d) (mul-pos B (down_pos g))))
div_value f (fin false m e) (fin false (suc n) g) a c b d C B p q =
    ap (λ (t : Bool). cond t (cond (eqb m 0) nan (inf false)) (round f false (m * up e * down g) (suc n * up g * down e))) (eqb-suc-zero n)
    ∙ round_same f false (m * up e * down g) (suc n * up g * down e) (a * d) (b * c) (mul-pos (mul-pos (zero-lt-suc n) (up_pos g)) (down_pos e)) (mul-pos B C)
    (cross-div (m * up e) (suc n * up g) (down e) (down g) a b c d p.1 q.1)

-- ---- in units
abbrev pub Has : Format → Float → ℕ → Type 0
Has f x a = HasValue x false a (2 ^ low f)

round-units : (f : Format) (n d : ℕ) → 0 < d → nearly (prec f) n d < overflow f → Has f (round f false n (d * 2 ^ low f)) (nearly (prec f) n d)
round-units f n d D h =
    let L = 2 ^ low f in
    let e : nearly (prec f) n d ≡ nearly (prec f) (n * L) (d * L) = nearly-same (prec f) n d (n * L) (d * L) (two-le_pos (prec f) (two f)) D (mul-pos D (pow_pos (low f))) (simp (mul_assoc, mul_comm)) in
    subst (λ (z : ℕ). Has f (round f false n (d * L)) z) (sym e) (round_val f n (d * L) (subst (λ (z : ℕ). z < overflow f) e h))

pub mul-units : (f : Format) (x y : Float) (a b d : ℕ) → 0 < d → Has f x a → HasValue y false b d → nearly (prec f) (a * b) d < overflow f → Has f (mul f x y) (nearly (prec f) (a * b) d)
mul-units f x y a b d D p q h =
    subst (λ (z : Float). Has f z (nearly (prec f) (a * b) d)) (sym (mul-value f x y a (2 ^ low f) b d (pow_pos (low f)) D p q ∙ ap (λ (z : ℕ). round f false (a * b) z) (mul_comm (2 ^ low f) d)))
    (round-units f (a * b) d D h)

pub add-units : (f : Format) (x y : Float) (a b : ℕ) → Has f x a → Has f y b → nearly (prec f) (a + b) 1 < overflow f → Has f (add f x y) (nearly (prec f) (a + b) 1)
add-units f x y a b p q h =
    subst (λ (z : Float). Has f z (nearly (prec f) (a + b) 1)) (sym (add-value f x y a b (2 ^ low f) (pow_pos (low f)) p q ∙ ap (λ (z : ℕ). round f false (a + b) z) (sym (one-mul (2 ^ low f)))))
    (round-units f (a + b) 1 (zero-lt-suc 0) h)

pub div-units : (f : Format) (x y : Float) (a b : ℕ) → 0 < b → Has f x a → HasValue y false b 1 → nearly (prec f) a b < overflow f → Has f (div f x y) (nearly (prec f) a b)
div-units f x y a b B p q h =
    subst (λ (z : Float). Has f z (nearly (prec f) a b)) (sym (div_value f x y a (2 ^ low f) b 1 (pow_pos (low f)) B p q ∙ ap (λ (z : ℕ). round f false z (b * 2 ^ low f)) (mul-one a)))
    (round-units f a b B h)

pub le-units : (f : Format) (x y : Float) (a b : ℕ) → Has f x a → Has f y b → a ≤ b → T (le x y)
le-units f x y a b p q h = le_of_values x y a (2 ^ low f) b (2 ^ low f) (pow_pos (low f)) (pow_pos (low f)) p q (mul-le-mul_right (2 ^ low f) h)

-- ---- whole numbers
pub whole-value : (n : ℕ) → n ≤ exact → HasValue (whole n) false n 1
unfolding of_int
whole-value n h = round_whole binary64 false n h

scale : (x : Float) (a c k : ℕ) → HasValue x false a c → HasValue x false (a * k) (c * k)
scale nan a c k p = absurd p
scale (inf s) a c k p = absurd p
scale (fin s m e) a c k p = (p.0, sym (mul_assoc (m * up e) c k) ∙ ap (λ (z : ℕ). z * k) p.1 ∙ mul_right_comm a (down e) k)

pub whole-units : (n : ℕ) → n ≤ exact → Has binary64 (whole n) (n * 2 ^ low binary64)
whole-units n h = subst (λ (z : ℕ). HasValue (whole n) false (n * 2 ^ low binary64) z) (one-mul (2 ^ low binary64)) (scale (whole n) n 1 (2 ^ low binary64) (whole-value n h))

-- ---- the test for 0
pub is-nought : (f : Format) (x : Float) → Has f x 0 → eq x (whole 0) ≡ true
unfolding eq of_int
is-nought f nan p = absurd p
is-nought f (inf s) p = absurd p
is-nought f (fin true m e) p = absurd (true≢false p.0)
is-nought f (fin false m e) p =
    let z : m * up e ≡ 0 = eq_of_mul-eq-mul_right (2 ^ low f) (pow_pos (low f)) (m * up e) 0 (p.1 ∙ zero-mul (down e) ∙ sym (zero-mul (2 ^ low f))) in
    let g : m * up e * 1 ≡ 0 * 1 * down e = mul-one (m * up e) ∙ z ∙ sym (zero-mul (down e)) in
    is_true (eqb (m * up e * 1) (0 * 1 * down e) && true) (and_i (eqb (m * up e * 1) (0 * 1 * down e)) true (eq→eqb g) tt)

pub not-nought : (f : Format) (x : Float) (a : ℕ) → 0 < a → Has f x a → eq x (whole 0) ≡ false
unfolding eq of_int
not-nought f nan a A p = absurd p
not-nought f (inf s) a A p = absurd p
not-nought f (fin true m e) a A p = absurd (true≢false p.0)
not-nought f (fin false m e) a A p =
    is_false (eqb (m * up e * 1) (0 * 1 * down e) && true)
    (not_T (eqb (m * up e * 1) (0 * 1 * down e) && true)
    (λ (t : T (eqb (m * up e * 1) (0 * 1 * down e) && true)).
    let g : m * up e ≡ 0 = sym (mul-one (m * up e)) ∙ eqb→eq (m * up e * 1) (0 * 1 * down e) (and_l (eqb (m * up e * 1) (0 * 1 * down e)) true t) ∙ zero-mul (down e) in
    lt_irrefl 0 (subst (λ (z : ℕ). 0 < z) (sym p.1 ∙ ap (λ (z : ℕ). z * 2 ^ low f) g ∙ zero-mul (2 ^ low f)) (mul-pos A (down_pos e)))))
