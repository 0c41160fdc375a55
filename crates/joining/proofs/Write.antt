-- The plan with no stop on any route, as the code writes it.
use Prim.Native.Nat.{ℕ, zero, suc, ◌+◌, ◌-◌}
use native.Mathlib.Omega.{arith}
use native.Mathlib.Nat.{sub-zero}
use mathlib.Core.Path.{◌≡◌, refl, ap}
use mathlib.Core.List.{List, [], ◌++◌, map}
use lib.ListN.{length, take, drop, replicate, length-append, length-replicate, length-drop}
use lib.Seq.{take_at, length-take-le}
use Rattle.pasting.proofs.Put.{lent-rest}
use Rattle.model.proofs.Lists.{part_end}
use Rattle.model.proofs.Counts.{concat-empty}
use Rattle.model.specs.Plan.{Route, encode, unused}

lengths-empty : (v : ℕ) → map length (replicate {A = Route} v []) ≡ replicate v 0
lengths-empty zero = refl
lengths-empty (suc v) = rw (lengths-empty v)

encode-empty : (v n : ℕ) → encode n (replicate v []) ≡ replicate v 0 ++ replicate n unused
unfolding encode
encode-empty v n = rw (lengths-empty v, concat-empty v, sub-zero)

-- d is filled up to v, and then from v on
pub emptied : (v n : ℕ) (d d₁ x y : List ℕ) → length d ≡ v + n → x ≡ replicate (length (take v d)) 0 → d₁ ≡ x ++ drop v d
    → y ≡ replicate (length (take (length d₁ - v) (drop v d₁))) unused
    → take v d₁ ++ (y ++ drop (length d₁ - v) (drop v d₁)) ≡ encode n (replicate v [])
emptied v n d d₁ x y h ex e ey =
    let lv : length (take v d) ≡ v = length-take-le v d (omega arith) in
    let ex' : x ≡ replicate v 0 = rw lv at ex in
    let lx : length x ≡ v = rw ex' (length-replicate v 0) in
    let ld : length (drop v d₁) ≡ n = omega (arith, ap length e, length-append x (drop v d), length-drop v d, length-drop v d₁) in
    let ey' : y ≡ replicate n unused = rw (part_end, ld) at ey in
    rw (lent-rest, ey', encode-empty, e, take_at x _ v lx, ex')
