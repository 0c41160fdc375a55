-- What all but the first gap's route costs, added up.
use mathlib.Core.Path.{◌≡◌, sym, ap, ap₂, ◌∙◌}
use Prim.Native.Nat.{ℕ, suc, ◌+◌, ◌-◌, ◌≤◌, ◌<◌}
use native.Mathlib.Numerals.{add-one}
use native.Mathlib.Omega.{arith}
use mathlib.Core.List.{[]}
use lib.Ieee.{Float, binary64, add}
use Rattle.model.specs.declared.Prices.{Prices}
use Rattle.model.specs.Whole.{exact, whole, amount, IsWhole}
use Rattle.model.specs.Cost.{missed_cost}
use Rattle.whole.proofs.Laws.{add-whole, amount-is, whole-amount}
use Rattle.distance.specs.declared.tariff.Tariff.{Tariff}
use Rattle.rebuild_fillings.specs.Walk.{empties}
use Rattle.rebuild_ways.specs.declared.Ways.{Ways}
use Rattle.rebuild_ways.specs.Ways.{vacant_at, base_at}
use Rattle.rebuild_tables.specs.Ways.{driven_by}
use Rattle.rebuild_tables.proofs.Ways.{driven-first, driven-none}
use Rattle.rebuild_arrange.specs.Prepared.{beside_first, Addable}

-- the sum has all but the empty gaps from q on
pub record Adding (ways : Ways) (p m q : ℕ) (sum : Float) : Type 0 where
  pub from : 1 ≤ q
  pub up_to : q ≤ p
  pub known : IsWhole sum
  pub rest : amount sum + driven_by ways q (empties (p - q)) ≡ beside_first ways p m

module _ (t : Tariff) (ways : Ways) (p m : ℕ) (A : Addable t ways p m) where
  -- a sum of two that is no more than the whole
  sum-known : (a b : Float) (x y : ℕ) → a ≡ whole x → b ≡ whole y → x + y ≤ beside_first ways p m
      → IsWhole (add binary64 a b) × (amount (add binary64 a b) ≡ x + y)
  sum-known a b x y ea eb h =
      let small : x + y ≤ exact = omega (arith, A.small) in
      let e : add binary64 a b ≡ whole (x + y) = ap₂ (add binary64) ea eb ∙ add-whole x y (omega arith) (omega arith) in
      ((x + y, small, e), amount-is (add binary64 a b) (x + y) small e)

  pub adding-none : (b d : Float) → b ≡ whole (base_at ways) → d ≡ whole (missed_cost t.prices m) → Adding ways p m 1 (add binary64 b d)
  adding-none b d eb ed =
      let s = ap (λ (x : Prices). missed_cost x m) A.prices in
      let k = sum-known b d (base_at ways) (missed_cost t.prices m) eb ed (omega arith) in
      record { from = omega arith; up_to = A.some; known = k.0; rest = omega (arith, k.1, s) }

  pub adding-more : (q : ℕ) (sum : Float) → Adding ways p m q sum → q < p → (d : Float) → d ≡ whole (vacant_at ways q) → Adding ways p m (q + 1) (add binary64 sum d)
  adding-more q sum D h d ed =
      let e : p - q ≡ suc (p - (q + 1)) = omega arith in
      let s : driven_by ways q (empties (p - q)) ≡ vacant_at ways q + driven_by ways (q + 1) (empties (p - (q + 1))) =
      ap (λ (k : ℕ). driven_by ways q (empties k)) e
      ∙ driven-first ways q [] (empties (p - (q + 1)))
      ∙ ap₂ (λ (a i : ℕ). a + driven_by ways i (empties (p - (q + 1)))) (sym (A.vacant q h)) (sym (add-one q))
      in
      let k = sum-known sum d (amount sum) (vacant_at ways q) (sym (whole-amount sum D.known)) ed (omega (arith, D.rest)) in
      record { from = omega arith; up_to = omega arith; known = k.0; rest = omega (arith, D.rest, k.1) }

  pub adding-all : (q : ℕ) (sum : Float) → Adding ways p m q sum → p ≤ q → sum ≡ whole (beside_first ways p m)
  adding-all q sum D h =
      let e : p - q ≡ 0 = omega arith in
      let s : driven_by ways q (empties (p - q)) ≡ 0 = ap (λ (k : ℕ). driven_by ways q (empties k)) e ∙ driven-none ways q in
      sym (whole-amount sum D.known) ∙ ap whole (omega (arith, D.rest))
