-- The tests of a set of vans and of a move, as the code makes them.
use mathlib.Core.Path.{◌≡◌, refl, sym, ap, ◌∙◌}
use mathlib.Core.Bool.{Bool, true, false, cond, not, ◌||◌}
use mathlib.Core.List.{List}
use Prim.Native.Nat.{ℕ, ◌-◌, ◌*◌, ◌%◌, ◌^◌, ◌≤◌, ◌<◌}
use native.Mathlib.Nat.{one-mul}
use native.Mathlib.Omega.{arith}
use lib.Dec.{leb, ltb}
use lib.ListN.{length}
use lib.Pow.{shl_exact}
use Rattle.model.specs.Lists.{without, position, member}
use Rattle.model.specs.Plan.{Plan, route_of, vehicle_of, is_placed}
use Rattle.model.specs.StopSet.{contains}
use Rattle.model.specs.Vans.{bad_vans, on_others_van, beyond_end, bad_move}
use Rattle.model.specs.declared.Move.{Move}
use Rattle.model.proofs.Lists.{position-lt, position-member, length_without, without-absent}
use Rattle.model.proofs.Order.{unless}
use Rattle.model.proofs.Locate.{vehicle-lt}
use Rattle.model.proofs.Vans.{van-lt, cancelled-route}
use Rattle.solution.specs.declared.Place.{Place}
use Rattle.std.specs.Prelude.{Some, None}
use Rattle.solution.specs.Places.{place_of}

-- ---- the set

-- 2 ^ v by a shift
pub shifted : (v vans : ℕ) → v ≤ 16 → leb (1 * 2 ^ v % 2 ^ 32) vans ≡ bad_vans v vans
unfolding bad_vans
shifted v vans h = ap (λ (x : ℕ). leb x vans) (shl_exact 1 v 32 (omega arith) (omega arith) ∙ one-mul (2 ^ v))

-- ---- the place

-- the end of a route, by whether the stop is on it
module _ (m : Move) (P : Plan) (r : List ℕ) (e : r ≡ route_of P m.van) (p : ℕ) (f : p ≡ position m.stop r) where
  end : ltb (length (without m.stop r)) m.place ≡ beyond_end m P
  unfolding beyond_end
  end = rw (cancelled-route, ← e)

  pub end_after : p < length r → ltb (length r - 1) m.place ≡ beyond_end m P
  end_after h =
      let one : length r - 1 ≡ length (without m.stop r) = omega (arith, length_without m.stop r (position-member m.stop r (rw (← f) h))) in
      ap (λ (x : ℕ). ltb x m.place) one ∙ end

  pub end-as-it-is : length r ≤ p → ltb (length r) m.place ≡ beyond_end m P
  end-as-it-is h =
      let off : member m.stop r ≡ false = unless (λ on. omega (arith, position-lt m.stop r on)) in
      ap (λ (xs : List ℕ). ltb (length xs) m.place) (sym (without-absent m.stop r off)) ∙ end

-- ---- the van of the stop

module _ (vans s : ℕ) (P : Plan) where
  abbrev there : Place
  there = record { vehicle = vehicle_of s P; position = position s (route_of P (vehicle_of s P)) }

  on-van : (x : Place) → Some x ≡ place_of s P → (is_placed s P ≡ true) × (x.vehicle ≡ vehicle_of s P)
  on-van x e = go (is_placed s P) refl e
    where
      go : (b : Bool) → is_placed s P ≡ b
          → Some x ≡ cond b (Some there) None
          → (is_placed s P ≡ true) × (x.vehicle ≡ vehicle_of s P)
      go true on f = (on, cc)
      go false off f = let z : ◌≡◌ {A = ℕ} 0 1 = cc in absurd (omega arith)

  off-vans : None ≡ place_of s P → is_placed s P ≡ false
  off-vans e = go (is_placed s P) refl e
    where
      go : (b : Bool) → is_placed s P ≡ b
          → None ≡ cond b (Some there) None
          → is_placed s P ≡ false
      go true on f = let z : ◌≡◌ {A = ℕ} 0 1 = cc in absurd (omega arith)
      go false off f = off

  pub van-of : (x : Place) → Some x ≡ place_of s P → x.vehicle < length P
  van-of x e = let o = on-van x e in rw o.1 (vehicle-lt s P o.0)

  pub others : (x : Place) → Some x ≡ place_of s P → (t : Bool) → t ≡ contains x.vehicle vans → not t ≡ on_others_van vans s P
  unfolding on_others_van
  others x e t h = let o = on-van x e in rw (o.0, ← o.1, h)

  pub nobodys : None ≡ place_of s P → false ≡ on_others_van vans s P
  unfolding on_others_van
  nobodys e = rw (off-vans e)

-- ---- the move

or-true : (a : Bool) → true ≡ (a || true)
or-true true = refl
or-true false = refl

module _ (vans : ℕ) (m : Move) (P : Plan) where
  pub not-held : (t : Bool) → t ≡ not (contains m.van vans) → t ≡ true → true ≡ bad_move vans m P
  unfolding bad_move
  not-held t e h = rw (← e, h) (or-true (on_others_van vans m.stop P))

  -- nor is a van from v on held
  pub no-van : (v : ℕ) → bad_vans v vans ≡ false → v ≤ m.van → true ≡ bad_move vans m P
  no-van v b h =
      let off : contains m.van vans ≡ false = unless (λ c. omega (arith, van-lt v vans m.van b c)) in
      not-held _ refl (ap not off)

  pub not_ours : (t : Bool) → t ≡ on_others_van vans m.stop P → t ≡ true → true ≡ bad_move vans m P
  unfolding bad_move
  not_ours t e h = rw (← e, h)

  pub by_place : (t : Bool) → t ≡ not (contains m.van vans) → t ≡ false → (u : Bool) → u ≡ on_others_van vans m.stop P → u ≡ false
      → (w : Bool) → w ≡ beyond_end m P → w ≡ bad_move vans m P
  unfolding bad_move
  by_place t e h u f g w b = rw (← f, g, ← e, h) b
