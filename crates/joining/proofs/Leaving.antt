-- A stop that leaves its route, by what the search for it says, and the plan that is left.
use Prim.Native.Nat.{ℕ, ◌<◌}
use native.Mathlib.Omega.{arith}
use mathlib.Core.Path.{◌≡◌, refl, sym, ◌∙◌}
use mathlib.Core.Logic.{inl, inr}
use mathlib.Core.Bool.{Bool, true, false, cond}
use mathlib.Core.List.{List, []}
use lib.Dec.{eqb}
use lib.ListN.{length}
use Rattle.model.specs.Lists.{concat, change, without, position, count, Once}
use Rattle.model.specs.Plan.{Plan, route_of, encode, vehicle_of, is_placed}
use Rattle.model.specs.Live.{cancelled}
use Rattle.model.proofs.Lists.{Tested, tested, change-same, without-split, absent-count}
use Rattle.model.proofs.Counts.{Below}
use Rattle.model.proofs.Live.{cancelled-count}
use Rattle.model.proofs.Locate.{vehicle-lt, vehicle-position}
use Rattle.model.proofs.Placings.{cancelled-at, cancelled-none}
use Rattle.solution.specs.declared.Place.{Place}
use Rattle.std.proofs.Common.{Some, None}
use Rattle.solution.specs.Places.{place_of}
use Rattle.joining.specs.Places.{leaving_out}

-- stop s is at place i of route k, and nothing else of it is in P
pub record Leaves (s : ℕ) (P : Plan) (k i : ℕ) : Type 0 where
  pub placed : is_placed s P ≡ true
  pub vehicle : k ≡ vehicle_of s P
  pub among : k < length P
  pub within : i < length (route_of P k)
  pub left : change k (leaving_out i) P ≡ cancelled s P

module _ (s : ℕ) (P : Plan) where
  -- where it is, if it is on a route
  abbrev there : Place
  there = record { vehicle = vehicle_of s P; position = position s (route_of P (vehicle_of s P)) }

  leaves : Once (concat P) → is_placed s P ≡ true → Leaves s P there.vehicle there.position
  leaves o on =
      let k : ℕ = vehicle_of s P in
      let i : ℕ = position s (route_of P k) in
      record {
        placed = on;
        vehicle = refl;
        among = vehicle-lt s P on;
        within = vehicle-position s P on;
        left = change-same k (leaving_out i) (without s) P [] (sym (without-split s (route_of P k))) ∙ sym (cancelled-at s P o);
      }

  pub found : Once (concat P) → (x : Place) → Some x ≡ place_of s P → Leaves s P x.vehicle x.position
  found o x e = go (is_placed s P) refl e
    where
      go : (b : Bool) → is_placed s P ≡ b → Some x ≡ cond b (Some there) None → Leaves s P x.vehicle x.position
      go true on f = let same : x ≡ there = cc in rw same (leaves o on)
      go false off f = let z : ◌≡◌ {A = ℕ} 0 1 = cc in absurd (omega arith)

  pub missing : None ≡ place_of s P → cancelled s P ≡ P
  missing e = go (is_placed s P) refl e
    where
      go : (b : Bool) → is_placed s P ≡ b → None ≡ cond b (Some there) None → cancelled s P ≡ P
      go true on f = let z : ◌≡◌ {A = ℕ} 0 1 = cc in absurd (omega arith)
      go false off f = cancelled-none s P (absent-count s (concat P) off)

-- what the code leaves of the lent form
module _ (n s : ℕ) (P : Plan) (ys : List ℕ) where
  pub taken : (k i : ℕ) → Leaves s P k i → ys ≡ encode n (change k (leaving_out i) P) → ys ≡ encode n (cancelled s P)
  taken k i l e = rw l.left at e

  pub stays : None ≡ place_of s P → ys ≡ encode n P → ys ≡ encode n (cancelled s P)
  stays m e = rw (missing s P m) e

-- every stop that is left was in the plan before
pub cancelled-below : (n s : ℕ) (P : Plan) → Once (concat P) → Below n (concat P) → Below n (concat (cancelled s P))
cancelled-below n s P o b x h = go (tested x s) (cancelled-count s P o x)
  where
    go : Tested x s → count x (concat (cancelled s P)) ≡ cond (eqb x s) 0 (count x (concat P)) → x < n
    go (inl q) e = absurd (omega (arith, rw q.1 at e))
    go (inr q) e = b x (omega (arith, rw q.1 at e))
