-- What a search for a stop says of its vehicle and its position.
use Prim.Native.Nat.{ℕ, ◌<◌, ◌≤◌}
use Rattle.std.specs.Prelude.{Some}
use native.Mathlib.Omega.{arith}
use mathlib.Core.Path.{◌≡◌, refl, ap}
use mathlib.Core.Bool.{Bool, true, false, cond}
use lib.ListN.{length}
use Rattle.model.specs.Lists.{position}
use Rattle.model.specs.Plan.{Plan, route_of, vehicle_of, is_placed}
use Rattle.model.specs.Region.{region_from, region_to}
use Rattle.model.proofs.Locate.{vehicle-lt, vehicle-position}
use Rattle.model.proofs.PlanForm.{lent_length, route-length, route-end}
use Rattle.solution.specs.declared.Place.{Place}
use Rattle.solution.specs.declared.plan.Plan as held
use Rattle.solution.specs.Held.{routes}
use Rattle.std.specs.Prelude.{Option, Some, None}
use Rattle.solution.specs.Places.{place_of}
use Rattle.rebuild_regions.specs.Around.{vehicle_found, region_found}

-- where a placed stop is
abbrev there_of : ℕ → Plan → Place
there_of s P = record { vehicle = vehicle_of s P; position = position s (route_of P (vehicle_of s P)) }

-- p is the place of a stop that is placed
pub record There (s : ℕ) (P : Plan) (p : Place) : Type 0 where
  pub placed : is_placed s P ≡ true
  pub vehicle : p.vehicle ≡ vehicle_of s P
  pub position : p.position ≡ position s (route_of P (vehicle_of s P))

module _ (s : ℕ) (P : Plan) (f : Option Place) (e : f ≡ place_of s P) where
  -- a stop is found only where it is placed
  pub found-there : (p : Place) → f ≡ Some p → There s P p
  found-there p q = go (is_placed s P) refl e
    where
      go : (t : Bool) → is_placed s P ≡ t → f ≡ cond t (Some (there_of s P)) None → There s P p
      go true on h =
          let same : p ≡ there_of s P = cc in
          record { placed = on; vehicle = ap (λ (x : Place). x.vehicle) same; position = ap (λ (x : Place). x.position) same }
      go false off h = let z : ◌≡◌ {A = ℕ} 0 1 = cc in absurd (omega arith)

  pub found_nowhere : f ≡ None → is_placed s P ≡ false
  found_nowhere q = go (is_placed s P) refl e
    where
      go : (t : Bool) → is_placed s P ≡ t → f ≡ cond t (Some (there_of s P)) None → is_placed s P ≡ false
      go true on h = let z : ◌≡◌ {A = ℕ} 0 1 = cc in absurd (omega arith)
      go false off h = off

-- the vehicle that is found
module _ (s : ℕ) (P : Plan) (f : Option ℕ) (e : f ≡ vehicle_found P s) where
  pub vehicle-there : (k : ℕ) → f ≡ Some k → (is_placed s P ≡ true) × (k ≡ vehicle_of s P)
  vehicle-there k q = go (is_placed s P) refl e
    where
      go : (t : Bool) → is_placed s P ≡ t → f ≡ cond t (Some (vehicle_of s P)) None → (is_placed s P ≡ true) × (k ≡ vehicle_of s P)
      go true on h = (on, cc)
      go false off h = let z : ◌≡◌ {A = ℕ} 0 1 = cc in absurd (omega arith)

  pub vehicle_nowhere : f ≡ None → is_placed s P ≡ false
  vehicle_nowhere q = go (is_placed s P) refl e
    where
      go : (t : Bool) → is_placed s P ≡ t → f ≡ cond t (Some (vehicle_of s P)) None → is_placed s P ≡ false
      go true on h = let z : ◌≡◌ {A = ℕ} 0 1 = cc in absurd (omega arith)
      go false off h = off

-- within a plan
pub record Within (p : held.Plan) (x : Place) : Type 0 where
  pub vehicle : x.vehicle < p.v
  pub position : x.position ≤ p.n

pub there-within : (p : held.Plan) (s : ℕ) (x : Place) → There s (routes p) x → Within p x
there-within p s x t =
    let many : length (routes p) ≡ p.v = lent_length p.v p.n _ p.lent in
    let h : x.vehicle < p.v = omega (arith, t.vehicle, vehicle-lt s (routes p) t.placed, many) in
    let few : length (route_of (routes p) x.vehicle) ≤ p.n = omega (
      arith,
      route-length p.v p.n _ p.lent.long p.lent.fits x.vehicle h,
      route-end p.v p.n _ p.lent.long p.lent.fits x.vehicle h,
    ) in
    record { vehicle = h; position = omega (arith, few, t.position, t.vehicle, ap (λ k. length (route_of (routes p) k)) t.vehicle, vehicle-position s (routes p) t.placed) }

-- the region around a placed stop
pub region-there : (P : Plan) (s : ℕ) (p : Place) → There s P p → (size from to : ℕ)
    → from ≡ region_from size p.position → to ≡ region_to size p.position (length (route_of P p.vehicle))
    → Some (record { vehicle = p.vehicle; from = from; to = to }) ≡ region_found P size s
region-there P s p t size from to a b = rw (t.placed, a, b, t.vehicle, t.position)
