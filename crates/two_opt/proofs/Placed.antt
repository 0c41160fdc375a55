-- A pair of stops, by where the two are.
use mathlib.Core.Path.{◌≡◌, refl, sym, ap, ◌∙◌, subst}
use mathlib.Core.Logic.{◌≢◌}
use mathlib.Core.Bool.{Bool, true, false, cond, ◌&&◌}
use Prim.Native.Nat.{ℕ, ◌<◌}
use native.Mathlib.Omega.{arith}
use lib.Dec.{eqb}
use lib.ListN.{length}
use borrow.Author.Tests.{eq-eqb, ne_eqb}
use Rattle.model.specs.Lists.{member, position}
use Rattle.model.specs.Job.{Job}
use Rattle.model.specs.Plan.{route_of, encode, vehicle_of, is_placed}
use Rattle.model.specs.Plan as form
use Rattle.model.specs.TwoOpt.{intra, inter, two_opt_on, two_opt}
use Rattle.model.proofs.Locate.{vehicle-lt, vehicle-has}
use Rattle.model.proofs.PlanForm.{lent_length}
use Rattle.distance.specs.declared.tariff.Tariff.{Tariff}
use Rattle.solution.specs.declared.plan.Plan.{Plan}
use Rattle.solution.specs.Held.{numbers_of, routes, Becomes}
use Rattle.solution.specs.Places.{place_of}
use Rattle.solution.specs.declared.Place.{Place}
use Rattle.std.specs.Prelude.{Some, None}
use Rattle.delivery.specs.Held.{IsJobOf}
use Rattle.two_opt_inter.specs.Move.{OnTwoRoutes}
use Rattle.two_opt_intra.specs.Reordered.{OneRoute}

-- ---- where a stop is

-- stop s is on the route of vehicle k
pub record On (P : form.Plan) (s k : ℕ) : Type 0 where
  pub placed : is_placed s P ≡ true
  pub vehicle : k ≡ vehicle_of s P

module _ (s : ℕ) (P : form.Plan) where
  -- where it is, if it is on a route
  abbrev there : Place
  there = record { vehicle = vehicle_of s P; position = position s (route_of P (vehicle_of s P)) }

  pub found : (x : Place) → Some x ≡ place_of s P → On P s x.vehicle
  found x e = go (is_placed s P) refl e
    where
      go : (b : Bool) → is_placed s P ≡ b → Some x ≡ cond b (Some there) None → On P s x.vehicle
      go true on f = let same : x ≡ there = cc in record { placed = on; vehicle = ap (λ (y : Place). y.vehicle) same }
      go false off f = let z : ◌≡◌ {A = ℕ} 0 1 = cc in absurd (omega arith)

  pub missing : None ≡ place_of s P → is_placed s P ≡ false
  missing e = go (is_placed s P) refl e
    where
      go : (b : Bool) → is_placed s P ≡ b → None ≡ cond b (Some there) None → is_placed s P ≡ false
      go true on f = let z : ◌≡◌ {A = ℕ} 0 1 = cc in absurd (omega arith)
      go false off f = off

module _ {P : form.Plan} {s k : ℕ} (O : On P s k) where
  pub on-lt : k < length P
  on-lt = rw O.vehicle (vehicle-lt s P O.placed)

  pub on-has : member s (route_of P k) ≡ true
  on-has = rw O.vehicle (vehicle-has s P O.placed)

-- ---- what the pair is then

module _ (J : Job) (P : form.Plan) (s u : ℕ) where
  pub first-missing : is_placed s P ≡ false → two_opt J P s u ≡ P
  unfolding two_opt
  first-missing e = rw e

  pub second-missing : is_placed u P ≡ false → two_opt J P s u ≡ P
  unfolding two_opt
  second-missing e = rw e (go (is_placed s P))
    where
      go : (b : Bool) → two_opt_on J P s u (b && false) (eqb (vehicle_of s P) (vehicle_of u P)) ≡ P
      go true = refl
      go false = refl

  module _ {a b : ℕ} (A : On P s a) (B : On P u b) where
    pub on_one : a ≡ b → two_opt J P s u ≡ intra J P a s u
    unfolding two_opt
    on_one e =
        let same : vehicle_of s P ≡ vehicle_of u P = sym A.vehicle ∙ (e ∙ B.vehicle) in
        rw (A.placed, B.placed, eq-eqb (vehicle_of s P) (vehicle_of u P) same, A.vehicle)

    pub on-two : a ≢ b → two_opt J P s u ≡ inter J P a s b u
    unfolding two_opt
    on-two ne =
        let other : vehicle_of s P ≢ vehicle_of u P = λ e. ne (A.vehicle ∙ (e ∙ sym B.vehicle)) in
        rw (A.placed, B.placed, ne_eqb (vehicle_of s P) (vehicle_of u P) other, A.vehicle, B.vehicle)

-- ---- a plan that is held

module _ (p : Plan) {s u a b : ℕ} (A : On (routes p) s a) (B : On (routes p) u b) where
  first-lt : a < p.v
  first-lt = omega (arith, on-lt A, lent_length p.v p.n (numbers_of p) p.lent)

  second_lt : b < p.v
  second_lt = omega (arith, on-lt B, lent_length p.v p.n (numbers_of p) p.lent)

  pub one-route : a ≡ b → s ≢ u → OneRoute p a s u
  one-route e ne = record { vehicle = first-lt; first = on-has A; second = rw e (on-has B); apart = ne }

  pub two-routes : a ≢ b → OnTwoRoutes p a s b u
  two-routes ne =
      record { vehicles = record { first = first-lt; second = second_lt; apart = ne }; first = on-has A; second = on-has B }

-- what a step leaves: for every job that fits, the job's own step
abbrev pub Left : Tariff → Plan → Plan → (Job → form.Plan) → Type 0
Left t p q step = (J : Job) → IsJobOf J t p → Becomes p q (step J)

module _ (t : Tariff) (p : Plan) (s u : ℕ) where
  pub the-pair : (q : Plan) (step : Job → form.Plan) → ((J : Job) → two_opt J (routes p) s u ≡ step J) → Left t p q step
      → Left t p q (λ J. two_opt J (routes p) s u)
  the-pair q step same l J F = subst (λ (P : form.Plan). Becomes p q P) (sym (same J)) (l J F)

  pub unchanged : ((J : Job) → two_opt J (routes p) s u ≡ routes p) → Left t p p (λ J. two_opt J (routes p) s u)
  unchanged same J F = record { vehicles = refl; stops = refl; form = p.lent.form ∙ ap (encode p.n) (sym (same J)) }
