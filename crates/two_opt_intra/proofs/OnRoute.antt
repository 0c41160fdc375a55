-- A pair on one route of a plan.
use mathlib.Core.Path.{◌≡◌, refl, sym, ap, ◌∙◌, subst}
use mathlib.Core.Logic.{◌≢◌}
use mathlib.Core.List.{List, ◌++◌}
use Prim.Native.Nat.{ℕ, ◌+◌, ◌-◌, ◌<◌, ◌≤◌, min, max}
use native.Mathlib.Omega.{arith}
use lib.ListN.{length, get_or, take, drop}
use Rattle.model.specs.Lists.{sum, part, position}
use Rattle.model.specs.Job.{Job}
use Rattle.model.specs.Plan.{Route, route_of, encode, Lent}
use Rattle.model.specs.Plan as form
use Rattle.model.specs.TwoOpt.{set_route, intra}
use Rattle.model.proofs.Lists.{position-lt, position-apart}
use Rattle.model.proofs.PlanForm.{route-part, route-end}
use Rattle.distance.specs.declared.tariff.Tariff.{Tariff}
use Rattle.solution.specs.declared.plan.Plan.{Plan}
use Rattle.solution.specs.Held.{numbers_of, routes, Becomes}
use Rattle.delivery.specs.Costs.{Ready}
use Rattle.delivery.specs.Held.{IsJobOf}
use Rattle.delivery.proofs.Ready.{ready, drivable}
use Rattle.two_opt_intra.specs.Reordered.{reordered, Weighable, OneRoute}
use Rattle.two_opt_intra.proofs.Choice.{alike-length, reordered-alike, intra-is, reordered-lent}
use Rattle.two_opt_intra.proofs.InPlace.{lent_back}

-- a plan whose route k has the stops s and u, and where that route starts
pub record Given (p : Plan) (k s u start : ℕ) : Type 0 where
  pub one : OneRoute p k s u
  pub at : start ≡ p.v + sum (take k (numbers_of p))

-- where it ends
pub record Bounds (xs : List ℕ) (k start : ℕ) : Type 0 where
  pub inside : start + get_or xs k 0 ≤ length xs
  pub small : start + get_or xs k 0 ≤ 80

-- the positions of s and u on route r, the lower first
pub record Ordered (r : Route) (s u lo hi : ℕ) : Type 0 where
  low : lo ≡ min (position s r) (position u r)
  high : hi ≡ max (position s r) (position u r)
  apart : lo < hi
  inside : hi < length r

-- the part of xs that holds route k
abbrev lent_part : List ℕ → ℕ → ℕ → Route
lent_part xs k start = part start (start + get_or xs k 0) xs

-- what xs is when that part comes back as ys
abbrev back : List ℕ → ℕ → ℕ → Route → List ℕ
back xs k start ys = take start xs ++ (ys ++ drop (start + get_or xs k 0 - start) (drop start xs))

module _ {p : Plan} {k s u start : ℕ} (G : Given p k s u start) where
  pub bounds : Bounds (numbers_of p) k start
  bounds =
      let L = p.lent in
      let h = route-end p.v p.n (numbers_of p) L.long L.fits k G.one.vehicle in
      record { inside = omega (arith, L.long, G.at); small = omega (arith, G.at, p.sizes.vehicles, p.sizes.stops) }

  -- the part that is lent is the route
  here : lent_part (numbers_of p) k start ≡ route_of (routes p) k
  here = sym (route-part p.v (numbers_of p) (omega (arith, p.lent.long)) k start G.one.vehicle G.at)

  module _ {i j : ℕ} (ei : i ≡ position s (lent_part (numbers_of p) k start)) (ej : j ≡ position u (lent_part (numbers_of p) k start)) where
    i-is : i ≡ position s (route_of (routes p) k)
    i-is = ei ∙ ap (position s) here

    j-is : j ≡ position u (route_of (routes p) k)
    j-is = ej ∙ ap (position u) here

    -- the stops are apart, so the lower position is below the higher
    pub ordered : {lo hi : ℕ} → lo ≡ min i j → hi ≡ max i j → Ordered (route_of (routes p) k) s u lo hi
    ordered el eh =
        let ne : i ≢ j = λ q. position-apart s u (route_of (routes p) k) G.one.first G.one.second G.one.apart (sym i-is ∙ (q ∙ j-is)) in
        record {
          low = omega (arith, i-is, j-is);
          high = omega (arith, i-is, j-is);
          apart = omega (arith, ne);
          inside = omega (
            arith,
            i-is,
            j-is,
            position-lt s (route_of (routes p) k) G.one.first,
            position-lt u (route_of (routes p) k) G.one.second,
          );
        }

  module _ (t : Tariff) {lo hi : ℕ} (o : Ordered (route_of (routes p) k) s u lo hi) where
    -- what is asked of the part that is lent
    pub asked : Weighable k (lent_part (numbers_of p) k start) × ((lo < hi) × (hi < length (lent_part (numbers_of p) k start)))
    asked =
        let w : Weighable k (route_of (routes p) k) =
        record {
          vehicle = omega (arith, G.one.vehicle, p.sizes.vehicles);
          route = drivable t p k;
        }
        in
        (subst (Weighable k) (sym here) w, (o.apart, subst (λ (r : Route). hi < length r) (sym here) o.inside))

    -- the route that is made of it
    abbrev new : Route
    new = reordered t.legs.table t.prices k lo hi (route_of (routes p) k)

    pub lent : Lent p.v p.n (encode p.n (set_route k new (routes p)))
    lent = reordered-lent t.legs.table p.v p.n t.prices (numbers_of p) (ready t p) k G.one.vehicle lo hi o.apart

    -- what is left when it comes back
    pub left : (ys : Route) → ys ≡ reordered t.legs.table t.prices k lo hi (lent_part (numbers_of p) k start)
        → back (numbers_of p) k start ys ≡ encode p.n (set_route k new (routes p))
    left ys e =
        let f : ys ≡ new = e ∙ ap (reordered t.legs.table t.prices k lo hi) here in
        let l : length new ≡ length (route_of (routes p) k) =
        alike-length (route_of (routes p) k) new (reordered-alike t.legs.table t.prices k lo hi (route_of (routes p) k) o.apart)
        in
        rw f (lent_back p.v p.n (numbers_of p) p.lent k G.one.vehicle start (start + get_or (numbers_of p) k 0) new G.at refl l)

    pub improved : (q : Plan) → Becomes p q (set_route k new (routes p)) → (J : Job) → IsJobOf J t p → Becomes p q (intra J (routes p) k s u)
    improved q h J F =
        subst (λ (P : form.Plan). Becomes p q P)
        (intra-is t.legs.table p.v p.n t.prices (numbers_of p) (ready t p) k G.one.vehicle J F s u lo hi o.low o.high o.apart) h
