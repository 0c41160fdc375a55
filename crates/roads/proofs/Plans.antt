-- The walk over the routes of a plan: what is counted so far and what the routes that are left give are the whole.
use mathlib.Core.Path.{◌≡◌, sym, ◌∙◌}
use mathlib.Core.List.{List, []}
use Prim.Native.Nat.{ℕ, ◌+◌, ◌*◌, ◌/◌, ◌≤◌, ◌<◌}
use native.Mathlib.Omega.{arith}
use native.Mathlib.Numerals.{add-one}
use lib.ListN.{length, get_or, drop, drop_of_length-le}
use lib.Seq.{drop-cons}
use Rattle.model.specs.declared.Prices.{Prices}
use Rattle.model.specs.declared.Road.{Road}
use Rattle.model.specs.Lists.{concat}
use Rattle.model.specs.Job.{Job, priced}
use Rattle.model.specs.declared.job.Network.{Network}
use Rattle.solution.specs.declared.plan.Plan as held
use Rattle.solution.specs.Held.{numbers_of, routes}
use Rattle.model.specs.Plan.{Plan, Route, route_of, placed}
use Rattle.model.specs.Cost.{over_routes, route_length}
use Rattle.model.specs.Roads.{route_uses, plan_uses, plan_length, ceiling}
use Rattle.model.specs.Refusals.{unpriced}
use Rattle.model.proofs.Counts.{count-route, length-le}
use Rattle.model.proofs.Cost.{entry-le, route_length-is}
use Rattle.model.proofs.PlanForm.{lent_length, lent_placed}
use Rattle.model.proofs.Roads.{route_uses-is, plan_uses-is, plan_length-is, ceiling-is, plan_uses-le, plan_length-le}
use Rattle.roads.specs.declared.Tally.{Tally}
use Rattle.roads.specs.Tallies.{Walkable, RouteTally, Mapped, PlanTally, ceiling_from}

module _ (f : ℕ → Route → ℕ) (P : Plan) (k : ℕ) where
  -- the routes from k on: the next one, and those after it
  over-onward : k < length P → over_routes f k (drop k P) ≡ f k (route_of P k) + over_routes f (k + 1) (drop (k + 1) P)
  over-onward h = rw (add-one, drop-cons P k [])

  over_last : length P ≤ k → over_routes f k (drop k P) ≡ 0
  over_last h = rw (drop_of_length-le P h)

-- after k routes of a plan
pub record Tallied (N : Network) (p : held.Plan) (R : Road) (u m k : ℕ) : Type 0 where
  pub within : k ≤ p.v
  pub uses : (q : Prices) → u + over_routes (route_uses (priced N q) R) k (drop k (routes p)) ≡ plan_uses (priced N q) R (routes p)
  pub metres : (q : Prices) → m + over_routes (route_length (priced N q)) k (drop k (routes p)) ≡ plan_length (priced N q) (routes p)

module _ (N : Network) (p : held.Plan) (M : Mapped N p) where
  abbrev vs : List ℕ
  vs = N.vehicles.now

  abbrev P : Plan
  P = routes p

  abbrev J : Prices → Job
  J q = priced N q

  as-many : length P ≡ p.v
  as-many = lent_length p.v p.n (numbers_of p) p.lent

  placed-few : placed P ≤ p.n
  placed-few = lent_placed p.v p.n (numbers_of p) p.lent

  -- a route has one leg more than stops, so that all routes together have at most 80
  few-legs : placed P + length P ≤ 80
  few-legs = omega (arith, as-many, placed-few, p.sizes.vehicles, p.sizes.stops)

  -- a route of the plan between its vehicle's start and end
  pub route-walkable : (k : ℕ) → k < p.v → Walkable N.stops.now N.locations N.distances.now (get_or vs (2 * k) 0) (get_or vs (2 * k + 1) 0) (route_of P k)
  route-walkable k h =
      record {
        table = M.limits.table;
        short = M.limits.short;
        places = M.limits.places;
        begins = M.limits.ends (2 * k) (omega (arith, M.vehicles));
        ends = M.limits.ends (2 * k + 1) (omega (arith, M.vehicles));
        few = omega (arith, length-le (route_of P k) (concat P) (λ s. count-route s P k), placed-few, p.sizes.stops);
        stops = λ s g. omega (arith, M.stops, p.lent.below s (omega (arith, count-route s P k)));
      }

  module _ (R : Road) where
    few-uses : (q : Prices) → plan_uses (J q) R P ≤ 80
    few-uses q = omega (arith, few-legs, plan_uses-le (J q) R P)

    short-length : (q : Prices) → plan_length (J q) P ≤ 16000000
    short-length q = omega (arith, few-legs, plan_length-le (J q) (entry-le N.distances.now N.locations 200000 M.limits.short) P)

    pub tally-starts : Tallied N p R 0 0 0
    tally-starts =
        record {
          within = omega arith;
          uses = λ q. omega (arith, plan_uses-is (J q) R P);
          metres = λ q. omega (arith, plan_length-is (J q) P);
        }

    module _ (u m k : ℕ) (D : Tallied N p R u m k) where
      -- one route more
      module _ (t : Tally) (h : k < p.v) (T : RouteTally N.stops.now N.locations N.distances.now R (get_or vs (2 * k) 0) (get_or vs (2 * k + 1) 0) (route_of P k) t) where
        used : (q : Prices) → t.uses ≡ route_uses (J q) R k (route_of P k)
        used q = T.uses vs q ∙ sym (route_uses-is (J q) R k (route_of P k))

        driven : (q : Prices) → t.metres ≡ route_length (J q) k (route_of P k)
        driven q = T.metres vs q ∙ sym (route_length-is (J q) k (route_of P k))

        pub uses-fit : u + t.uses ≤ 80
        uses-fit = omega (arith, D.uses unpriced, used unpriced, few-uses unpriced, over-onward (route_uses (J unpriced) R) P k (omega (arith, as-many)))

        pub metres-fit : m + t.metres ≤ 16000000
        metres-fit = omega (arith, D.metres unpriced, driven unpriced, short-length unpriced, over-onward (route_length (J unpriced)) P k (omega (arith, as-many)))

        pub tally-onward : Tallied N p R (u + t.uses) (m + t.metres) (k + 1)
        tally-onward =
            record {
              within = omega arith;
              uses = λ q. omega (arith, D.uses q, used q, over-onward (route_uses (J q) R) P k (omega (arith, as-many)));
              metres = λ q. omega (arith, D.metres q, driven q, over-onward (route_length (J q)) P k (omega (arith, as-many)));
            }

      -- all routes
      pub tally-ends : p.v ≤ k → PlanTally N p R (record { uses = u; metres = m })
      tally-ends h =
          let e : length P ≤ k = omega (arith, as-many) in
          record {
            few = omega (arith, D.uses unpriced, few-uses unpriced);
            short = omega (arith, D.metres unpriced, short-length unpriced);
            uses = λ q. omega (arith, D.uses q, over_last (route_uses (J q) R) P k e);
            metres = λ q. omega (arith, D.metres q, over_last (route_length (J q)) P k e);
          }

-- the ceiling of the plan, from its tally
pub ceiling-tallied : (N : Network) (p : held.Plan) (R : Road) (t : Tally) → PlanTally N p R t → (q : Prices) (r : ℕ)
    → r ≡ ceiling_from q R.more t.uses t.metres
    → r ≡ ceiling (priced N q) R (routes p)
ceiling-tallied N p R t T q r e = e ∙ rw (T.uses q, T.metres q) (sym (ceiling-is (priced N q) R (routes p)))
