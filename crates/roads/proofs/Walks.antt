-- The walk along a route: what is counted so far and what the rest of the route gives are the whole.
use mathlib.Core.Path.{◌≡◌}
use mathlib.Core.List.{List}
use Prim.Native.Nat.{ℕ, ◌+◌, ◌*◌, ◌≤◌, ◌<◌}
use native.Mathlib.Omega.{arith}
use native.Mathlib.Numerals.{add-one}
use lib.ListN.{length, get_or, drop, drop_of_length-le}
use lib.Seq.{drop-cons}
use Rattle.model.specs.declared.Prices.{Prices}
use Rattle.model.specs.declared.Road.{Road}
use Rattle.model.specs.Job.{Job, job_of, location_of, entry, distance}
use Rattle.model.specs.Plan.{Route}
use Rattle.model.specs.Cost.{legs}
use Rattle.model.specs.Roads.{one_use, leg_uses}
use Rattle.model.proofs.Cost.{entry-le, legs-nil, legs-cons}
use Rattle.model.proofs.Counts.{below_at}
use Rattle.model.proofs.Roads.{leg_uses-nil, leg_uses-cons, use-le}
use Rattle.roads.specs.Tallies.{Walkable, RouteTally}

module _ (J : Job) (R : Road) (here end : ℕ) (r : Route) (i : ℕ) where
  -- the legs from here on: the next one, and those after it
  legs-onward : i < length r
      → legs J here (drop i r) end ≡ distance J here (location_of J (get_or r i 0)) + legs J (location_of J (get_or r i 0)) (drop (i + 1) r) end
  legs-onward h = rw (add-one, drop-cons r i 0) (legs-cons J here (get_or r i 0) _ end)

  uses-onward : i < length r
      → leg_uses J R here (drop i r) end ≡ one_use R here (location_of J (get_or r i 0)) + leg_uses J R (location_of J (get_or r i 0)) (drop (i + 1) r) end
  uses-onward h = rw (add-one, drop-cons r i 0) (leg_uses-cons J R here (get_or r i 0) _ end)

  -- after the last stop
  legs-last : length r ≤ i → legs J here (drop i r) end ≡ distance J here end
  legs-last h = rw (drop_of_length-le r h) (legs-nil J here end)

  uses-last : length r ≤ i → leg_uses J R here (drop i r) end ≡ one_use R here end
  uses-last h = rw (drop_of_length-le r h) (leg_uses-nil J R here end)

-- after i stops of the route, at location `here`
pub record Walked (ss : List ℕ) (l : ℕ) (ds : List ℕ) (R : Road) (start end : ℕ) (r : Route) (u m here i : ℕ) : Type 0 where
  pub within : i ≤ length r
  pub few : u ≤ i
  pub short : m ≤ 200000 * i
  pub place : here < l
  pub uses : (vs : List ℕ) (p : Prices) → u + leg_uses (job_of vs ss l ds p) R here (drop i r) end ≡ leg_uses (job_of vs ss l ds p) R start r end
  pub metres : (vs : List ℕ) (p : Prices) → m + legs (job_of vs ss l ds p) here (drop i r) end ≡ legs (job_of vs ss l ds p) start r end

module _ (ss : List ℕ) (l : ℕ) (ds : List ℕ) (start end : ℕ) (r : Route) (W : Walkable ss l ds start end r) where
  -- the next stop is one of the list
  pub stop-there : (i : ℕ) → i < length r → get_or r i 0 < length ss
  stop-there i h = below_at (length ss) r i W.stops h

  -- and at a location of the table
  pub next_place : (i : ℕ) → i < length r → get_or ss (get_or r i 0) 0 < l
  next_place i h = W.places (get_or r i 0) (stop-there i h)

-- from the first leg to the last
module _ (ss : List ℕ) (l : ℕ) (ds : List ℕ) (R : Road) (start end : ℕ) (r : Route) (W : Walkable ss l ds start end r) where
  pub walk-starts : Walked ss l ds R start end r 0 0 start 0
  walk-starts =
      record { within = omega arith; few = omega arith; short = omega arith; place = W.begins; uses = λ vs p. omega arith; metres = λ vs p. omega arith }

  module _ (uses metres here i : ℕ) (D : Walked ss l ds R start end r uses metres here i) (used far : ℕ) where
    -- one leg more, to the next stop
    pub walk-onward : i < length r → used ≡ one_use R here (get_or ss (get_or r i 0) 0) → far ≡ entry ds l here (get_or ss (get_or r i 0) 0)
        → Walked ss l ds R start end r (uses + used) (metres + far) (get_or ss (get_or r i 0) 0) (i + 1)
    walk-onward h u f =
        record {
          within = omega arith;
          few = omega (arith, D.few, use-le R here (get_or ss (get_or r i 0) 0));
          short = omega (arith, D.short, entry-le ds l 200000 W.short here (get_or ss (get_or r i 0) 0));
          place = next_place ss l ds start end r W i h;
          uses = λ vs p. omega (arith, D.uses vs p, uses-onward (job_of vs ss l ds p) R here end r i h);
          metres = λ vs p. omega (arith, D.metres vs p, legs-onward (job_of vs ss l ds p) R here end r i h);
        }

    -- and the last one
    pub walk_ends : length r ≤ i → used ≡ one_use R here end → far ≡ entry ds l here end
        → RouteTally ss l ds R start end r (record { uses = uses + used; metres = metres + far })
    walk_ends h u f =
        record {
          uses = λ vs p. omega (arith, D.uses vs p, uses-last (job_of vs ss l ds p) R here end r i h);
          metres = λ vs p. omega (arith, D.metres vs p, legs-last (job_of vs ss l ds p) R here end r i h);
        }
