-- The regions around the picks: how many stops they drain.
use Prim.Native.Nat.{ℕ, suc, ◌-◌, ◌*◌, ◌/◌, ◌≤◌, ◌<◌}
use native.Mathlib.Omega.{arith}
use native.Mathlib.Nat.{div-add-mod'}
use native.Mathlib.Decide.{dec_lt}
use mathlib.Core.Path.{◌≡◌, ap}
use mathlib.Core.Bool.{Bool, true, false, cond}
use mathlib.Core.List.{List, [], ◌∷◌, map}
use lib.ListN.{length, drop, length-append, length-take}
use Rattle.model.specs.Lists.{member}
use Rattle.model.specs.Plan.{Plan, route_of, vehicle_of, is_placed}
use Rattle.model.specs.declared.Region.{Region}
use Rattle.model.specs.Region.{keep_picks, region_of, regions, drained_from, drained}
use Rattle.model.proofs.Regions.{regions-stretches}
use Rattle.solution.specs.declared.plan.Plan as held
use Rattle.solution.specs.Held.{routes}
use Rattle.rebuild_words.specs.Gaps.{Gapped}

-- ---- the stops that they drain

module _ (P : Plan) where
  -- no more picks are kept than there are
  kept-few : (named picks : List ℕ) → length (keep_picks P named picks) ≤ length picks
  kept-few named [] = omega arith
  kept-few named (s ∷ ss) = go (is_placed s P) (member (vehicle_of s P) named) (kept-few named ss) (kept-few (vehicle_of s P ∷ named) ss)
    where
      go : (t u : Bool) → length (keep_picks P named ss) ≤ length ss → length (keep_picks P (vehicle_of s P ∷ named) ss) ≤ length ss
          → length (cond t (cond u (keep_picks P named ss) (s ∷ keep_picks P (vehicle_of s P ∷ named) ss)) (keep_picks P named ss)) ≤ suc (length ss)
      go false u a b = omega arith
      go true true a b = omega arith
      go true false a b = omega arith

  -- a region drains no more stops than its size
  drained-one : (size s : ℕ) → length (drained_from P (region_of P size s)) ≤ size
  drained-one size s = let g = region_of P size s in omega (arith, length-take (g.to - g.from) (drop g.from (route_of P g.vehicle)))

  drained-each : (size : ℕ) (ss : List ℕ) → length (drained P (map (region_of P size) ss)) ≤ length ss * size
  drained-each size [] = omega arith
  drained-each size (s ∷ ss) =
      omega (arith, drained-one size s, drained-each size ss, length-append (drained_from P (region_of P size s)) (drained P (map (region_of P size) ss)))

  pub drained-few : (picks : List ℕ) → length (drained P (regions P picks)) ≤ 7
  unfolding regions
  drained-few picks = go (dec_lt 0 p)
    where
      p : ℕ
      p = length (keep_picks P [] picks)

      size : ℕ
      size = (8 - length picks) / p

      all : length (drained P (map (region_of P size) (keep_picks P [] picks))) ≤ p * size
      all = drained-each size (keep_picks P [] picks)

      go : Dec (0 < p) → length (drained P (map (region_of P size) (keep_picks P [] picks))) ≤ 7
      go (yes h) = omega (arith, all, kept-few [] picks, div-add-mod' (8 - length picks) p)
      go (no h) = let z : p ≡ 0 = omega arith in omega (arith, all, ap (λ (j : ℕ). j * size) z)

-- ---- what the arrangement is given

module _ (p : held.Plan) (picks : List ℕ) (gs : List Region) (few : length gs ≤ 2) (e : gs ≡ regions (routes p) picks) where
  pub regions-gapped : Gapped p gs
  regions-gapped = record { few = omega arith; stretches = rw e (regions-stretches (routes p) picks) }

  pub regions-drained : length (drained (routes p) gs) ≤ 7
  regions-drained = rw e (drained-few (routes p) picks)
