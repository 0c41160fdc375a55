-- A move: the plans on its way are lent, and the change in cost is that of the routes that change.
use Prim.Native.Nat.{ℕ, suc, ◌+◌, ◌≤◌, ◌<◌}
use native.Mathlib.Omega.{arith}
use native.Mathlib.Nat.{suc-mul}
use mathlib.Core.Path.{◌≡◌, refl, sym, ap, ap₂, ◌∙◌}
use mathlib.Core.Logic.{inl, inr}
use mathlib.Core.Bool.{true, false}
use lib.IntN.{ℤ, sub_ℕ}
use lib.ListN.{length}
use borrow.Author.Tests.{not-false}
use Rattle.model.specs.declared.Prices.{Prices}
use Rattle.model.specs.Lists.{concat, change, count, Once}
use Rattle.model.specs.Job.{Job, stop_count}
use Rattle.model.specs.Plan.{Route, route_of, vehicle_of, is_placed, placed}
use Rattle.model.specs.Plan as form
use Rattle.model.specs.StopSet.{contains}
use Rattle.model.specs.Cost.{over_routes, missed_cost}
use Rattle.model.specs.Live.{put_in, placing, cancelled}
use Rattle.model.specs.declared.Move.{Move}
use Rattle.model.specs.Vans.{unplaced, moved, own_price, own_cost, cost_change, on_others_van, Held}
use Rattle.model.proofs.Lists.{tested, member-count, count-absent}
use Rattle.model.proofs.Counts.{Below, count-route, length-kept}
use Rattle.model.proofs.Cost.{missed_cost-is}
use Rattle.model.proofs.Live.{added-at, cancelled-count, cancelled-routes}
use Rattle.model.proofs.PlanForm.{lent_length}
use Rattle.model.proofs.Vans.{unplaced-length, moved_length, moved_other, moved-one, moved-once, moved-below, apart-alike}
use Rattle.std.specs.Prelude.{None}
use Rattle.distance.specs.declared.tariff.Tariff.{Tariff}
use Rattle.solution.specs.declared.plan.Plan.{Plan}
use Rattle.solution.specs.Held.{numbers_of, routes, Becomes}
use Rattle.solution.proofs.Holding.{holds-routes}
use Rattle.solution.specs.Places.{place_of}
use Rattle.joining.specs.Places.{leaving_out}
use Rattle.joining.proofs.Leaving.{Leaves, missing, stays}
use Rattle.delivery.specs.Costs.{table_price}
use Rattle.delivery.specs.Held.{IsJobOf}
use Rattle.delivery.proofs.Laws.{table-price}
use Rattle.relocation.specs.Moving.{pair_price, Movable, Changes}
use Rattle.relocation.proofs.Pairs.{over-one, over-two, pair-alike}

-- ---- the parts of what a caller pays

-- the vehicle of a stop that is on no other's van
held-source : (vans s : ℕ) (P : form.Plan) → on_others_van vans s P ≡ false → is_placed s P ≡ true → contains (vehicle_of s P) vans ≡ true
unfolding on_others_van
held-source vans s P h on = not-false _ (rw on at h)

-- a missed stop more
missed_more : (p : Prices) (m : ℕ) → missed_cost p (suc m) ≡ missed_cost p m + p.missed
missed_more p m = rw (missed_cost-is p (suc m), missed_cost-is p m) (suc-mul m p.missed)

own_cost-is : (J : Job) (vans : ℕ) (P : form.Plan)
    → own_cost J vans P ≡ over_routes (own_price J vans) 0 P + missed_cost J.prices (length (unplaced (stop_count J) P))
unfolding own_cost
own_cost-is J vans P = refl

module _ {p : Plan} {m : Move} (M : Movable p m) where
  abbrev s : ℕ
  s = m.stop

  abbrev k : ℕ
  k = m.van

  abbrev i : ℕ
  i = m.place

  abbrev old : form.Plan
  old = routes p

  abbrev new : form.Plan
  new = moved m (routes p)

  as-many : length old ≡ p.v
  as-many = lent_length p.v p.n (numbers_of p) p.lent

  known : k < length old
  known = omega (arith, as-many, M.van)

  once : Once (concat new)
  once = moved-once m old p.lent.once known

  below : Below p.n (concat new)
  below = moved-below m old p.lent.once known p.n M.stop p.lent.below

  -- ---- the plans on its way

  -- mid is what the code leaves of the plan with the stop taken out
  module _ (mid : Plan) (b : Becomes p mid (cancelled s (routes p))) where
    out : routes mid ≡ cancelled s old
    out = holds-routes p.v p.n (cancelled s old) mid b (cancelled-routes s old ∙ as-many)

    pub puttable : (k < mid.v) × (i ≤ length (route_of (routes mid) k))
    puttable = (rw b.vehicles M.van, rw out M.place)

    off : count s (concat (cancelled s old)) ≡ 0
    off = elim (tested s s) [ inl q ↦ rw q.1 at (cancelled-count s old p.lent.once s) | inr q ↦ absurd (q.0 refl) ]

    pub missing-now : (s < mid.n) × (is_placed s (routes mid) ≡ false)
    missing-now = (rw b.stops M.stop, rw out (count-absent s (concat (cancelled s old)) off))

    -- next is what it leaves in the end
    pub put : (next : Plan) → Becomes mid next (placing s (routes mid) k i) → Becomes p next (moved m (routes p))
    unfolding moved
    put next d = record { vehicles = d.vehicles ∙ b.vehicles; stops = d.stops ∙ b.stops; form = rw (out, b.stops) at d.form }

  -- a stop that is on no route is out already
  pub out-already : None ≡ place_of s (routes p) → Becomes p p (cancelled s (routes p))
  out-already N = record { vehicles = refl; stops = refl; form = stays p.n s old (numbers_of p) N p.lent.form }

  read : (next : Plan) → Becomes p next new → routes next ≡ new
  read next b = holds-routes p.v p.n new next b (moved_length m old ∙ as-many)

  -- ---- the change in cost

  -- as many stops are unplaced as are on no route
  missed-old : placed old + length (unplaced p.n old) ≡ p.n
  missed-old = unplaced-length p.n old p.lent.once p.lent.below

  missed-new : placed new + length (unplaced p.n new) ≡ p.n
  missed-new = unplaced-length p.n new once below

  -- the stop was at place j of vehicle a
  module _ (a j : ℕ) (L : Leaves s (routes p) a j) where
    two_steps : change k (put_in i s) (change a (leaving_out j) old) ≡ new
    unfolding moved
    two_steps = ap (change k (put_in i s)) L.left

    still : placed new ≡ placed old
    still =
        length-kept (concat new) (concat old) λ x.
        elim (tested x s) [
          | inl q ↦ rw q.0 (omega (arith, moved-one m old p.lent.once known, p.lent.once s, member-count s (concat old) L.placed))
          | inr q ↦ moved_other m old p.lent.once known x q.0
        ]

    pub its-van : a < p.v
    its-van = omega (arith, L.among, as-many)

  module _ (t : Tariff) where
    -- what the route of a van costs by the tariff
    abbrev cost_of : ℕ → Route → ℕ
    cost_of = table_price t.legs.table t.prices

    module _ (J : Job) (F : IsJobOf J t p) (vans : ℕ) where
      -- the price of a van that the caller holds is the same
      own-price : (X : form.Plan) → Below p.n (concat X) → (j : ℕ) → j < p.v → contains j vans ≡ true → own_price J vans j (route_of X j) ≡ cost_of j (route_of X j)
      own-price X b j h c =
          let near : Below p.n (route_of X j) = λ x q. b x (omega (arith, count-route x X j)) in
          rw c (sym (table-price J t.legs.table p.v p.n t.prices F j (route_of X j) h near (λ x q. omega (arith, near x q, p.sizes.stops))))

      own_is : (X : form.Plan) → own_cost J vans X ≡ over_routes (own_price J vans) 0 X + missed_cost t.prices (length (unplaced p.n X))
      own_is X =
          own_cost-is J vans X
          ∙ ap₂ (λ (q : Prices) (n : ℕ). over_routes (own_price J vans) 0 X + missed_cost q (length (unplaced n X))) F.prices F.stops

      -- w and u are what the parts that change cost before and after
      apart : (w u : ℕ) → own_cost J vans new + w ≡ own_cost J vans old + u → cost_change J vans m old ≡ sub_ℕ u w
      unfolding cost_change
      apart w u e = apart-alike (own_cost J vans new) (own_cost J vans old) u w e

    -- the stop was at place j of vehicle a
    module _ (a j : ℕ) (L : Leaves s (routes p) a j) where
      module _ (J : Job) (F : IsJobOf J t p) (vans : ℕ) (H : Held vans m old) where
        own_pair : (X : form.Plan) → Below p.n (concat X) → pair_price (own_price J vans) X a k ≡ pair_price cost_of X a k
        own_pair X b =
            let own : contains a vans ≡ true = rw L.vehicle (held-source vans s old H.source L.placed) in
            pair-alike (own_price J vans) cost_of X a k (own-price J F vans X b a (its-van a j L) own) (own-price J F vans X b k M.van H.target)

      -- both routes, before and after
      pub from-van : (next : Plan) → Becomes p next (moved m (routes p))
          → (w u : ℕ) → w ≡ pair_price (table_price t.legs.table t.prices) (routes p) a k → u ≡ pair_price (table_price t.legs.table t.prices) (routes next) a k
          → (c : ℤ) → c ≡ sub_ℕ u w → Changes t p m c
      from-van next b w u W U c C J F vans H =
          let f : ℕ → Route → ℕ = own_price J vans in
          let before : pair_price f old a k ≡ w = own_pair J F vans H old p.lent.below ∙ sym W in
          let after : pair_price f new a k ≡ u = own_pair J F vans H new below ∙ sym (rw (read next b) at U) in
          let over : over_routes f 0 new + pair_price f old a k ≡ over_routes f 0 old + pair_price f new a k =
          rw (two_steps a j L) at (over-two f old a k (leaving_out j) (put_in i s) L.among known)
          in
          let same : length (unplaced p.n new) ≡ length (unplaced p.n old) = omega (arith, missed-new, missed-old, still a j L) in
          C ∙ sym (apart J F vans w u (omega (arith, own_is J F vans new, own_is J F vans old, ap (missed_cost t.prices) same)))

    -- the stop was unplaced
    module _ (N : None ≡ place_of s (routes p)) where
      stayed : cancelled s old ≡ old
      stayed = missing s old N

      one-step : placing s old k i ≡ new
      unfolding moved
      one-step = ap (λ (X : form.Plan). placing s X k i) (sym stayed)

      one_more : placed new ≡ suc (placed old)
      one_more = rw one-step at (added-at k i s old known).more

      -- the route of its van, before and after, and a missed stop less
      pub from-unplaced : (next : Plan) → Becomes p next (moved m (routes p))
          → (w u : ℕ) → w ≡ table_price t.legs.table t.prices k (route_of (routes p) k) → u ≡ table_price t.legs.table t.prices k (route_of (routes next) k)
          → (c : ℤ) → c ≡ sub_ℕ u (w + t.prices.missed) → Changes t p m c
      from-unplaced next b w u W U c C J F vans H =
          let f : ℕ → Route → ℕ = own_price J vans in
          let before : f k (route_of old k) ≡ w = own-price J F vans old p.lent.below k M.van H.target ∙ sym W in
          let after : f k (route_of new k) ≡ u = own-price J F vans new below k M.van H.target ∙ sym (rw (read next b) at U) in
          let over : over_routes f 0 new + f k (route_of old k) ≡ over_routes f 0 old + f k (route_of new k) = rw one-step at (over-one f old k (put_in i s) known) in
          let one_less : length (unplaced p.n old) ≡ suc (length (unplaced p.n new)) = omega (arith, missed-new, missed-old, one_more) in
          C ∙ sym (apart J F vans (w + t.prices.missed) u (omega (arith, own_is J F vans new, own_is J F vans old, ap (missed_cost t.prices) one_less, missed_more t.prices (length (unplaced p.n new)))))
