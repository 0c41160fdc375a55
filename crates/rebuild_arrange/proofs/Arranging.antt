-- From a plan and its regions to the best of their arrangements.
use mathlib.Core.Path.{◌≡◌, refl, sym, ap, ap₂, ◌∙◌, subst}
use Prim.Native.Nat.{ℕ, suc, ◌+◌, ◌-◌, ◌≤◌, ◌<◌}
use native.Mathlib.Omega.{arith}
use mathlib.Core.List.{List, [], ◌∷◌}
use lib.Ieee.{Float}
use lib.ListN.{length}
use Rattle.model.specs.declared.Region.{Region}
use Rattle.model.specs.declared.Walk.{Walk}
use Rattle.model.specs.Whole.{exact, whole}
use Rattle.model.specs.Job.{Job}
use Rattle.model.specs.Lists.{up_from}
use Rattle.model.specs.Plan.{Plan, placed, encode}
use Rattle.model.specs.Cost.{missed_cost, cost}
use Rattle.model.specs.Rebuild.{arrangements, choose, begun, completed}
use Rattle.model.proofs.Lists.{length-up_from}
use Rattle.model.proofs.Order.{better-self}
use Rattle.model.proofs.PlanForm.{lent_length}
use Rattle.model.proofs.Fillings.{none-counted}
use Rattle.distance.specs.declared.tariff.Tariff.{Tariff}
use Rattle.solution.specs.declared.plan.Plan as held
use Rattle.solution.specs.Held.{numbers_of, routes, Becomes}
use Rattle.solution.proofs.Holding.{holds-routes}
use Rattle.delivery.specs.Costs.{table_cost, Costs}
use Rattle.delivery.specs.Held.{IsJobOf, IsCost}
use Rattle.rebuild_fillings.specs.Walk.{Filling, empties, own, plan_at}
use Rattle.rebuild_fillings.specs.Rows.{word_of, filling_of, Full}
use Rattle.rebuild_fillings.proofs.Places.{own-plan, standing-start}
use Rattle.rebuild_fillings.proofs.Full.{full-worded, own-full, padded-full}
use Rattle.rebuild_tables.specs.declared.frame.Frame.{Frame}
use Rattle.rebuild_tables.specs.Frame.{gap_count, placed_count, drained_count, framed_plan, framed_regions, plan_by, Placeable, Framing}
use Rattle.rebuild_ways.specs.declared.Ways.{Ways}
use Rattle.rebuild_ways.specs.Ways.{prices_at}
use Rattle.rebuild_tables.specs.Ways.{cost_by}
use Rattle.rebuild_tables.specs.Table.{stops_from}
use Rattle.rebuild_tables.specs.declared.Kept.{Kept}
use Rattle.rebuild_tables.specs.Kept.{calls_in}
use Rattle.rebuild_tables.specs.Walks.{FullIn, best_plan, Visitable, Visited}
use Rattle.rebuild_tables.proofs.Plans.{plan-wide}
use Rattle.rebuild_tables.proofs.Ways.{driven-none, cost-padded}
use Rattle.rebuild_arrange.specs.Arranged.{Arrangeable, Arranged}
use Rattle.rebuild_arrange.specs.Prepared.{beside_first, Addable, Tells}
use Rattle.rebuild_arrange.proofs.Tables.{same-plan, same-regions, same-gaps, same-drained}

module _ (tariff : Tariff) (plan : held.Plan) (regions : List Region) (A : Arrangeable plan regions) where
  -- what a plan costs
  abbrev table : Plan → ℕ
  table = table_cost tariff.legs.table tariff.prices plan.n

  abbrev P : Plan
  P = routes plan

  abbrev gs : List Region
  gs = regions

  module _ (f : Frame) (F : Framing plan regions f) (ways : Ways) (T : Tells tariff plan f ways) where
    abbrev k : ℕ
    k = gap_count f

    abbrev m : ℕ
    m = drained_count f

    few-gaps : k ≤ 3
    few-gaps = omega (arith, same-gaps plan regions f F, A.gapped.few)

    -- ---- all gaps empty

    empty-full : FullIn f ([] ∷ empties (k - 1))
    empty-full =
        let e : 0 + suc (k - 1) ≡ k = omega (arith, f.framed.some) in
        subst (λ (j : ℕ). Full j m ([] ∷ empties (k - 1))) e (padded-full m 0 (up_from 1 m) [] [] (standing-start m) (k - 1))

    pub addable : (j : ℕ) → j ≡ k → (d : ℕ) → d ≡ m → Addable tariff ways j d
    addable j ej d ed = rw (ej, ed) (record {
      prices = T.prices;
      some = f.framed.some;
      few = few-gaps;
      left = f.framed.few;
      vacant = T.tabled.vacant;
      small = omega (
        arith,
        T.tabled.small ([] ∷ empties (k - 1)) empty-full,
        cost-padded ways m 0 (up_from 1 m) [] [] (k - 1) (standing-start m),
        driven-none ways 0,
        ap (missed_cost (prices_at ways)) (length-up_from 1 m),
      );
    })

    -- ---- each stop where it was

    own_in : FullIn f (own P gs)
    own_in =
        subst (λ (d : ℕ). Full k d (own P gs)) (sym (same-drained plan regions f F))
        (subst (λ (j : ℕ). Full j (length (stops_from plan regions)) (own P gs)) (sym (same-gaps plan regions f F)) (own-full P gs))

    same_by : (fill : Filling) → plan_by f fill ≡ plan_at P gs fill
    same_by fill = ap₂ (λ (X : Plan) (hs : List Region). plan_at X hs fill) (same-plan plan regions f F) (same-regions plan regions f F)

    -- what is kept before the walk: the word of the plan itself
    module _ (first : Kept) (ew : first.best ≡ word_of (own P gs)) where
      own_read : (filling_of first.best ≡ own P gs) × Placeable f first.best
      own_read = full-worded k m (own P gs) own_in few-gaps f.framed.few first.best ew

      -- the plan itself
      own_is : plan_by f (filling_of first.best) ≡ P
      own_is = same_by (filling_of first.best) ∙ ap (plan_at P gs) own_read.0 ∙ own-plan P gs A.gapped.stretches

      own-cost : cost_by ways m (filling_of first.best) ≡ table P
      own-cost = T.costs (filling_of first.best) own_read.1.full ∙ ap table own_is

      module _ (em : first.most ≡ placed_count f) (fresh : (r : ℕ) → r < 3 → calls_in first r ≡ 0) (c : Float) (ec : c ≡ whole (table P)) (others : Float) (j d : ℕ) (ej : j ≡ k) (ed : d ≡ m)
          (eo : others ≡ whole (beside_first ways j d)) where
        pub visitable : Visitable ways f first others c
        visitable = record {
          tabled = T.tabled;
          held = record {
            word = own_read.1;
            cost = ec ∙ ap whole (sym own-cost);
            placed = em ∙ f.framed.placed ∙ ap placed (same-plan plan regions f F ∙ sym own_is);
          };
          start = eo ∙ ap₂ (λ (a b : ℕ). whole (beside_first ways a b)) ej ed;
          fresh = fresh;
        }

        -- ---- the best of all

        module _ (kept : Kept) (found : Float) (W : Visited ways f first kept found) where
          abbrev best : Plan
          best = best_plan f kept

          full : FullIn f (filling_of kept.best)
          full = W.held.word.full

          best-small : (cost_by ways m (filling_of kept.best) ≡ table best) × (table best ≤ exact)
          best-small =
              let e = T.costs (filling_of kept.best) full in
              (e, omega (arith, e, T.tabled.small (filling_of kept.best) full))

          best-costs : Costs tariff.legs.table plan.v plan.n tariff.prices best found
          best-costs = record {
            small = best-small.1;
            table = W.held.cost ∙ ap whole best-small.0;
            job = λ J fits. W.held.cost ∙ ap whole (sym ((T.priced J fits).each (filling_of kept.best) full));
          }

          best-costs-as : (v n : ℕ) (X : Plan) (c : Float) → v ≡ plan.v → n ≡ plan.n → X ≡ best → c ≡ found
              → Costs tariff.legs.table v n tariff.prices X c
          best-costs-as v n X c ev en ex ec = rw (ev, en, ex, ec) best-costs

          chosen : (J : Job) → IsJobOf J tariff plan → best ≡ choose J P (arrangements P gs)
          chosen J fits =
              W.chosen J (T.priced J fits)
              ∙ ap (λ (X : Plan). choose J X (arrangements (framed_plan f) (framed_regions f))) own_is
              ∙ ap₂ (λ (X : Plan) (hs : List Region). choose J P (arrangements X hs)) (same-plan plan regions f F) (same-regions plan regions f F)

          -- the best is held
          module _ (new : held.Plan) (b : Becomes f.plan new best) where
            vehicles : new.v ≡ plan.v
            vehicles = b.vehicles ∙ ap (λ (p : held.Plan). p.v) F.same

            stops : new.n ≡ plan.n
            stops = b.stops ∙ ap (λ (p : held.Plan). p.n) F.same

            form : numbers_of new ≡ encode plan.n best
            form = b.form ∙ ap (λ (p : held.Plan). encode p.n best) F.same

            -- as it is read back
            best-read : routes new ≡ best
            best-read =
                holds-routes plan.v plan.n best new (record { vehicles = vehicles; stops = stops; form = form })
                (ap length (same_by (filling_of kept.best)) ∙ plan-wide P gs (filling_of kept.best) ∙ lent_length plan.v plan.n _ plan.lent)

            pub visited-arranged : (r : Walk) → r.cost ≡ found → r.begun ≡ calls_in kept 0 → r.completed ≡ calls_in kept (k - 1)
                → Arranged tariff plan regions new r
            visited-arranged r ec eb ed = record {
              vehicles = vehicles;
              stops = stops;
              costs = best-costs-as new.v new.n (routes new) r.cost vehicles stops best-read ec;
              best = λ J fits. record { vehicles = vehicles; stops = stops; form = form ∙ ap (encode plan.n) (chosen J fits) };
              cost = λ J fits. ec ∙ best-costs.job J fits ∙ ap (λ (X : Plan). whole (cost J X)) (chosen J fits);
              started = eb ∙ W.started ∙ ap₂ begun (same-plan plan regions f F) (same-regions plan regions f F);
              met = ed ∙ W.met ∙ ap₂ completed (same-plan plan regions f F) (same-regions plan regions f F);
            }

  -- ---- no region

  pub none-arranged : length regions ≡ 0 → (r : Walk) → IsCost tariff plan r.cost → r.begun ≡ 0 → r.completed ≡ 0 → Arranged tariff plan regions plan r
  unfolding arrangements
  none-arranged e r C eb ec =
      let g : gs ≡ [] = no-regions regions e in
      let chosen : (J : Job) → choose J P (arrangements P gs) ≡ P = λ J. ap (λ (hs : List Region). choose J P (arrangements P hs)) g ∙ alone J in
      record {
        vehicles = refl;
        stops = refl;
        costs = C;
        best = λ J fits. record { vehicles = refl; stops = refl; form = plan.lent.form ∙ ap (encode plan.n) (sym (chosen J)) };
        cost = λ J fits. C.job J fits ∙ ap (λ (X : Plan). whole (cost J X)) (sym (chosen J));
        started = eb ∙ sym (ap (begun P) g ∙ (none-counted P).0);
        met = ec ∙ sym (ap (completed P) g ∙ (none-counted P).1);
      }
    where
      no-regions : (rs : List Region) → length rs ≡ 0 → rs ≡ []
      no-regions [] h = refl
      no-regions (x ∷ rs) h = absurd (omega arith)

      alone : (J : Job) → choose J P (arrangements P []) ≡ P
      alone J = rw (better-self J P)
