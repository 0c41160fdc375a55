-- The best arrangement of the full plan is the exhaustive solver's.
use Prim.Native.Nat.{ℕ, zero, suc, ◌≤◌}
use native.Mathlib.Omega.{arith}
use mathlib.Core.Path.{◌≡◌, ap, ◌∙◌}
use mathlib.Core.Logic.{inl, inr}
use mathlib.Core.List.{[], ◌∷◌}
use Rattle.model.specs.Lists.{In}
use Rattle.model.specs.Whole.{whole}
use Rattle.model.specs.Job.{Job}
use Rattle.model.specs.Plan.{encode}
use Rattle.model.specs.declared.Region.{Region}
use Rattle.model.specs.declared.Walk.{Walk}
use Rattle.model.specs.Region.{Stretch, Stretches}
use Rattle.model.specs.Legs.{Fits}
use Rattle.model.specs.Cost.{cost}
use Rattle.model.specs.Rebuild.{choose, arrangements, exhaustive}
use Rattle.model.proofs.Lists.{length-up_from}
use Rattle.distance.specs.declared.tariff.Tariff.{Tariff}
use Rattle.solution.specs.declared.plan.Plan.{Plan}
use Rattle.solution.specs.Held.{numbers_of, routes, Holds}
use Rattle.solution.proofs.Holding.{holds-routes}
use Rattle.delivery.specs.Held.{IsJobOf}
use Rattle.rebuild_arrange.specs.Arranged.{Arrangeable, Arranged}
use Rattle.exhaustive.specs.Full.{full_plan, full_regions}
use Rattle.exhaustive.proofs.Arranging.{regions-each, length-full, drained-full, full-chosen}

-- each of them a whole route
module _ (v n : ℕ) where
  abbrev Whole : Region → Type 0
  Whole g = Stretch (full_plan (suc v) n) g

  first : Whole (record { vehicle = 0; from = 0; to = n })
  first = record { known = omega arith; ordered = omega arith; within = omega (arith, length-up_from 0 n) }

  later : (k : ℕ) → k ≤ v → Whole (record { vehicle = k; from = 0; to = 0 })
  later k h = record { known = omega (arith, length-full n (suc v)); ordered = omega arith; within = omega arith }

stretches : (v n : ℕ) → v ≤ 3 → Stretches (full_plan v n) (full_regions v n)
stretches zero n h = record { apart = tt; each = λ g i. absurd i }
stretches (suc zero) n h = record { apart = (λ i. i, tt); each = one }
  where
    one : (g : Region) → In g (full_regions 1 n) → Whole 0 n g
    one g (inl e) = rw e (first 0 n)
    one g (inr i) = absurd i
stretches (suc (suc zero)) n h = record { apart = (apart, (λ i. i, tt)); each = two }
  where
    apart : In {A = ℕ} 0 (1 ∷ []) → ⊥
    apart (inl e) = omega arith
    apart (inr i) = i

    two : (g : Region) → In g (full_regions 2 n) → Whole 1 n g
    two g (inl e) = rw e (first 1 n)
    two g (inr (inl e)) = rw e (later 1 n 1 (omega arith))
    two g (inr (inr i)) = absurd i
stretches (suc (suc (suc zero))) n h = record { apart = (apart, (apart-two, (λ i. i, tt))); each = three }
  where
    apart : In {A = ℕ} 0 (1 ∷ 2 ∷ []) → ⊥
    apart (inl e) = omega arith
    apart (inr (inl e)) = omega arith
    apart (inr (inr i)) = i

    apart-two : In {A = ℕ} 1 (2 ∷ []) → ⊥
    apart-two (inl e) = omega arith
    apart-two (inr i) = i

    three : (g : Region) → In g (full_regions 3 n) → Whole 2 n g
    three g (inl e) = rw e (first 2 n)
    three g (inr (inl e)) = rw e (later 2 n 1 (omega arith))
    three g (inr (inr (inl e))) = rw e (later 2 n 2 (omega arith))
    three g (inr (inr (inr i))) = absurd i
stretches (suc (suc (suc (suc v)))) n h = absurd (omega arith)

module _ (v n : ℕ) (hv : v ≤ 3) (hn : n ≤ 6) (p : Plan) (h : Holds v n (full_plan v n) p) where
  full-routes : routes p ≡ full_plan v n
  full-routes = holds-routes v n (full_plan v n) p h (length-full n v)

  pub arrangeable : Arrangeable p (full_regions v n)
  arrangeable =
      record {
        gapped = record { few = omega (arith, regions-each v n hv); stretches = rw full-routes (stretches v n hv) };
        few = rw full-routes (omega (arith, drained-full n v hv));
      }

  module _ (t : Tariff) (new : Plan) (r : Walk) (A : Arranged t p (full_regions v n) new r) where
    pub chosen-sizes : (new.v ≡ v) × (new.n ≡ n)
    chosen-sizes = (A.vehicles ∙ h.vehicles, A.stops ∙ h.stops)

    pub chosen : (J : Job) → Fits J t.legs.table v n t.prices → Holds v n (exhaustive J) new × (r.cost ≡ whole (cost J (exhaustive J)))
    chosen J F =
        let G : IsJobOf J t p = rw (h.vehicles, h.stops) F in
        let e = full-chosen v n hv J F.vehicles F.stops in
        let form : numbers_of new ≡ encode n (exhaustive J) =
        (A.best J G).form
        ∙ ap (λ m. encode m (choose J (routes p) (arrangements (routes p) (full_regions v n)))) h.stops
        ∙ ap (λ P. encode n (choose J P (arrangements P (full_regions v n)))) full-routes
        ∙ ap (encode n) e
        in
        (record { vehicles = chosen-sizes.0; stops = chosen-sizes.1; form = form }, rw (full-routes, e) at (A.cost J G))
