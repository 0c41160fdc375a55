-- From the empty plan to the solver's answer.
use Prim.Native.Nat.{ℕ}
use native.Mathlib.Omega.{arith}
use mathlib.Core.Path.{◌≡◌, refl, ap, ap₂, ◌∙◌}
use mathlib.Core.Bool.{true}
use mathlib.Core.List.{[]}
use lib.Dec.{ltb}
use lib.Ieee.{Float}
use lib.ListN.{length, replicate, length-replicate}
use borrow.Author.Tests.{lt-ltb}
use Rattle.model.specs.Lists.{concat, count, up_from}
use Rattle.model.specs.Whole.{exact, whole, amount}
use Rattle.model.specs.Job.{Job}
use Rattle.model.specs.Plan.{encode, Sizes}
use Rattle.model.specs.Plan as form
use Rattle.model.specs.StopSet.{stops_of}
use Rattle.model.specs.Legs.{Fits}
use Rattle.model.specs.Cost.{cost, driving_cost}
use Rattle.model.specs.Rebuild.{pruned}
use Rattle.model.proofs.Lists.{length-up_from}
use Rattle.model.proofs.Counts.{concat-empty}
use Rattle.model.proofs.Cost.{cost-is}
use Rattle.whole.proofs.Laws.{amount-is}
use Rattle.distance.specs.declared.tariff.Tariff.{Tariff}
use Rattle.solution.specs.declared.plan.Plan.{Plan}
use Rattle.solution.specs.Held.{routes, Holds}
use Rattle.solution.proofs.Holding.{holds-routes}
use Rattle.delivery.specs.Held.{IsCost}
use Rattle.delivery.proofs.Laws.{cost-exact}
use Rattle.pruned.specs.Search.{Search, Searched}

module _ (t : Tariff) (v n : ℕ) (z : Sizes v n) (blank : Plan) (b : Holds v n (replicate v []) blank) where
  abbrev none : form.Plan
  none = replicate v []

  many : length none ≡ v
  many = length-replicate v []

  held : routes blank ≡ none
  held = holds-routes v n none blank b many

  count_none : (s : ℕ) → count s (concat none) ≡ 0
  count_none s = ap (count s) (concat-empty v)

  module _ (left : ℕ) (el : stops_of left ≡ up_from 0 n) (u : Float) (eu : u ≡ whole exact) where
    -- the search begins with the empty plan
    pub beginning : (c : Float) → IsCost t blank c → Search t left blank u blank c
    beginning c C =
        record {
          sizes = record { vehicles = refl; stops = refl };
          all = λ s. rw (held, el, b.stops) (omega (arith, count_none s));
          bound = (exact, omega arith, eu);
          least = C;
        }

    -- and ends with a plan of its sizes, the solver's choice
    module _ (last : Plan) (r : Float) (S : Searched t left blank u blank last r) where
      pub sized : (last.v ≡ v) × (last.n ≡ n)
      sized = (S.sizes.vehicles ∙ b.vehicles, S.sizes.stops ∙ b.stops)

      module _ (J : Job) (F : Fits J t.legs.table v n t.prices) where
        within : ltb (driving_cost J none) (amount u) ≡ true
        within =
            rw (amount-is u exact (omega arith) eu)
            (lt-ltb (driving_cost J none) exact
            (omega (arith, cost-is J none, cost-exact J t.legs.table v n t.prices F t.legs.lengths z t.affordable none (omega (arith, many)) (λ s. omega (arith, count_none s)) (λ s h. absurd (omega (arith, count_none s))))))

        chosen : routes last ≡ pruned J
        unfolding pruned
        chosen = S.chosen J (rw (b.vehicles, b.stops) F) ∙ rw (held, within, el, length-up_from 0 n, F.vehicles, F.stops)

        pub ending : Holds v n (pruned J) last × (r ≡ whole (cost J (pruned J)))
        ending = (
          record { vehicles = sized.0; stops = sized.1; form = last.lent.form ∙ ap₂ encode sized.1 chosen },
          S.cost.job J (rw (sized.0, sized.1) F) ∙ ap (λ (P : form.Plan). whole (cost J P)) chosen,
        )
