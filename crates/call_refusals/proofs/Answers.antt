-- The calls' answers and the plan that they leave, from the number of the refusal.
use mathlib.Core.Path.{◌≡◌, refl, sym, ap, ap₂, ◌∙◌}
use mathlib.Core.List.{List, [], ◌∷◌}
use Prim.Native.Nat.{ℕ, zero, suc}
use lib.Ieee.{Float}
use lib.IntN.{ℤ}
use Rattle.std.specs.Prelude.{Result, Ok, Err}
use Rattle.model.specs.declared.Standing.{Standing}
use Rattle.model.specs.declared.refusal.Refusal.{Refusal}
use Rattle.model.specs.Numbers.{number_of}
use Rattle.model.specs.Whole.{whole}
use Rattle.model.specs.Job.{stop_count}
use Rattle.model.specs.Plan.{Plan, encode}
use Rattle.model.specs.Cost.{cost}
use Rattle.model.specs.Live.{live_cost}
use Rattle.model.specs.Vans.{unplaced_set, view, moved, cost_change}
use Rattle.model.specs.Roads.{ceiling}
use Rattle.model.specs.Refusals.{Arguments, seen_given, move_given, road_given, Call, StartPlan, View, MoveStop, Roadworks, refusal}
use Rattle.model.proofs.Numbers.{IsNumber, err-answer, number-some, refusal-number}
use Rattle.model.specs.Calls.{weighed, written, changed, viewed, carried, raised, left_by, seen_by, lent_plan, made, new_live, plan_left, seen_left, cost_answer, start_answer, live_answer, view_answer, move_answer, road_answer, said_by_viewed, said_by_moved, said_by_raised, saying, signed_saying, view_said, move_said, road_said, Views, Moves, Raises}

some_left : (x : ℕ) (A : Arguments) (P : Plan) → (x ≡ 0 → ⊥) → A.plan ≡ left_by x A P
some_left zero A P h = absurd (h refl)
some_left (suc x) A P h = refl

module _ (c : Call) (A : Arguments) where
  pub refused : (e : Refusal) → number_of e ≡ refusal c A → Err e ≡ cost_answer c A
  unfolding cost_answer
  refused e h = err-answer e _ ∙ ap (λ (y : ℕ). weighed y (cost A.job (made c A))) h

  pub accepted : (f : Float) → 0 ≡ refusal c A → f ≡ whole (cost A.job (made c A)) → Ok f ≡ cost_answer c A
  unfolding cost_answer
  accepted f e h = ap Ok h ∙ ap (λ (y : ℕ). weighed y (cost A.job (made c A))) e

  pub change-refused : (e : Refusal) → number_of e ≡ refusal c A → Err e ≡ live_answer c A
  unfolding live_answer
  change-refused e h =
      err-answer e _ ∙ ap (λ (y : ℕ). changed y (new_live c A) (live_cost A.job (new_live c A) (made c A))) h

  pub change-accepted : (live : ℕ) (f : Float) → 0 ≡ refusal c A → live ≡ new_live c A → f ≡ whole (live_cost A.job (new_live c A) (made c A))
      → Ok (record { live = live; cost = f }) ≡ live_answer c A
  unfolding live_answer
  change-accepted live f e l h =
      ap₂ {C = Result Standing Refusal} (λ (x : ℕ) (y : Float). Ok (record { live = x; cost = y })) l h
      ∙ ap (λ (y : ℕ). changed y (new_live c A) (live_cost A.job (new_live c A) (made c A))) e

  pub left-alone : (e : Refusal) → number_of e ≡ refusal c A → A.plan ≡ plan_left c A
  unfolding plan_left
  left-alone e h = some_left (number_of e) A (made c A) (number-some e) ∙ ap (λ (y : ℕ). left_by y A (made c A)) h

  pub left-new : (xs : List ℕ) → 0 ≡ refusal c A → xs ≡ encode (stop_count A.job) (made c A) → xs ≡ plan_left c A
  unfolding plan_left
  left-new xs e h = h ∙ ap (λ (y : ℕ). left_by y A (made c A)) e

module _ (A : Arguments) where
  pub start-refused : (e : Refusal) → number_of e ≡ refusal StartPlan A → Err e ≡ start_answer A
  unfolding start_answer
  start-refused e h = err-answer e tt ∙ ap written h

  pub start-accepted : 0 ≡ refusal StartPlan A → Ok tt ≡ start_answer A
  unfolding start_answer
  start-accepted e = ap written e

-- ---- view

some-seen : (x : ℕ) (A : Arguments) (P : Plan) → (x ≡ 0 → ⊥) → seen_given A ≡ seen_by x A P
some-seen zero A P h = absurd (h refl)
some-seen (suc x) A P h = refl

said-viewed : (x set : ℕ) → IsNumber x → said_by_viewed (viewed x set) ≡ saying x (set ∷ [])
unfolding said_by_viewed
said-viewed zero set n = refl
said-viewed (suc x) set n = ap (λ y. record { number = y; values = [] }) n

module _ (A : Arguments) where
  -- the set of unplaced stops
  abbrev none : ℕ
  none = unplaced_set (stop_count A.job) (lent_plan A)

  views : (r : Result ℕ Refusal) (seen : List ℕ) → r ≡ viewed (refusal View A) none → seen ≡ seen_by (refusal View A) A (view A.vans (lent_plan A)) → Views A r seen
  unfolding view_answer view_said seen_left
  views r seen h k = record { answer = h; said = ap said_by_viewed h ∙ said-viewed (refusal View A) none (refusal-number View A); list = k }

  pub views-refused : (r : Result ℕ Refusal) (e : Refusal) → r ≡ Err e → number_of e ≡ refusal View A → Views A r (seen_given A)
  views-refused r e k h =
      views r (seen_given A) (k ∙ err-answer e none ∙ ap (λ (y : ℕ). viewed y none) h)
      (some-seen (number_of e) A _ (number-some e) ∙ ap (λ (y : ℕ). seen_by y A (view A.vans (lent_plan A))) h)

  pub views-accepted : (set : ℕ) (seen : List ℕ) → refusal View A ≡ 0 → set ≡ unplaced_set (stop_count A.job) (lent_plan A)
      → seen ≡ encode (stop_count A.job) (view A.vans (lent_plan A))
      → Views A (Ok set) seen
  views-accepted set seen e h k =
      views (Ok set) seen (ap Ok h ∙ ap (λ (y : ℕ). viewed y none) (sym e))
      (k ∙ ap (λ (y : ℕ). seen_by y A (view A.vans (lent_plan A))) (sym e))

-- ---- move_stop

said-carried : (x : ℕ) (z : ℤ) → IsNumber x → said_by_moved (carried x z) ≡ signed_saying x (z ∷ [])
unfolding said_by_moved
said-carried zero z n = refl
said-carried (suc x) z n = ap (λ y. record { number = y; values = [] }) n

module _ (A : Arguments) where
  -- the change in cost
  abbrev change : ℤ
  change = cost_change A.job A.vans (move_given A) (lent_plan A)

  moves : (r : Result ℤ Refusal) (left : List ℕ) → r ≡ carried (refusal MoveStop A) change → left ≡ plan_left MoveStop A → Moves A r left
  unfolding move_answer move_said
  moves r left h k = record { answer = h; said = ap said_by_moved h ∙ said-carried (refusal MoveStop A) change (refusal-number MoveStop A); plan = k }

  pub moves-refused : (r : Result ℤ Refusal) (e : Refusal) → r ≡ Err e → number_of e ≡ refusal MoveStop A → Moves A r A.plan
  moves-refused r e k h =
      moves r A.plan (k ∙ err-answer e change ∙ ap (λ (y : ℕ). carried y change) h) (left-alone MoveStop A e h)

  pub moves-accepted : (z : ℤ) (left : List ℕ) → refusal MoveStop A ≡ 0 → z ≡ cost_change A.job A.vans (move_given A) (lent_plan A)
      → left ≡ encode (stop_count A.job) (moved (move_given A) (lent_plan A))
      → Moves A (Ok z) left
  unfolding made
  moves-accepted z left e h k =
      moves (Ok z) left (ap Ok h ∙ ap (λ (y : ℕ). carried y change) (sym e)) (left-new MoveStop A left (sym e) k)

-- ---- roadworks

said-raised : (x rise : ℕ) → IsNumber x → said_by_raised (raised x rise) ≡ saying x (rise ∷ [])
unfolding said_by_raised
said-raised zero rise n = refl
said-raised (suc x) rise n = ap (λ y. record { number = y; values = [] }) n

module _ (A : Arguments) where
  -- the ceiling on the rise
  abbrev most : ℕ
  most = ceiling A.job (road_given A) (lent_plan A)

  raises : (r : Result ℕ Refusal) → r ≡ raised (refusal Roadworks A) most → Raises A r
  unfolding road_answer road_said
  raises r h = record { answer = h; said = ap said_by_raised h ∙ said-raised (refusal Roadworks A) most (refusal-number Roadworks A) }

  pub raises-refused : (r : Result ℕ Refusal) (e : Refusal) → r ≡ Err e → number_of e ≡ refusal Roadworks A → Raises A r
  raises-refused r e k h = raises r (k ∙ err-answer e most ∙ ap (λ (y : ℕ). raised y most) h)

  pub raises-accepted : (rise : ℕ) → refusal Roadworks A ≡ 0 → rise ≡ ceiling A.job (road_given A) (lent_plan A) → Raises A (Ok rise)
  raises-accepted rise e h = raises (Ok rise) (ap Ok h ∙ ap (λ (y : ℕ). raised y most) (sym e))
