-- What is handed over for an answer: from the answer that code has to the definition's.
use mathlib.Core.Path.{◌≡◌, refl, sym, ap, subst, ◌∙◌}
use mathlib.Core.List.{List, [], ◌∷◌}
use Prim.Native.Nat.{ℕ, zero, suc}
use lib.Ieee.{Float}
use lib.IntN.{ℤ}
use Rattle.std.specs.Prelude.{Result, Ok}
use Rattle.model.specs.declared.Totals.{Totals}
use Rattle.model.specs.declared.Walk.{Walk}
use Rattle.model.specs.declared.Standing.{Standing}
use Rattle.model.specs.declared.refusal.Refusal.{Refusal}
use Rattle.model.specs.Numbers.{answer, refused}
use Rattle.model.proofs.Numbers.{IsNumber, refusal-number}
use Rattle.model.specs.Whole.{amount}
use Rattle.model.specs.Live.{live_cost}
use Rattle.model.specs.Refusals.{Arguments, Call, StartPlan, Rebuild, Solve, View, MoveStop, Roadworks, refusal}
use Rattle.model.specs.Calls.{Said, task_of, totals, made, new_live, written, solved, changed, carried, cost_answer, rebuild_answer, start_answer, solve_answer, live_answer, view_answer, move_answer, road_answer, said_by_weighed, said_by_rebuilt, said_by_solved, said_by_changed, said_by_viewed, said_by_raised, saying, signed_saying, cost_said, rebuild_said, start_said, solve_said, live_said, view_said, move_said, road_said, Weighs, Rebuilds, Writes, Changes, Views, Moves, Raises}
use Rattle.planner.specs.Kept.{Keeps, Solves}
use Rattle.planner_ffi.specs.Border.{value_left, live_left, live_cost_left, Results, results_left, values_in, HandsCost, HandsRebuilt, HandsPlan, HandsChange, HandsView, HandsMove, HandsRise, HandsRun}

-- ---- an answer that is handed over in one piece

-- Where the answer t, of which the values are said, is refused with the number x or accepted, the number r and the values of what is lent say the same.
handed : {T : Type 0} (values : T → List ℕ) (said : Result T Refusal → Said) → ((t : T) → said (Ok t) ≡ saying 0 (values t))
    → (x : ℕ) (t : T) (ns : List ℕ) (r : ℕ) (old new : T)
    → IsNumber x → said (answer x t) ≡ saying x ns → r ≡ refused (answer x t) → new ≡ value_left (answer x t) old
    → saying r (values new) ≡ saying x ns
handed values said s zero t ns r old new n w h e = rw (h, e) (sym (s t) ∙ w)
handed values said s (suc x) t ns r old new n w h e = rw (h ∙ n)

module _ (c : Call) (A : Arguments) (a : Result Float Refusal) (left : List ℕ) (w : Weighs c A a left) where
  pub hands-cost : (r : ℕ) (old new : Float) → r ≡ refused a → new ≡ value_left a old → HandsCost c A r old new left
  unfolding cost_answer cost_said said_by_weighed
  hands-cost r old new h e =
      let n : r ≡ refused (cost_answer c A) = h ∙ ap refused w.answer in
      let l : new ≡ value_left (cost_answer c A) old = e ∙ ap (λ (x : Result Float Refusal). value_left x old) w.answer in
      record {
        said =
            handed (λ f. amount f ∷ []) said_by_weighed (λ t. refl) (refusal c A) _ _ r old new (refusal-number c A) (ap said_by_weighed (sym w.answer) ∙ w.said)
            n l;
        cost = l;
        plan = w.plan;
      }

module _ (A : Arguments) (a : Result Walk Refusal) (left : List ℕ) (w : Rebuilds A a left) where
  pub hands-rebuilt : (r : ℕ) (old new : Walk) → r ≡ refused a → new ≡ value_left a old → HandsRebuilt A r old new left
  unfolding rebuild_answer rebuild_said said_by_rebuilt
  hands-rebuilt r old new h e =
      let n : r ≡ refused (rebuild_answer A) = h ∙ ap refused w.answer in
      let l : new ≡ value_left (rebuild_answer A) old = e ∙ ap (λ (x : Result Walk Refusal). value_left x old) w.answer in
      record {
        said =
            handed (λ x. amount x.cost ∷ x.begun ∷ x.completed ∷ []) said_by_rebuilt (λ t. refl) (refusal Rebuild A) _ _ r old new (refusal-number Rebuild A)
            (ap said_by_rebuilt (sym w.answer) ∙ w.said) n l;
        walk = l;
        plan = w.plan;
      }

module _ (A : Arguments) (a : Result ℕ Refusal) (seen : List ℕ) (w : Views A a seen) where
  pub hands-view : (r old new : ℕ) → r ≡ refused a → new ≡ value_left a old → HandsView A r old new seen
  unfolding view_answer view_said said_by_viewed
  hands-view r old new h e =
      let n : r ≡ refused (view_answer A) = h ∙ ap refused w.answer in
      let l : new ≡ value_left (view_answer A) old = e ∙ ap (λ (x : Result ℕ Refusal). value_left x old) w.answer in
      record {
        said =
            handed (λ x. x ∷ []) said_by_viewed (λ t. refl) (refusal View A) _ _ r old new (refusal-number View A) (ap said_by_viewed (sym w.answer) ∙ w.said) n l;
        unplaced = l;
        list = w.list;
      }

module _ (A : Arguments) (a : Result ℕ Refusal) (w : Raises A a) where
  pub hands-rise : (r old new : ℕ) → r ≡ refused a → new ≡ value_left a old → HandsRise A r old new
  unfolding road_answer road_said said_by_raised
  hands-rise r old new h e =
      let n : r ≡ refused (road_answer A) = h ∙ ap refused w.answer in
      let l : new ≡ value_left (road_answer A) old = e ∙ ap (λ (x : Result ℕ Refusal). value_left x old) w.answer in
      record {
        said =
            handed (λ x. x ∷ []) said_by_raised (λ t. refl) (refusal Roadworks A) _ _ r old new (refusal-number Roadworks A) (ap said_by_raised (sym w.answer) ∙ w.said) n
            l;
        rise = l;
      }

-- ---- a move: its value has a sign

some-move : (x : ℕ) (z : ℤ) (r : ℕ) (old new : ℤ) → IsNumber x → r ≡ refused (carried x z) → new ≡ value_left (carried x z) old
    → signed_saying r (new ∷ []) ≡ signed_saying x (z ∷ [])
some-move zero z r old new n h e = rw (h, e)
some-move (suc x) z r old new n h e = rw (h ∙ n)

module _ (A : Arguments) (a : Result ℤ Refusal) (left : List ℕ) (w : Moves A a left) where
  pub hands-move : (r : ℕ) (old new : ℤ) → r ≡ refused a → new ≡ value_left a old → HandsMove A r old new left
  unfolding move_answer move_said
  hands-move r old new h e =
      let n : r ≡ refused (move_answer A) = h ∙ ap refused w.answer in
      let l : new ≡ value_left (move_answer A) old = e ∙ ap (λ (x : Result ℤ Refusal). value_left x old) w.answer in
      record { said = some-move (refusal MoveStop A) _ r old new (refusal-number MoveStop A) n l; change = l; plan = w.plan }

-- ---- a change of the live stops

some-change : (x set k r old new : ℕ) (old_cost new_cost : Float) → IsNumber x → said_by_changed (changed x set k) ≡ saying x (set ∷ k ∷ [])
    → r ≡ refused (changed x set k) → new ≡ live_left (changed x set k) old → new_cost ≡ live_cost_left (changed x set k) old_cost
    → saying r (new ∷ amount new_cost ∷ []) ≡ saying x (set ∷ k ∷ [])
unfolding said_by_changed live_left live_cost_left
some-change zero set k r old new old_cost new_cost n w h e f = rw (h, e, f) w
some-change (suc x) set k r old new old_cost new_cost n w h e f = rw (h ∙ n)

module _ (c : Call) (A : Arguments) (a : Result Standing Refusal) (left : List ℕ) (w : Changes c A a left) where
  pub hands-change : (r old new : ℕ) (old_cost new_cost : Float) → r ≡ refused a → new ≡ live_left a old → new_cost ≡ live_cost_left a old_cost
      → HandsChange c A r old new old_cost new_cost left
  unfolding live_answer live_said
  hands-change r old new old_cost new_cost h e f =
      let n : r ≡ refused (live_answer c A) = h ∙ ap refused w.answer in
      let l : new ≡ live_left (live_answer c A) old = e ∙ ap (λ (x : Result Standing Refusal). live_left x old) w.answer in
      let g : new_cost ≡ live_cost_left (live_answer c A) old_cost = f ∙ ap (λ (x : Result Standing Refusal). live_cost_left x old_cost) w.answer in
      record {
        said =
            some-change (refusal c A) (new_live c A) (live_cost A.job (new_live c A) (made c A)) r old new old_cost new_cost (refusal-number c A)
            (ap said_by_changed (sym w.answer) ∙ w.said) n l g;
        after = l;
        cost = g;
        plan = w.plan;
      }

-- ---- a written plan

some-plan : (x r : ℕ) → IsNumber x → r ≡ refused (written x) → saying r [] ≡ saying x []
some-plan zero r n h = rw h
some-plan (suc x) r n h = rw (h ∙ n)

module _ (A : Arguments) (a : Result Unit Refusal) (left : List ℕ) (w : Writes A a left) where
  pub hands-plan : (r : ℕ) → r ≡ refused a → HandsPlan A r left
  unfolding start_answer start_said
  hands-plan r h =
      record {
        said = some-plan (refusal StartPlan A) r (refusal-number StartPlan A) (h ∙ ap refused w.answer);
        plan = w.plan;
      }

-- ---- a run

some-run : (x : ℕ) (t : Totals) (ns : List ℕ) (r : ℕ) (old new : Results) → IsNumber x → said_by_solved (solved x t) ≡ saying x ns
    → r ≡ refused (solved x t) → new ≡ results_left (solved x t) old → saying r (values_in new) ≡ saying x ns
unfolding said_by_solved results_left
some-run zero t ns r old new n w h e = rw (h, e) w
some-run (suc x) t ns r old new n w h e = rw (h ∙ n)

module _ (A : Arguments) (a : Result Totals Refusal) (left : List ℕ) (w : Solves A a left) where
  pub hands-run : (r : ℕ) (old new : Results) → r ≡ refused a → new ≡ results_left a old → HandsRun A r old new left
  unfolding solve_answer solve_said
  hands-run r old new h e =
      let n : r ≡ refused (solve_answer A) = h ∙ ap refused w.answer in
      let l : new ≡ results_left (solve_answer A) old = e ∙ ap (λ (x : Result Totals Refusal). results_left x old) w.answer in
      record {
        said = some-run (refusal Solve A) (totals (task_of A)) _ r old new (refusal-number Solve A) (ap said_by_solved (sym w.answer) ∙ w.said) n l;
        results = l;
        plan = w.plan;
        keeps = subst (λ (x : Result Totals Refusal). Keeps A x left) w.answer w.keeps;
      }
