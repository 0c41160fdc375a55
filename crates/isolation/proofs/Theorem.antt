-- Specification, 17: what one caller sees and is answered, by views and by every list of moves, is the same on plans that agree for that caller; and what
-- an accepted move makes of the plan.
use Prim.Native.Nat.{ℕ, zero, suc, ◌<◌}
use native.Mathlib.Omega.{arith}
use mathlib.Core.Path.{◌≡◌, refl, sym, ap, ◌∙◌}
use mathlib.Core.List.{List, [], ◌∷◌}
use lib.ListN.{length}
use Rattle.std.specs.Prelude.{Ok}
use Rattle.model.specs.Job.{Job, vehicle_count, stop_count}
use Rattle.model.specs.Plan.{Plan, Lent, encode, decode}
use Rattle.model.specs.Vans.{view, moved, own_cost, cost_change}
use Rattle.model.specs.declared.Move.{Move}
use Rattle.model.specs.Refusals.{looking, moving, View, MoveStop, refusal}
use Rattle.model.specs.Calls.{carried, left_by, seen_by, made, view_answer, seen_left, move_answer, plan_left}
use Rattle.model.specs.Studios.{Agree, Alike, SameView, SameMoves, Isolation, MovePromise}
use Rattle.model.proofs.PlanForm.{decode-encode, lent-encode, lent_length}
use Rattle.model.proofs.Vans.{moved_length, moved-once, moved-below}
use Rattle.call_refusals.proofs.Accepted.{lent, Allowed, allowed}
use Rattle.call_refusals.proofs.Alike as R
use Rattle.isolation.proofs.Agree.{view-alike, set-alike, cost-alike, bad-alike, moved-alike}
use Rattle.isolation.proofs.Carried as C
use Rattle.isolation.proofs.Change.{change-whole}

-- ---- a view of two plans that agree

module _ (J : Job) (vans : ℕ) (seen xs ys : List ℕ) (A : Alike (vehicle_count J) (stop_count J) vans xs ys) where
  view-refused : refusal View (looking J xs vans seen) ≡ refusal View (looking J ys vans seen)
  view-refused = R.view-alike J xs ys A.first A.second vans seen

  same_view : SameView J vans seen xs ys
  unfolding view_answer seen_left
  same_view =
      let v : ℕ = vehicle_count J in
      let n : ℕ = stop_count J in
      let P : Plan = decode v xs in
      let Q : Plan = decode v ys in
      let long : length P ≡ length Q = lent_length v n xs A.first ∙ sym (lent_length v n ys A.second) in
      record {
        answer = rw (view-refused, set-alike n vans P Q long A.agree);
        list = rw (view-refused, view-alike n vans P Q long A.agree) (written (refusal View (looking J ys vans seen)));
      }
    where
      written : (k : ℕ)
          → seen_by k (looking J xs vans seen) (view vans (decode (vehicle_count J) ys))
          ≡ seen_by k (looking J ys vans seen) (view vans (decode (vehicle_count J) ys))
      written zero = refl
      written (suc k) = refl

-- ---- a move that is accepted

module _ (J : Job) (plan : List ℕ) (vans : ℕ) (m : Move) (e : refusal MoveStop (moving J plan vans m) ≡ 0) where
  abbrev old : Plan
  old = decode (vehicle_count J) plan

  old-lent : Lent (vehicle_count J) (stop_count J) plan
  old-lent = lent MoveStop (moving J plan vans m) e refl

  old-long : length old ≡ vehicle_count J
  old-long = lent_length (vehicle_count J) (stop_count J) plan old-lent

  may : Allowed J plan vans m
  may = allowed J plan vans m e

  known-van : m.van < length old
  known-van = omega (arith, old-long, may.van)

  -- the new plan is in plan form
  new-lent : Lent (vehicle_count J) (stop_count J) (encode (stop_count J) (moved m old))
  new-lent =
      lent-encode (vehicle_count J) (stop_count J) (moved m old) (moved_length m old ∙ old-long) (moved-once m old old-lent.once known-van)
      (moved-below m old old-lent.once known-van (stop_count J) may.stop old-lent.below)

  new-plan : decode (vehicle_count J) (encode (stop_count J) (moved m old)) ≡ moved m old
  new-plan = decode-encode (stop_count J) (moved m old) (vehicle_count J) (moved_length m old ∙ old-long)

  left_is : plan_left MoveStop (moving J plan vans m) ≡ encode (stop_count J) (moved m old)
  unfolding plan_left made
  left_is = rw e

  -- the plan left is in plan form, the stop is where it was to go, every other where it was, and the answer is the change of the whole plan's cost
  pub move-promise : MovePromise J plan vans m (plan_left MoveStop (moving J plan vans m))
  unfolding move_answer
  move-promise =
      record {
        form = rw left_is new-lent;
        carried = rw (left_is, new-plan) (C.carried m old old-lent.once known-van may.place);
        change = rw (e, left_is, new-plan, change-whole J vans m old old-lent.once may.held known-van old-lent.below may.stop);
      }

-- ---- a move on two plans that agree

module _ (J : Job) (vans : ℕ) (m : Move) (xs ys : List ℕ) (A : Alike (vehicle_count J) (stop_count J) vans xs ys) where
  abbrev P : Plan
  P = decode (vehicle_count J) xs

  abbrev Q : Plan
  Q = decode (vehicle_count J) ys

  both_long : length P ≡ length Q
  both_long = lent_length (vehicle_count J) (stop_count J) xs A.first ∙ sym (lent_length (vehicle_count J) (stop_count J) ys A.second)

  move-refused : refusal MoveStop (moving J xs vans m) ≡ refusal MoveStop (moving J ys vans m)
  move-refused =
      R.move-alike J xs ys A.first A.second vans m
      (bad-alike (stop_count J) vans P Q both_long A.agree A.first.below A.second.below A.first.once A.second.once m)

  -- where it is accepted
  module _ (x : refusal MoveStop (moving J xs vans m) ≡ 0) (y : refusal MoveStop (moving J ys vans m) ≡ 0) where
    agree-again : Agree (stop_count J) vans (moved m P) (moved m Q)
    agree-again =
        moved-alike (stop_count J) vans P Q both_long A.agree A.first.below A.second.below A.first.once A.second.once m
        (known-van J xs vans m x)

    alike-again : Alike (vehicle_count J) (stop_count J) vans (encode (stop_count J) (moved m P)) (encode (stop_count J) (moved m Q))
    alike-again =
        record {
          first = new-lent J xs vans m x;
          second = new-lent J ys vans m y;
          agree = rw (new-plan J xs vans m x, new-plan J ys vans m y) agree-again;
        }

    change-alike : cost_change J vans m P ≡ cost_change J vans m Q
    unfolding cost_change
    change-alike =
        let before : own_cost J vans P ≡ own_cost J vans Q = cost-alike (stop_count J) vans P Q both_long A.agree J refl in
        let after : own_cost J vans (moved m P) ≡ own_cost J vans (moved m Q) =
        cost-alike (stop_count J) vans (moved m P) (moved m Q) (moved_length m P ∙ both_long ∙ sym (moved_length m Q)) agree-again J refl
        in
        rw (before, after)

  same_answer : move_answer (moving J xs vans m) ≡ move_answer (moving J ys vans m)
  unfolding move_answer
  same_answer = rw move-refused (go (refusal MoveStop (moving J ys vans m)) refl)
    where
      go : (k : ℕ) → refusal MoveStop (moving J ys vans m) ≡ k → carried k (cost_change J vans m P) ≡ carried k (cost_change J vans m Q)
      go zero e = ap Ok (change-alike (move-refused ∙ e) e)
      go (suc k) e = refl

  same_left : Alike (vehicle_count J) (stop_count J) vans (plan_left MoveStop (moving J xs vans m)) (plan_left MoveStop (moving J ys vans m))
  unfolding plan_left made
  same_left = rw move-refused (go (refusal MoveStop (moving J ys vans m)) refl)
    where
      go : (k : ℕ) → refusal MoveStop (moving J ys vans m) ≡ k
          → Alike (vehicle_count J) (stop_count J) vans (left_by k (moving J xs vans m) (moved m P)) (left_by k (moving J ys vans m) (moved m Q))
      go zero e = alike-again (move-refused ∙ e) e
      go (suc k) e = A

-- ---- every list of moves

same-moves : (J : Job) (vans : ℕ) (ms : List Move) (xs ys : List ℕ) → Alike (vehicle_count J) (stop_count J) vans xs ys → SameMoves J vans ms xs ys
same-moves J vans [] xs ys A = record { answers = refl; left = A }
same-moves J vans (m ∷ ms) xs ys A =
    let rest = same-moves J vans ms (plan_left MoveStop (moving J xs vans m)) (plan_left MoveStop (moving J ys vans m)) (same_left J vans m xs ys A) in
    record { answers = rw (same_answer J vans m xs ys A, rest.answers); left = rest.left }

-- no view and no list of moves, refused or not, tells a caller anything of other vans
pub isolation : Isolation
isolation = record { views = same_view; moves = same-moves }
