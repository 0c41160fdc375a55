-- Specification, 17: what is promised to studios that share a plan. Nothing that a caller sees or is answered depends on anybody else's vans.
use Rattle.std.specs.Prelude.{◌≡◌, ◌≢◌, ℕ, ◌<◌, true, List, [], ◌∷◌, ℤ, Result, Ok}
use Rattle.std.proofs.Math.IntN.{sub_ℕ}
use Rattle.model.specs.declared.refusal.Refusal.{Refusal}
use Rattle.model.specs.Lists.{concat, without, count, position}
use Rattle.model.specs.Job.{Job, vehicle_count, stop_count}
use Rattle.model.specs.Plan.{Plan, Lent, decode, route_of, vehicle_of, is_placed}
use Rattle.model.specs.StopSet.{contains}
use Rattle.model.specs.Cost.{cost}
use Rattle.model.specs.declared.Move.{Move}
use Rattle.model.specs.Refusals.{looking, moving, MoveStop}
use Rattle.model.specs.Calls.{view_answer, seen_left, move_answer, plan_left}

-- ---- plans that agree for a caller

-- the same routes on the caller's vans, and the same stops of n unplaced
pub record Agree (n vans : ℕ) (P Q : Plan) : Type 0 where
  pub routes : (k : ℕ) → contains k vans ≡ true → route_of P k ≡ route_of Q k
  pub unplaced : (s : ℕ) → s < n → is_placed s P ≡ is_placed s Q

-- two lent plans of v routes that are not refused as 11, and agree
pub record Alike (v n vans : ℕ) (xs ys : List ℕ) : Type 0 where
  pub first : Lent v n xs
  pub second : Lent v n ys
  pub agree : Agree n vans (decode v xs) (decode v ys)

-- ---- a list of moves by one caller, one after another

-- what they answer
abbrev pub answers : Job → ℕ → List Move → List ℕ → List (Result ℤ Refusal)
answers J vans [] plan = []
answers J vans (m ∷ ms) plan = move_answer (moving J plan vans m) ∷ answers J vans ms (plan_left MoveStop (moving J plan vans m))

-- the lent plan after them; a refused move leaves it as it was
abbrev pub after_moves : Job → ℕ → List Move → List ℕ → List ℕ
after_moves J vans [] plan = plan
after_moves J vans (m ∷ ms) plan = after_moves J vans ms (plan_left MoveStop (moving J plan vans m))

-- ---- the claims

-- a view, refused or not, tells two plans not apart: its answer, and the list that it is written to
pub record SameView (J : Job) (vans : ℕ) (seen xs ys : List ℕ) : Type 0 where
  pub answer : view_answer (looking J xs vans seen) ≡ view_answer (looking J ys vans seen)
  pub list : seen_left (looking J xs vans seen) ≡ seen_left (looking J ys vans seen)

-- nor does a list of moves, refused or not, and the plans that they leave agree again
pub record SameMoves (J : Job) (vans : ℕ) (ms : List Move) (xs ys : List ℕ) : Type 0 where
  pub answers : answers J vans ms xs ≡ answers J vans ms ys
  pub left : Alike (vehicle_count J) (stop_count J) vans (after_moves J vans ms xs) (after_moves J vans ms ys)

-- isolation: so of every caller, and of any two plans that agree for that caller; v, n, all locations, prices and table are common to all
pub record Isolation : Type 0 where
  pub views : (J : Job) (vans : ℕ) (seen xs ys : List ℕ) → Alike (vehicle_count J) (stop_count J) vans xs ys → SameView J vans seen xs ys
  pub moves : (J : Job) (vans : ℕ) (ms : List Move) (xs ys : List ℕ) → Alike (vehicle_count J) (stop_count J) vans xs ys → SameMoves J vans ms xs ys

-- a move makes Q of P: the stop stands at its place and nowhere else, and every other stop where it was, apart from places that shift on the two routes
pub record Carried (m : Move) (P Q : Plan) : Type 0 where
  -- none is lost, and none doubled
  pub others : (s : ℕ) → s ≢ m.stop → count s (concat Q) ≡ count s (concat P)
  pub one : count m.stop (concat Q) ≡ 1
  -- where the stop is
  pub van : vehicle_of m.stop Q ≡ m.van
  pub place : position m.stop (route_of Q m.van) ≡ m.place
  -- each route without the stop is the old one without it: no other stop changes its van or its order
  pub order : (k : ℕ) → without m.stop (route_of Q k) ≡ without m.stop (route_of P k)
  -- and other vans' routes do not change at all
  pub untouched : (k : ℕ) → k ≢ m.van → k ≢ vehicle_of m.stop P → route_of Q k ≡ route_of P k

-- of an accepted move
pub record MovePromise (J : Job) (plan : List ℕ) (vans : ℕ) (m : Move) (left : List ℕ) : Type 0 where
  pub form : Lent (vehicle_count J) (stop_count J) left
  pub carried : Carried m (decode (vehicle_count J) plan) (decode (vehicle_count J) left)
  -- the change answered is the change of the whole plan's cost
  pub change : move_answer (moving J plan vans m) ≡ Ok (sub_ℕ (cost J (decode (vehicle_count J) left)) (cost J (decode (vehicle_count J) plan)))
