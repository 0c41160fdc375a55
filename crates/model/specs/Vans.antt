-- Specification, 16: studios share a plan, and a caller holds a set of vans. What that caller sees, what a move of a stop makes of the plan, and what it changes
-- in cost. The set is one number, van 0 its lowest bit: `contains k vans`.
use Rattle.std.specs.Prelude.{◌≡◌, ℕ, suc, ◌+◌, ◌^◌, Bool, true, false, cond, ◌&&◌, ◌||◌, not, List, [], ◌∷◌, leb, ltb, ℤ, length}
use Rattle.std.proofs.Math.IntN.{sub_ℕ}
use Rattle.model.specs.Lists.{up_from}
use Rattle.model.specs.Job.{Job, stop_count}
use Rattle.model.specs.Plan.{Plan, Route, route_of, vehicle_of, is_placed}
use Rattle.model.specs.StopSet.{contains, set_of}
use Rattle.model.specs.Cost.{over_routes, route_price, missed_cost}
use Rattle.model.specs.Live.{unplaced_of, placing, cancelled}
use Rattle.model.specs.declared.Move.{Move}

-- ---- what a caller sees

-- the unplaced stops of n, lowest first: those on no route, whatever is live
unfoldable pub unplaced : ℕ → Plan → List ℕ
unplaced n P = unplaced_of P (up_from 0 n)

-- the set of unplaced stops
unfoldable pub unplaced_set : ℕ → Plan → ℕ
unfolding unplaced
unplaced_set n P = set_of (unplaced n P)

-- the routes of other vans emptied; the first route is that of van k
unfoldable pub view_from : ℕ → ℕ → Plan → Plan
view_from vans k [] = []
view_from vans k (r ∷ P) = cond (contains k vans) r [] ∷ view_from vans (suc k) P

-- the view of a plan: the routes of other vans emptied
unfoldable pub view : ℕ → Plan → Plan
unfolding view_from
view vans P = view_from vans 0 P

-- ---- a move

-- stop s to place i of van k
abbrev pub move_to : ℕ → ℕ → ℕ → Move
move_to s k i = record { stop = s; van = k; place = i }

-- the plan after a move: the stop leaves its route, where it is on one, and is put in at its place, which is counted after that
unfoldable pub moved : Move → Plan → Plan
unfolding cancelled
moved m P = placing m.stop (cancelled m.stop P) m.van m.place

-- ---- the change in cost

-- what the route of van k costs a caller: nothing where the van is another's
abbrev pub own_price : Job → ℕ → ℕ → Route → ℕ
own_price J vans k r = cond (contains k vans) (route_price J k r) 0

-- the sum over the caller's vans of (L × w + L × L × q) + unplaced stops × M
unfoldable pub own_cost : Job → ℕ → Plan → ℕ
unfolding unplaced
own_cost J vans P = over_routes (own_price J vans) 0 P + missed_cost J.prices (length (unplaced (stop_count J) P))

-- what a move changes in it, with its sign: new − old
unfoldable pub cost_change : Job → ℕ → Move → Plan → ℤ
unfolding own_cost moved
cost_change J vans m P = sub_ℕ (own_cost J vans (moved m P)) (own_cost J vans P)

-- ---- what is refused as 15

-- the set names a van not below v
unfoldable pub bad_vans : ℕ → ℕ → Bool
bad_vans v vans = leb (2 ^ v) vans

-- the stop is on a van outside the set
unfoldable pub on_others_van : ℕ → ℕ → Plan → Bool
on_others_van vans s P = is_placed s P && not (contains (vehicle_of s P) vans)

-- the place is beyond the end of its route, after the stop has left its own; the end itself is a place
unfoldable pub beyond_end : Move → Plan → Bool
unfolding cancelled
beyond_end m P = ltb (length (route_of (cancelled m.stop P) m.van)) m.place

-- one of these, or the target van is outside the set
unfoldable pub bad_move : ℕ → Move → Plan → Bool
unfolding on_others_van beyond_end
bad_move vans m P = on_others_van vans m.stop P || (not (contains m.van vans) || beyond_end m P)

-- The same as a statement, for the functions that make a move: the caller holds the vans that it changes.
pub record Held (vans : ℕ) (m : Move) (P : Plan) : Type 0 where
  pub source : on_others_van vans m.stop P ≡ false
  pub target : contains m.van vans ≡ true
