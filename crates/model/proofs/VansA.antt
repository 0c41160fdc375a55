-- Views and moves on tiny jobs, most of them Job A, computed from the definitions. What each has to be was found without them, by hand or by a small program.
use mathlib.Core.Path.{◌≡◌, refl}
use Prim.Native.Nat.{ℕ, zero, suc, ◌<◌}
use native.Mathlib.Omega.{arith}
use mathlib.Core.Bool.{true, false≢true}
use mathlib.Core.List.{List, [], ◌∷◌}
use lib.IntN.{ℤ, pos, negsuc}
use Rattle.model.specs.Job.{Job}
use Rattle.model.specs.Plan.{unused, decode, route_of, is_placed}
use Rattle.model.specs.StopSet.{contains}
use Rattle.model.specs.Sums.{job_a}
use Rattle.model.specs.Vans.{move_to, unplaced_set, view, moved, own_cost, cost_change, bad_vans, bad_move}
use Rattle.model.specs.declared.Move.{Move}
use Rattle.model.specs.Refusals.{Arguments, looking, moving, MoveStop}
use Rattle.model.specs.Calls.{Said, SignedSaid, view_answer, seen_left, move_answer, plan_left, said_by_viewed, said_by_moved}
use Rattle.model.specs.Studios.{Alike, answers, after_moves}
use Rattle.std.specs.Prelude.{Ok, Err}
use Rattle.model.specs.declared.refusal.Refusal.TheVariants.{Vans}
use Rattle.model.proofs.Computed.{computed}
use Rattle.model.proofs.DayA.{tiny, table_a, only1, both}
use Rattle.model.proofs.PlanForm.{is_plan-lent}
use Rattle.model.proofs.Vans.{van-lt}

-- everything of views and moves
unfoldable vans_computed : Unit {0}
unfolding computed unplaced_set view moved own_cost cost_change bad_vans bad_move view_answer seen_left move_answer said_by_viewed said_by_moved
vans_computed = tt

-- Job A with a second van, from location 1 to location 2, and with a third as the first
abbrev two : Job
two = tiny (0 ∷ 0 ∷ 1 ∷ 2 ∷ []) table_a 100

abbrev three : Job
three = tiny (0 ∷ 0 ∷ 1 ∷ 2 ∷ 0 ∷ 0 ∷ []) table_a 100

-- what a view says, and the list that it is written to
abbrev looked : Job → List ℕ → ℕ → List ℕ → Said × List ℕ
looked job plan vans seen =
    let A : Arguments = looking job plan vans seen in
    (said_by_viewed (view_answer A), seen_left A)

-- accepted: the set of unplaced stops, and what is seen
abbrev shows : ℕ → List ℕ → Said × List ℕ
shows set seen = (record { number = 0; values = set ∷ [] }, seen)

-- refused, and the list as it was
abbrev hidden : ℕ → List ℕ → Said × List ℕ
hidden k seen = (record { number = k; values = [] }, seen)

-- what a move says, and the plan that it leaves
abbrev tried : Job → List ℕ → ℕ → Move → SignedSaid × List ℕ
tried job plan vans m =
    let A : Arguments = moving job plan vans m in
    (said_by_moved (move_answer A), plan_left MoveStop A)

-- accepted: the change, and the new plan
abbrev changes : ℤ → List ℕ → SignedSaid × List ℕ
changes z plan = (record { number = 0; values = z ∷ [] }, plan)

-- refused, and the plan as it was
abbrev refused : ℕ → List ℕ → SignedSaid × List ℕ
refused k plan = (record { number = k; values = [] }, plan)

-- the plan [0, 1] of Job A, and a list of numbers that no view writes
abbrev other : List ℕ
other = 2 ∷ 0 ∷ 1 ∷ []

abbrev sevens : List ℕ
sevens = 7 ∷ 7 ∷ 7 ∷ []

-- plans of two vans: [0] and [1], and [0] with stop 1 unplaced
abbrev each : List ℕ
each = 1 ∷ 1 ∷ 0 ∷ 1 ∷ []

abbrev first : List ℕ
first = 1 ∷ 0 ∷ 0 ∷ unused ∷ []

-- and two of three vans: stop 1 is on the third, and stop 0 on the first, or on the second
abbrev on_first : List ℕ
on_first = 1 ∷ 0 ∷ 1 ∷ 0 ∷ 1 ∷ []

abbrev on_second : List ℕ
on_second = 0 ∷ 1 ∷ 1 ∷ 0 ∷ 1 ∷ []

pub record Rows : Type 0 where
  -- views of the plan [1]: by the caller who holds the van, and by one who holds none; stop 0 is unplaced for both
  pub own : looked (job_a 1 0) only1 1 sevens ≡ shows 1 only1
  pub none : looked (job_a 1 0) only1 0 sevens ≡ shows 1 (0 ∷ unused ∷ unused ∷ [])
  -- a set that names van 1 of one; no plan; a list that is too short
  pub beyond : looked (job_a 1 0) only1 2 sevens ≡ hidden 15 sevens
  pub no_plan : looked (job_a 1 0) (1 ∷ 1 ∷ 7 ∷ []) 1 sevens ≡ hidden 11 sevens
  pub short : looked (job_a 1 0) only1 1 (7 ∷ 7 ∷ []) ≡ hidden 4 (7 ∷ 7 ∷ [])
  -- of two vans: not even the other's length is seen
  pub seen_first : looked two each 1 (7 ∷ sevens) ≡ shows 0 (1 ∷ 0 ∷ 0 ∷ unused ∷ [])
  pub seen_second : looked two each 2 (7 ∷ sevens) ≡ shows 0 (0 ∷ 1 ∷ 1 ∷ unused ∷ [])
  -- the cost of the caller's vans alone, and the unplaced stops
  pub cost_first : own_cost two 1 (decode 2 each) ≡ 4
  pub cost_second : own_cost two 2 (decode 2 each) ≡ 9
  pub cost_missed : own_cost two 2 (decode 2 first) ≡ 109
  -- [0, 1] to [1, 0], cost 20 to 6, and back
  pub cheaper : tried (job_a 1 0) other 1 (move_to 1 0 0) ≡ changes (negsuc 13) both
  pub dearer : tried (job_a 1 0) both 1 (move_to 0 0 0) ≡ changes (pos 14) other
  -- the place is counted after the taking out: place 1 of what is left is behind stop 1
  pub counted : moved (move_to 0 0 1) ((0 ∷ 1 ∷ 2 ∷ []) ∷ []) ≡ ((1 ∷ 0 ∷ 2 ∷ []) ∷ [])
  -- and its end is a place, one further is not
  pub append : tried (job_a 1 0) other 1 (move_to 1 0 1) ≡ changes (pos 0) other
  pub past : tried (job_a 1 0) other 1 (move_to 1 0 2) ≡ refused 15 other
  -- an unplaced stop: [1] to [1, 0], cost 112 to 6
  pub placed : tried (job_a 1 0) only1 1 (move_to 0 0 1) ≡ changes (negsuc 105) both
  -- 15: a caller with no van, a set that names van 1 of one; 12 comes before it
  pub no_van : tried (job_a 1 0) other 0 (move_to 1 0 0) ≡ refused 15 other
  pub two_of_one : tried (job_a 1 0) other 3 (move_to 1 0 0) ≡ refused 15 other
  pub no_stop : tried (job_a 1 0) other 3 (move_to 2 0 0) ≡ refused 12 other
  -- from the other van by a caller who holds only the first, and by one who holds both
  pub others : tried two each 1 (move_to 1 0 0) ≡ refused 15 each
  pub held : tried two each 3 (move_to 1 0 0) ≡ changes (pos 2) (2 ∷ 0 ∷ 1 ∷ 0 ∷ [])
  -- and to the other van
  pub target : tried two first 1 (move_to 1 1 0) ≡ refused 15 first
  -- a refused move leaves the plan, so the second of these is as if it were the first
  pub list : answers two 2 (move_to 0 1 0 ∷ move_to 1 1 0 ∷ []) first ≡ (Err Vans ∷ Ok (negsuc 99) ∷ [])
  pub left : after_moves two 2 (move_to 0 1 0 ∷ move_to 1 1 0 ∷ []) first ≡ each
  -- two plans, one view
  pub one_way : looked three on_first 4 (7 ∷ 7 ∷ sevens) ≡ shows 0 (0 ∷ 0 ∷ 1 ∷ 1 ∷ unused ∷ [])
  pub other_way : looked three on_second 4 (7 ∷ 7 ∷ sevens) ≡ shows 0 (0 ∷ 0 ∷ 1 ∷ 1 ∷ unused ∷ [])

pub rows : Rows
unfolding vans_computed
rows =
    record {
      own = refl;
      none = refl;
      beyond = refl;
      no_plan = refl;
      short = refl;
      seen_first = refl;
      seen_second = refl;
      cost_first = refl;
      cost_second = refl;
      cost_missed = refl;
      cheaper = refl;
      dearer = refl;
      counted = refl;
      append = refl;
      past = refl;
      placed = refl;
      no_van = refl;
      two_of_one = refl;
      no_stop = refl;
      others = refl;
      held = refl;
      target = refl;
      list = refl;
      left = refl;
      one_way = refl;
      other_way = refl;
    }

-- Plans that differ on the first two vans and agree for the caller who holds the third, so that isolation is a promise about something
pub alike : Alike 3 2 4 on_first on_second
unfolding vans_computed
alike =
    record {
      first = is_plan-lent 3 2 on_first refl refl;
      second = is_plan-lent 3 2 on_second refl refl;
      agree = record { routes = λ k c. same k (van-lt 3 4 k refl c) c; unplaced = still };
    }
  where
    same : (k : ℕ) → k < 3 → contains k 4 ≡ true → route_of (decode 3 on_first) k ≡ route_of (decode 3 on_second) k
    same zero h c = absurd (false≢true c)
    same (suc zero) h c = absurd (false≢true c)
    same (suc (suc zero)) h c = refl
    same (suc (suc (suc k))) h c = absurd (omega arith)

    still : (s : ℕ) → s < 2 → is_placed s (decode 3 on_first) ≡ is_placed s (decode 3 on_second)
    still zero h = refl
    still (suc zero) h = refl
    still (suc (suc s)) h = absurd (omega arith)
