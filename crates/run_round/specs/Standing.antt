-- Where a run stands between its rounds: what the code carries, and the state of the definition that it is.
use Rattle.std.specs.Prelude.{◌≡◌, ℕ, ◌+◌, ◌*◌, ◌≤◌, ◌<◌, cond, List, ltb, Float, length}
use Rattle.model.specs.Whole.{whole, exact}
use Rattle.model.specs.Job.{Job}
use Rattle.model.specs.Cost.{cost}
use Rattle.model.specs.Settle.{averaged}
use Rattle.model.specs.Run.{task_for, State, round_from}
use Rattle.distance.specs.declared.tariff.Tariff.{Tariff}
use Rattle.solution.specs.declared.plan.Plan.{Plan}
use Rattle.solution.specs.Held.{routes}
use Rattle.delivery.specs.Held.{IsJobOf}
use Rattle.nearest_neighbor.specs.Answers.{Neighbours}
use Rattle.model.specs.declared.job.Settings.{Settings}
use Rattle.run_round.specs.declared.Progress.{Progress}

-- the counts can go on
pub record Countable (p : Progress) (picks c : ℕ) : Type 0 where
  pub smooth : 1 ≤ c
  pub few : picks ≤ 2
  pub more : p.rounds < 4294967295
  pub counted : p.improving ≤ p.rounds
  pub early : p.place ≤ 5 * p.rounds

-- r is what is carried on from p after a round that leaves a plan of cost `new` and drew so many picks
pub record Counted (p : Progress) (new : Float) (picks c : ℕ) (r : Progress) : Type 0 where
  pub cost : r.cost ≡ new
  pub rounds : r.rounds ≡ p.rounds + 1
  pub place : r.place ≡ p.place + 3 + picks
  pub one : r.improving ≤ p.improving + 1
  pub is : (m k : ℕ) → m ≤ exact → k ≤ exact → p.cost ≡ whole m → new ≡ whole k
      → (r.averages ≡ averaged c p.averages m k) × (r.improving ≡ p.improving + cond (ltb k m) 1 0)

-- the state of the definition
abbrev pub state_of : Plan → Progress → State
state_of plan p =
    record { plan = routes plan; averages = p.averages; done = p.rounds; improving = p.improving; place = p.place }

-- c is what a plan costs, for every job that fits
abbrev pub CostOf : Tariff → Plan → Float → Type 0
CostOf t plan c = (J : Job) → IsJobOf J t plan → c ≡ whole (cost J (routes plan))

-- what does not change in a run: the tariff, two stops or more, S(x) of each stop, the settings
pub record Course (t : Tariff) (n : ℕ) (near : List ℕ) (s : Settings) : Type 0 where
  pub several : 2 ≤ n
  pub long : length near ≡ 4096
  pub rows : Neighbours t.legs.table n near
  pub some : 0 < length s.draws.now
  pub smooth : 1 ≤ s.smoothing

-- what does: the plan, its cost, and the counts
pub record Standing (t : Tariff) (plan : Plan) (p : Progress) : Type 0 where
  pub costs : CostOf t plan p.cost
  pub counted : p.improving ≤ p.rounds
  pub early : p.place ≤ 5 * p.rounds

-- a round takes a plan with p to a plan of the same sizes with r: it stands again, and for every job that fits the state is the one that the
-- definition's round leaves
pub record Rounded (t : Tariff) (s : Settings) (old : Plan) (p : Progress) (new : Plan) (r : Progress) : Type 0 where
  pub vehicles : new.v ≡ old.v
  pub stops : new.n ≡ old.n
  pub stands : Standing t new r
  pub rounds : r.rounds ≡ p.rounds + 1
  pub is : (J : Job) (limit : ℕ) → IsJobOf J t old → state_of new r ≡ (round_from (task_for J s.smoothing limit s.draws.now) (state_of old p)).end
