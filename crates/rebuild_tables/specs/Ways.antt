-- What an arrangement costs by a table of ways.
use Rattle.std.specs.Prelude.{ℕ, suc, ◌+◌, ◌-◌, List, [], ◌∷◌, length}
use Rattle.model.specs.Lists.{concat}
use Rattle.model.specs.Cost.{price, missed_cost}
use Rattle.rebuild_ways.specs.declared.Ways.{Ways}
use Rattle.rebuild_ways.specs.Ways.{way_at, own_at, prices_at, base_at}
use Rattle.rebuild_fillings.specs.Walk.{Filling}

-- the way from a row through some stops to a column
unfoldable pub way_by : Ways → ℕ → List ℕ → ℕ → ℕ
way_by ways r [] c = way_at ways r c
way_by ways r (s ∷ x) c = way_at ways r s + way_by ways s x c

-- the way from a row to the last of some stops
unfoldable pub gone_by : Ways → ℕ → List ℕ → ℕ
gone_by ways r [] = 0
gone_by ways r (s ∷ x) = way_at ways r s + gone_by ways s x

-- the length of gap q's route with x in the gap
unfoldable pub route_by : Ways → ℕ → List ℕ → ℕ
unfolding way_by
route_by ways q x = own_at ways q + way_by ways (8 + q) x (8 + q)

-- what the routes of the gaps from q on cost with these sequences in them
unfoldable pub driven_by : Ways → ℕ → Filling → ℕ
unfolding route_by
driven_by ways q [] = 0
driven_by ways q (x ∷ xs) = price (prices_at ways) (route_by ways q x) + driven_by ways (suc q) xs

-- what the plan of a filling of m stops costs
unfoldable pub cost_by : Ways → ℕ → Filling → ℕ
unfolding driven_by
cost_by ways m xs = base_at ways + (driven_by ways 0 xs + missed_cost (prices_at ways) (m - length (concat xs)))
