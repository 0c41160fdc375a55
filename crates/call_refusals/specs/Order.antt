-- Stretches of the table of refusals that several calls test, each as the first number of it that applies, or 0.
use Rattle.std.specs.Prelude.{ℕ, zero, suc, ◌/◌, cond, List, length}
use Rattle.model.specs.Refusals.{bad_vehicles, bad_stops, bad_table, bad_length, bad_locations, bad_distances, bad_prices, bad_smoothing, bad_limit}
use Rattle.model.specs.declared.Prices.{Prices}
use Rattle.model.specs.declared.Road.{Road}
use Rattle.model.specs.Roads.{bad_road, bad_entry}

-- the first of two that is not 0
abbrev pub first : ℕ → ℕ → ℕ
first zero b = b
first (suc a) b = suc a

-- 1 to 4
unfoldable pub of_shape : List ℕ → List ℕ → ℕ → List ℕ → List ℕ → ℕ
of_shape vs ss l ds plan =
    cond (bad_vehicles vs) 1
    (cond (bad_stops ss) 2 (cond (bad_table l ds) 3 (cond (bad_length (length vs / 2) (length ss) plan) 4 0)))

-- 6 and 7
unfoldable pub of_entries : List ℕ → List ℕ → ℕ → List ℕ → ℕ
of_entries vs ss l ds = cond (bad_locations vs ss l) 6 (cond (bad_distances ds) 7 0)

-- 6 and 7 where a road gets longer
unfoldable pub of_road : List ℕ → List ℕ → ℕ → List ℕ → Road → ℕ
unfolding of_entries
of_road vs ss l ds road = cond (bad_road l road) 6 (first (of_entries vs ss l ds) (cond (bad_entry l ds road) 7 0))

-- 1 to 4 and 6 to 8: what is asked of the job by every call that knows its prices
unfoldable pub of_job : List ℕ → List ℕ → ℕ → List ℕ → Prices → List ℕ → ℕ
of_job vs ss l ds p plan = first (of_shape vs ss l ds plan) (first (of_entries vs ss l ds) (cond (bad_prices p) 8 0))

-- 8 to 10
unfoldable pub of_numbers : Prices → ℕ → ℕ → ℕ
of_numbers p c limit = cond (bad_prices p) 8 (cond (bad_smoothing c) 9 (cond (bad_limit limit) 10 0))
