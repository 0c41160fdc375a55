-- The road of roadworks, from the three numbers of a sheet: its two locations, and how many metres more it has.
use Rattle.std.specs.Prelude.{ℕ, List, get_or}
use Rattle.model.specs.declared.Road.{Road}
use Rattle.model.specs.Roads.{road_from}

abbrev pub road_of : List ℕ → Road
road_of given = road_from (get_or given 0 0) (get_or given 1 0) (get_or given 2 0)
