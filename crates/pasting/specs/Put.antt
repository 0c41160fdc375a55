-- What stands in a list once another has been written into it.
use Rattle.std.specs.Prelude.{ℕ, ◌+◌, ◌-◌, List, ◌++◌, length, take, drop, replicate}
use Rattle.model.specs.Plan.{unused}

-- xs with ys in the place of what stands from index `at` on
abbrev pub put : List ℕ → ℕ → List ℕ → List ℕ
put xs at ys = take at xs ++ (ys ++ drop (at + length ys) xs)

-- a stops area of m places: the stops, and `unused` in the places that are left
abbrev pub area_of : ℕ → List ℕ → List ℕ
area_of m stops = stops ++ replicate (m - length stops) unused
