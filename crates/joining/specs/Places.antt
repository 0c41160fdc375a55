-- A route without the stop at one of its places.
use Rattle.std.specs.Prelude.{ℕ, suc, ◌++◌, take, drop}
use Rattle.model.specs.Plan.{Route}

-- route r without the stop at place i
abbrev pub leaving_out : ℕ → Route → Route
leaving_out i r = take i r ++ drop (suc i) r
