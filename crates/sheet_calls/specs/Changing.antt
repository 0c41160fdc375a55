-- The arguments of arrive and cancel, from the three numbers of a sheet: a stop, and the low and the high 32 bits of the set of live stops.
use Rattle.std.specs.Prelude.{ℕ, ◌+◌, ◌*◌, ◌^◌, List, get_or}
use Rattle.model.specs.Job.{Job}
use Rattle.model.specs.Refusals.{Arguments, naming}

-- the set of live stops
abbrev pub live_of : List ℕ → ℕ
live_of given = get_or given 1 0 + get_or given 2 0 * 2 ^ 32

abbrev pub changing : Job → List ℕ → List ℕ → Arguments
changing J plan given = naming J plan (live_of given) (get_or given 0 0)
