-- The arguments of move_stop, from the four numbers of a sheet: a set of vans, a stop, and the van and the place where it is to go.
use Rattle.std.specs.Prelude.{List, ℕ, get_or}
use Rattle.model.specs.Job.{Job}
use Rattle.model.specs.Vans.{move_to}
use Rattle.model.specs.Refusals.{Arguments, moving}

abbrev pub carrying : Job → List ℕ → List ℕ → Arguments
carrying J plan given = moving J plan (get_or given 0 0) (move_to (get_or given 1 0) (get_or given 2 0) (get_or given 3 0))
