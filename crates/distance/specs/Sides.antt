-- The locations of a leg's two sides.
use Rattle.std.specs.Prelude.{ℕ}
use Rattle.model.specs.Job.{Job}
use Rattle.model.specs.Legs.{leaves, reaches}
use Rattle.distance.specs.Table.{start_at, end_at}
use Rattle.distance.specs.declared.Side.{Side}
use Rattle.distance.specs.declared.Side.TheVariants as S

-- of a place of the job
abbrev pub leads : Job → Side → ℕ → ℕ
leads J S.Start p = leaves J p
leads J S.End p = reaches J p

-- and of any place; the number of locations, which is no location, where a place is not there
abbrev pub leads_at : Job → Side → ℕ → ℕ
leads_at J S.Start p = start_at J p
leads_at J S.End p = end_at J p
