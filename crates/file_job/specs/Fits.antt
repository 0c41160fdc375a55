-- How long the lists of a file's task are at most.
use Rattle.std.specs.Prelude.{◌≤◌}
use Rattle.file_job.specs.declared.header.Header.{Header}

-- the lists of a task with this header have room in its arrays
pub record Fits (h : Header) : Type 0 where
  pub vehicles : h.vehicles ≤ 16
  pub stops : h.stops ≤ 64
  pub locations : h.locations ≤ 80
  pub draws : h.draws ≤ 1024
