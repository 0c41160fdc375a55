-- How long the lists of a file's task are at most.
use mathlib.Core.Path.{◌≡◌, ap}
use Prim.Native.Nat.{◌+◌, ◌*◌, ◌/◌, ◌≤◌}
use native.Mathlib.Omega.{arith}
use lib.ListN.{length, length-take}
use Rattle.model.specs.Job.{Job}
use Rattle.file_job.specs.declared.task.Task as file
use Rattle.file_job.specs.Reading.{task_of}

module _ (t : file.Task) where
  few-vehicles : length (task_of t).job.vehicles ≤ 32
  few-vehicles = omega (arith, t.fits.vehicles, length-take (t.header.vehicles * 2) t.lists.vehicles)

  few-stops : length (task_of t).job.stops ≤ 64
  few-stops = omega (arith, t.fits.stops, length-take t.header.stops t.lists.stops)

  -- so a job that is the task's has a short plan
  pub places-few : (J : Job) → J ≡ (task_of t).job → length J.vehicles / 2 + length J.stops ≤ 80
  places-few J same = omega (arith, ap (λ x. length x.vehicles) same, ap (λ x. length x.stops) same, few-vehicles, few-stops)
