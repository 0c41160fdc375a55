-- What is read from a file: its first line, its draws, and the whole task.
use Rattle.std.specs.Prelude.{◌≡◌, ℕ, ◌+◌, ◌*◌, ◌^◌, ◌≤◌, ◌<◌, List, [], ◌∷◌, length, take, replicate, Option, Some, None, Result, Ok, Err}
use Rattle.model.specs.declared.refusal.Refusal.{Refusal}
use Rattle.model.specs.Numbers.{number_of}
use Rattle.model.specs.Job.{job_of, vehicle_count, stop_count}
use Rattle.model.specs.Run.{Task, task_for}
use Rattle.model.specs.File.{line, draw_lines, largest_number, NoneOver, Stands, Accepted, AcceptedAt}
use Rattle.file_job.specs.declared.FirstNumbers.{FirstNumbers}
use Rattle.file_job.specs.declared.header.Header.{Header}
use Rattle.file_job.specs.declared.task.Lists.{Lists}
use Rattle.file_job.specs.declared.task.Task as file
use Rattle.file_lines.specs.Standing.{LinesAt, over}

-- ---- the first line

-- v n l w q M c limit
abbrev pub first_list : FirstNumbers → List ℕ
first_list f =
    f.vehicles ∷ f.stops ∷ f.locations ∷ f.linear ∷ f.quadratic ∷ f.missed ∷ f.smoothing ∷ f.limit ∷ []

-- each number is within the limit of a file's numbers
pub record InRange (f : FirstNumbers) : Type 0 where
  pub vehicles : f.vehicles ≤ largest_number
  pub stops : f.stops ≤ largest_number
  pub locations : f.locations ≤ largest_number
  pub linear : f.linear ≤ largest_number
  pub quadratic : f.quadratic ≤ largest_number
  pub missed : f.missed < 10 ^ 14
  pub smoothing : f.smoothing ≤ largest_number
  pub limit : f.limit ≤ largest_number

-- the first line that stands there, or that none does
abbrev pub FirstAt : List ℕ → ℕ → Option FirstNumbers → Type 0
FirstAt bytes at (Some f) = InRange f × Stands bytes at (line 14 (first_list f))
FirstAt bytes at None = (f : FirstNumbers) → InRange f → Stands bytes at (line 14 (first_list f)) → ⊥

-- ---- the tables: the vehicles', the stops' and the locations' lines, from a position on

pub record TablesAt (bytes : List ℕ) (at v n l : ℕ) : Type 0 where
  pub vehicles : LinesAt bytes at v 2
  pub stops : LinesAt bytes (at + v * 29) n 1
  pub distances : LinesAt bytes (at + v * 29 + n * 15) l l

-- ---- the draws

-- a list of draws within the limits
pub record IsDraws (ds : List ℕ) : Type 0 where
  pub some : 1 ≤ length ds
  pub few : length ds ≤ 1024
  pub small : NoneOver ds

-- so many draws stand there after their count, or there are none such
abbrev pub DrawsAt : List ℕ → ℕ → Option ℕ → Type 0
DrawsAt bytes at (Some d) = (ds : List ℕ) × (length ds ≡ d) × IsDraws ds × Stands bytes at (draw_lines ds)
DrawsAt bytes at None = (ds : List ℕ) → IsDraws ds → Stands bytes at (draw_lines ds) → ⊥

-- ---- a task

-- what is told of a task besides its lists: how long they are, the other numbers, and where its file ends
abbrev pub header_of : Task → ℕ → Header
header_of T end =
    record {
      vehicles = vehicle_count T.job;
      stops = stop_count T.job;
      locations = T.job.locations;
      prices = T.job.prices;
      smoothing = T.smoothing;
      limit = T.limit;
      draws = length T.draws;
      end = end;
    }

-- the header of the one task whose file stands there, or refusal 14 where none does
abbrev pub CheckedAt : List ℕ → ℕ → Result Header Refusal → Type 0
CheckedAt bytes at (Ok h) = (T : Task) × AcceptedAt bytes at h.end T × (h ≡ header_of T h.end)
CheckedAt bytes at (Err refusal) = (number_of refusal ≡ 14) × ((to : ℕ) (T : Task) → AcceptedAt bytes at to T → ⊥)

-- the task of a header and of the lists that begin with its own
abbrev pub task_in : Header → Lists → Task
task_in h x =
    task_for
    (job_of (take (h.vehicles * 2) x.vehicles) (take h.stops x.stops) h.locations (take (h.locations * h.locations) x.distances) h.prices)
    h.smoothing
    h.limit
    (take h.draws x.draws)

-- the task of a file, as the lists that count
abbrev pub task_of : file.Task → Task
task_of t = task_in t.header t.lists

-- arrays that begin with the lists of a header: what stands behind these is as it was
pub record Behind (h : Header) (before x : Lists) : Type 0 where
  pub vehicles : x.vehicles ≡ over (take (h.vehicles * 2) x.vehicles) before.vehicles
  pub stops : x.stops ≡ over (take h.stops x.stops) before.stops
  pub distances : x.distances ≡ over (take (h.locations * h.locations) x.distances) before.distances
  pub draws : x.draws ≡ over (take h.draws x.draws) before.draws

-- the lists of the task whose file stands there are written to the front of arrays
pub record ListsFilled (bytes : List ℕ) (at : ℕ) (h : Header) (before x : Lists) : Type 0 where
  pub there : AcceptedAt bytes at h.end (task_in h x)
  pub behind : Behind h before x

-- arrays of zeros
abbrev pub zeros : Lists
zeros = record { vehicles = replicate 32 0; stops = replicate 64 0; distances = replicate 6400 0; draws = replicate 1024 0 }

-- the arrays of a task are its lists, and zeros after them
abbrev pub ZerosAfter : file.Task → Type 0
ZerosAfter t = Behind t.header zeros t.lists

-- so are those of a task that is answered
abbrev pub Blank : Result file.Task Refusal → Type 0
Blank (Ok t) = ZerosAfter t
Blank (Err _) = Unit

-- reading at a position: the one task whose file stands there, and where it ends; or refusal 14 where none does
abbrev pub ReadAt : List ℕ → ℕ → Result file.Task Refusal → Type 0
ReadAt bytes at (Ok t) = AcceptedAt bytes at t.header.end (task_of t)
ReadAt bytes at (Err refusal) = (number_of refusal ≡ 14) × ((to : ℕ) (T : Task) → AcceptedAt bytes at to T → ⊥)

-- reading a whole file
abbrev pub ReadWhole : List ℕ → Result file.Task Refusal → Type 0
ReadWhole bytes (Ok t) = Accepted bytes (task_of t) × (t.header.end ≡ length bytes)
ReadWhole bytes (Err refusal) = (number_of refusal ≡ 14) × ((T : Task) → Accepted bytes T → ⊥)
