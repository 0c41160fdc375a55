-- From the parts that were checked to the task that they are the file of, and back.
use mathlib.Core.Path.{◌≡◌, refl, ap}
use Prim.Native.Nat.{ℕ, ◌+◌, ◌*◌, ◌≤◌}
use native.Mathlib.Nat.{mul-le-mul}
use native.Mathlib.Omega.{arith}
use mathlib.Core.List.{List}
use lib.ListN.{length, get_or}
use Rattle.model.specs.Job.{vehicle_count, stop_count}
use Rattle.model.specs.Run.{Task}
use Rattle.model.specs.File.{line, draw_lines, first_numbers, Readable, Stands, AcceptedAt}
use Rattle.model.proofs.Pieces.{stands-within, fitting-nil, fitting-cons, Fitting, line-length, same_line}
use Rattle.model.proofs.Tasks.{Placed, placed, stands, file-length, first-fitting, count_at, end_at}
use Rattle.std.proofs.Common.{Option, Some, None, Ok, Err}
use Rattle.model.specs.declared.refusal.Refusal.TheVariants.{File}
use Rattle.file_job.specs.declared.FirstNumbers.{FirstNumbers}
use Rattle.file_job.specs.declared.header.Header.{Header}
use Rattle.file_job.specs.Reading.{first_list, InRange, FirstAt, TablesAt, IsDraws, DrawsAt, CheckedAt}

-- the first line's numbers of a task
abbrev pub first_numbers_of : Task → FirstNumbers
first_numbers_of T =
    let J = T.job in
    record {
      vehicles = vehicle_count J;
      stops = stop_count J;
      locations = J.locations;
      linear = J.prices.linear;
      quadratic = J.prices.quadratic;
      missed = J.prices.missed;
      smoothing = T.smoothing;
      limit = T.limit;
    }

-- the header of a file that stands at a position, from its first line and its count of draws
abbrev pub header_with : ℕ → FirstNumbers → ℕ → Header
header_with at f d =
    record {
      vehicles = f.vehicles;
      stops = f.stops;
      locations = f.locations;
      prices = record { linear = f.linear; quadratic = f.quadratic; missed = f.missed };
      smoothing = f.smoothing;
      limit = f.limit;
      draws = d;
      end = end_at at f.vehicles f.stops f.locations d;
    }

in-range : (T : Task) → Readable T → InRange (first_numbers_of T)
in-range T r =
    record {
      vehicles = omega (arith, r.vehicles);
      stops = omega (arith, r.stops);
      locations = omega (arith, r.locations);
      linear = r.linear;
      quadratic = r.quadratic;
      missed = r.missed;
      smoothing = r.smoothing;
      limit = r.limit;
    }

in-range-fitting : (f : FirstNumbers) → InRange f → Fitting (first_list f)
in-range-fitting f r =
    fitting-cons (omega (arith, r.vehicles))
    (fitting-cons (omega (arith, r.stops))
    (fitting-cons (omega (arith, r.locations))
    (fitting-cons (omega (arith, r.linear))
    (fitting-cons (omega (arith, r.quadratic))
    (fitting-cons r.missed
    (fitting-cons (omega (arith, r.smoothing))
    (fitting-cons (omega (arith, r.limit)) fitting-nil)))))))

-- a table of 80 rows at most has 89680 bytes at most
pub table-bytes : (l : ℕ) → l ≤ 80 → l * (14 * l + 1) ≤ 89680
table-bytes l h = let rest : 14 * l + 1 ≤ 1121 = omega arith in mul-le-mul h rest

module _ (bytes : List ℕ) (at : ℕ) (g : Option FirstNumbers) (read : FirstAt bytes at g) where
  pub no-first : g ≡ None → CheckedAt bytes at (Err File)
  no-first e =
      let none : FirstAt bytes at None = rw e at read in
      (refl, λ to T a. none (first_numbers_of T) (in-range T a.2) (placed T a.2 bytes at a.0).first)

  module _ (f : FirstNumbers) (e : g ≡ Some f) where
    there : FirstAt bytes at (Some f)
    there = rw e at read

    pub first-within : at + 113 ≤ length bytes
    first-within =
        let w = line-length (first_list f) (in-range-fitting f there.0) in
        omega (arith, stands-within bytes at (line 14 (first_list f)) (omega arith) there.1)

    -- a task whose file stands there has the numbers that were read
    same_first : (to : ℕ) (T : Task) → AcceptedAt bytes at to T → f ≡ first_numbers_of T
    same_first to T a =
        let p = placed T a.2 bytes at a.0 in
        let same : first_list f ≡ first_numbers T =
        same_line bytes at (first_list f) (first_numbers T) (in-range-fitting f there.0) (first-fitting T a.2) refl there.1 p.first in
        λ i.
        record {
          vehicles = ap (λ ns. get_or ns 0 0) same i;
          stops = ap (λ ns. get_or ns 1 0) same i;
          locations = ap (λ ns. get_or ns 2 0) same i;
          linear = ap (λ ns. get_or ns 3 0) same i;
          quadratic = ap (λ ns. get_or ns 4 0) same i;
          missed = ap (λ ns. get_or ns 5 0) same i;
          smoothing = ap (λ ns. get_or ns 6 0) same i;
          limit = ap (λ ns. get_or ns 7 0) same i;
        }

    pub over-limit : (f.vehicles ≤ 16 → f.stops ≤ 64 → f.locations ≤ 80 → ⊥) → CheckedAt bytes at (Err File)
    over-limit wrong = (
      refl,
      λ to T a.
          let s = same_first to T a in
          let r = a.2 in
          wrong (rw s r.vehicles) (rw s r.stops) (rw s r.locations),
    )

    pub no-tables : (TablesAt bytes (at + 113) f.vehicles f.stops f.locations → ⊥) → CheckedAt bytes at (Err File)
    no-tables none = (
      refl,
      λ to T a.
          let r = a.2 in
          let p = placed T r bytes at a.0 in
          none (rw (same_first to T a) (
          record {
            vehicles = record { numbers = T.job.vehicles; count = r.ends; small = r.vehicle_numbers; stand = p.vehicles };
            stops = record { numbers = T.job.stops; count = omega arith; small = r.stop_numbers; stand = p.stops };
            distances = record { numbers = T.job.distances; count = r.square; small = r.distance_numbers; stand = p.distances };
          })),
    )

    pub no-draws-there : (d : Option ℕ) → DrawsAt bytes (count_at at f.vehicles f.stops f.locations) d → d ≡ None
        → CheckedAt bytes at (Err File)
    no-draws-there d found b = (
      refl,
      λ to T a.
          let r = a.2 in
          let same = same_first to T a in
          let none : DrawsAt bytes (count_at at f.vehicles f.stops f.locations) None = rw b at found in
          none T.draws record { some = r.some_draw; few = r.draws; small = r.draw_numbers }
          (rw same (placed T r bytes at a.0).draws),
    )

    module _ (small : (f.vehicles ≤ 16) × (f.stops ≤ 64) × (f.locations ≤ 80))
        (t : TablesAt bytes (at + 113) f.vehicles f.stops f.locations) (ds : List ℕ) (d : IsDraws ds) where
      -- the task that was read
      abbrev task_read : Task
      task_read =
          record {
            job = record {
              vehicles = t.vehicles.numbers;
              stops = t.stops.numbers;
              locations = f.locations;
              distances = t.distances.numbers;
              prices = record { linear = f.linear; quadratic = f.quadratic; missed = f.missed };
            };
            smoothing = f.smoothing;
            limit = f.limit;
            draws = ds;
          }

      vehicles-read : f.vehicles ≡ vehicle_count task_read.job
      vehicles-read = omega (arith, t.vehicles.count)

      stops-read : f.stops ≡ stop_count task_read.job
      stops-read = omega (arith, t.stops.count)

      readable : Readable task_read
      readable =
          let range = there.0 in
          record {
            vehicles = rw (← vehicles-read) small.0;
            stops = rw (← stops-read) small.1;
            locations = small.2;
            some_draw = d.some;
            draws = d.few;
            ends = rw (← vehicles-read) t.vehicles.count;
            square = t.distances.count;
            linear = range.linear;
            quadratic = range.quadratic;
            missed = range.missed;
            smoothing = range.smoothing;
            limit = range.limit;
            vehicle_numbers = t.vehicles.small;
            stop_numbers = t.stops.small;
            distance_numbers = t.distances.small;
            draw_numbers = d.small;
          }

      read-placed : Stands bytes (count_at at f.vehicles f.stops f.locations) (draw_lines ds) → Placed bytes at task_read
      read-placed s =
          record {
            first = rw (← vehicles-read, ← stops-read) there.1;
            vehicles = rw (← vehicles-read) t.vehicles.stand;
            stops = rw (← vehicles-read, ← stops-read) t.stops.stand;
            distances = rw (← vehicles-read, ← stops-read) t.distances.stand;
            draws = rw (← vehicles-read, ← stops-read) s;
          }

      task-checked : Stands bytes (count_at at f.vehicles f.stops f.locations) (draw_lines ds) → CheckedAt bytes at (Ok (header_with at f (length ds)))
      task-checked s = (
        task_read,
        (
          stands task_read readable bytes at (read-placed s),
          omega (arith, vehicles-read, stops-read, file-length task_read readable bytes at),
          readable,
        ),
        λ i.
            record {
              vehicles = vehicles-read i;
              stops = stops-read i;
              locations = f.locations;
              prices = record { linear = f.linear; quadratic = f.quadratic; missed = f.missed };
              smoothing = f.smoothing;
              limit = f.limit;
              draws = length ds;
              end = end_at at f.vehicles f.stops f.locations (length ds);
            },
      )

    module _ (x : ℕ) (d : Option ℕ) (found : DrawsAt bytes (count_at at f.vehicles f.stops f.locations) d) (c : d ≡ Some x) where
      counted : DrawsAt bytes (count_at at f.vehicles f.stops f.locations) (Some x)
      counted = rw c at found

      pub few-draws : x ≤ 1024
      few-draws = omega (arith, counted.1, counted.2.few)

      pub all-checked : (small : (f.vehicles ≤ 16) × (f.stops ≤ 64) × (f.locations ≤ 80))
          → TablesAt bytes (at + 113) f.vehicles f.stops f.locations
          → CheckedAt bytes at (Ok (header_with at f x))
      all-checked small t = rw (← counted.1) (task-checked small t counted.0 counted.2 counted.3)
