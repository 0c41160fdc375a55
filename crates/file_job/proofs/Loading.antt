-- The lists of a task that was checked: where they stand, and that what is written is the task's own.
use mathlib.Core.Path.{◌≡◌, sym, ◌∙◌, ap, subst}
use Prim.Native.Nat.{ℕ, ◌+◌, ◌*◌, ◌≤◌}
use native.Mathlib.Nat.{mul-le-mul}
use native.Mathlib.Omega.{arith}
use mathlib.Core.List.{List, ◌++◌}
use lib.ListN.{length, take, drop}
use lib.Seq.{take_at}
use Rattle.std.proofs.Common.{Ok}
use Rattle.model.specs.Job.{job_of, vehicle_count, stop_count}
use Rattle.model.specs.Run.{Task, task_for}
use Rattle.model.specs.File.{line, lines, first_numbers, NoneOver, Stands, AcceptedAt}
use Rattle.model.proofs.Pieces.{stands-within, line-length}
use Rattle.model.proofs.Tasks.{Placed, placed, first-fitting, draw-parts, stops_at, distances_at, count_at, draws_at}
use Rattle.file_job.specs.declared.header.Header.{Header}
use Rattle.file_lines.specs.Standing.{Fillable, Filled, over}
use Rattle.file_job.specs.declared.task.Lists.{Lists}
use Rattle.file_job.specs.Fits.{Fits}
use Rattle.file_job.specs.Reading.{header_of, task_in, CheckedAt, Behind, ListsFilled}
use Rattle.file_job.proofs.Checked.{table-bytes}

-- what a header that was read says of the sizes
pub record Sizes (bytes : List ℕ) (at : ℕ) (h : Header) : Type 0 where
  pub vehicles : h.vehicles ≤ 16
  pub stops : h.stops ≤ 64
  pub locations : h.locations ≤ 80
  pub draws : h.draws ≤ 1024
  pub table : h.locations * (14 * h.locations + 1) ≤ 89680
  pub first : at + 113 ≤ length bytes

module _ (bytes : List ℕ) (at : ℕ) (h : Header) (T : Task) (a : AcceptedAt bytes at h.end T) (e : h ≡ header_of T h.end) where
  p : Placed bytes at T
  p = placed T a.2 bytes at a.0

  sizes-of : Sizes bytes at h
  sizes-of =
      let r = a.2 in
      let l : h.locations ≤ 80 = rw e r.locations in
      record {
        vehicles = rw e r.vehicles;
        stops = rw e r.stops;
        locations = l;
        draws = rw e r.draws;
        table = table-bytes h.locations l;
        first = omega (
          arith,
          line-length (first_numbers T) (first-fitting T r),
          stands-within bytes at (line 14 (first_numbers T)) (omega (arith, line-length (first_numbers T) (first-fitting T r))) p.first,
        );
      }

  vehicles-of : (list : List ℕ) → 32 ≤ length list → Fillable bytes (at + 113) h.vehicles 2 list
  vehicles-of list room =
      let r = a.2 in
      rw e (
      record {
        there = record { numbers = T.job.vehicles; count = r.ends; small = r.vehicle_numbers; stand = p.vehicles };
        room = omega (arith, r.vehicles, room);
      })

  stops-of : (list : List ℕ) → 64 ≤ length list → Fillable bytes (stops_at at h.vehicles) h.stops 1 list
  stops-of list room =
      let r = a.2 in
      rw e (
      record {
        there = record { numbers = T.job.stops; count = omega arith; small = r.stop_numbers; stand = p.stops };
        room = omega (arith, r.stops, room);
      })

  distances-of : (list : List ℕ) → 6400 ≤ length list → Fillable bytes (distances_at at h.vehicles h.stops) h.locations h.locations list
  distances-of list room =
      let r = a.2 in
      rw e (
      record {
        there = record { numbers = T.job.distances; count = r.square; small = r.distance_numbers; stand = p.distances };
        room = omega (arith, mul-le-mul r.locations r.locations, room);
      })

  draws-of : (list : List ℕ) → 1024 ≤ length list → Fillable bytes (draws_at at h.vehicles h.stops h.locations) h.draws 1 list
  draws-of list room =
      let r = a.2 in
      rw e (
      record {
        there = record {
          numbers = T.draws;
          count = omega arith;
          small = r.draw_numbers;
          stand = (draw-parts T.draws r.draws bytes (count_at at (vehicle_count T.job) (stop_count T.job) T.job.locations) p.draws).1;
        };
        room = omega (arith, r.draws, room);
      })

-- lines that hold a list are written as that list to the front, and what stands behind it stays
filled-front : (bytes : List ℕ) (at m k j : ℕ) (old new ns : List ℕ) → Filled bytes at m k old new → j ≡ m * k → length ns ≡ m * k → NoneOver ns
    → Stands bytes at (lines m k ns) → (take j new ≡ ns) × (new ≡ over (take j new) old)
filled-front bytes at m k j old new ns f e c o s =
    let front : take j new ≡ ns = ap (take j) (f ns c o s) ∙ take_at ns (drop (m * k) old) j (c ∙ sym e) in
    let laid : new ≡ over ns old = f ns c o s ∙ ap (λ (d : ℕ). ns ++ drop d old) (sym c) in
    (front, laid ∙ ap (λ (xs : List ℕ). over xs old) (sym front))

module _ (bytes : List ℕ) (at : ℕ) (h : Header) (ok : CheckedAt bytes at (Ok h)) where
  pub sizes : Sizes bytes at h
  sizes = sizes-of bytes at h ok.0 ok.1 ok.2

  -- a task with this header can be made
  pub fits : Fits h
  fits = record { vehicles = omega (arith, sizes); stops = omega (arith, sizes); locations = omega (arith, sizes); draws = omega (arith, sizes) }

  pub vehicles-there : (list : List ℕ) → 32 ≤ length list → Fillable bytes (at + 113) h.vehicles 2 list
  vehicles-there = vehicles-of bytes at h ok.0 ok.1 ok.2

  pub stops-there : (list : List ℕ) → 64 ≤ length list → Fillable bytes (stops_at at h.vehicles) h.stops 1 list
  stops-there = stops-of bytes at h ok.0 ok.1 ok.2

  pub distances-there : (list : List ℕ) → 6400 ≤ length list → Fillable bytes (distances_at at h.vehicles h.stops) h.locations h.locations list
  distances-there = distances-of bytes at h ok.0 ok.1 ok.2

  pub draws-there : (list : List ℕ) → 1024 ≤ length list → Fillable bytes (draws_at at h.vehicles h.stops h.locations) h.draws 1 list
  draws-there = draws-of bytes at h ok.0 ok.1 ok.2

  -- the lists that were written are those of the task whose file stands there
  module _ (old new : Lists)
      (fv : Filled bytes (at + 113) h.vehicles 2 old.vehicles new.vehicles)
      (fs : Filled bytes (stops_at at h.vehicles) h.stops 1 old.stops new.stops)
      (fd : Filled bytes (distances_at at h.vehicles h.stops) h.locations h.locations old.distances new.distances)
      (fr : Filled bytes (draws_at at h.vehicles h.stops h.locations) h.draws 1 old.draws new.draws) where
    loaded : (task_in h new ≡ ok.0) × Behind h old new
    loaded =
        let T = ok.0 in
        let e = ok.2 in
        let r = ok.1.2 in
        let p = placed T r bytes at ok.1.0 in
        let v : h.vehicles ≡ vehicle_count T.job = ap (λ x. x.vehicles) e in
        let n : h.stops ≡ stop_count T.job = ap (λ x. x.stops) e in
        let l : h.locations ≡ T.job.locations = ap (λ x. x.locations) e in
        let d : h.draws ≡ length T.draws = ap (λ x. x.draws) e in
        let counted = count_at at (vehicle_count T.job) (stop_count T.job) T.job.locations in
        let vehicles =
        filled-front bytes (at + 113) (vehicle_count T.job) 2 (h.vehicles * 2) old.vehicles new.vehicles T.job.vehicles
        (rw v at fv) (ap (λ k. k * 2) v) r.ends r.vehicle_numbers p.vehicles in
        let stops =
        filled-front bytes (stops_at at (vehicle_count T.job)) (stop_count T.job) 1 h.stops old.stops new.stops T.job.stops
        (rw (v, n) at fs) (omega (arith, n)) (omega arith) r.stop_numbers p.stops in
        let distances =
        filled-front bytes (distances_at at (vehicle_count T.job) (stop_count T.job)) T.job.locations T.job.locations (h.locations * h.locations)
        old.distances new.distances T.job.distances (rw (v, n, l) at fd) (ap (λ k. k * k) l) r.square r.distance_numbers p.distances in
        let draws =
        filled-front bytes (counted + 15) (length T.draws) 1 h.draws old.draws new.draws T.draws
        (rw (v, n, l, d) at fr) (omega (arith, d)) (omega arith) r.draw_numbers
        (draw-parts T.draws r.draws bytes counted p.draws).1 in (
          λ i. task_for (job_of (vehicles.0 i) (stops.0 i) (e i).locations (distances.0 i) (e i).prices) (e i).smoothing (e i).limit (draws.0 i),
          record { vehicles = vehicles.1; stops = stops.1; distances = distances.1; draws = draws.1 },
        )

    pub lists-filled : ListsFilled bytes at h old new
    lists-filled = record { there = subst (λ T. AcceptedAt bytes at h.end T) (sym loaded.0) ok.1; behind = loaded.1 }
