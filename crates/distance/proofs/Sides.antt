-- Laws of the locations of a leg's two sides.
use Prim.Native.Nat.{ℕ, ◌<◌}
use mathlib.Core.Path.{◌≡◌}
use mathlib.Core.Bool.{true, false}
use Rattle.model.specs.Job.{Job, vehicle_count, stop_count, location_of}
use Rattle.distance.specs.Table.{is_place}
use Rattle.distance.specs.Sides.{leads, leads_at}
use Rattle.distance.specs.declared.Side.{Side}
use Rattle.distance.specs.declared.Side.TheVariants as S
use Rattle.distance.proofs.Laws.{leaves-stop, reaches-stop}
use Rattle.distance.proofs.Table.{start-there, start_none, end-there, end_none}

module _ (J : Job) where
  pub there : (s : Side) (a : ℕ) → is_place (vehicle_count J) (stop_count J) a ≡ true → leads_at J s a ≡ leads J s a
  there S.Start a h = start-there J a h
  there S.End a h = end-there J a h

  pub none : (s : Side) (a : ℕ) → is_place (vehicle_count J) (stop_count J) a ≡ false → leads_at J s a ≡ J.locations
  none S.Start a h = start_none J a h
  none S.End a h = end_none J a h

  pub of-stop : (s : Side) (a : ℕ) → a < 64 → leads J s a ≡ location_of J a
  of-stop S.Start a h = leaves-stop J a h
  of-stop S.End a h = reaches-stop J a h
