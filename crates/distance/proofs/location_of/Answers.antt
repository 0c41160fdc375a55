use Prim.Native.Nat.{◌/◌}
use mathlib.Core.Path.{◌≡◌, sym, ◌∙◌}
use mathlib.Core.Bool.{true}
use lib.ListN.{length}
use Rattle.model.specs.Job.{priced}
use Rattle.distance.specs.Table.{is_place}
use Rattle.distance.proofs.Sides.{there, none}
use Rattle.distance.proofs.location_of.Goals as goal
use Rattle.distance.proofs.location_of.Goals.{Else-not-is_place}

known : (c : Else-not-is_place) → let N = c.args.network.now in is_place (length N.vehicles.now / 2) (length N.stops.now) c.args.place ≡ true
known c = sym c.is_place.ensures ∙ c.if-not-is_place.false

pub returns-then-not-is_place : goal.returns-then-not-is_place
returns-then-not-is_place c p =
    sym (none (priced c.args.network.now p) c.args.side c.args.place (sym c.is_place.ensures ∙ c.if-not-is_place.true))

pub location_at-requires : goal.location_at-requires
location_at-requires c = record { few = c.requires.1; there = known c }

pub returns : goal.returns
returns c p =
    c.location_at.ensures p ∙ sym (there (priced c.args.network.now p) c.args.side c.args.place (known (goal.at.returns c).Else-not-is_place))
