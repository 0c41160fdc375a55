use Prim.Native.Nat.{◌/◌, ◌%◌, ◌≤◌}
use lib.Dec.{eqb}
use lib.ListN.{length}
use Rattle.solution.specs.Held.{routes}
use Rattle.model.specs.TwoOpt.{turned}
use Rattle.two_opt_inter.proofs.Rows.{Front}
use Rattle.two_opt_inter.proofs.Plans.{routes-short, turned-front, turned_rows, turned-written}
use Rattle.two_opt_inter.proofs.write_candidate.Goals as goal
use Rattle.two_opt_inter.proofs.write_candidate.Goals.{After-route-rb, After-write_turned, After-write_turned-2}

short : (c : After-route-rb) → (length c.route-ra.result.now ≤ 64) × (length c.route-rb.result.now ≤ 64)
short c = routes-short c.requires c.route-ra.ensures c.route-rb.ensures

first-row : (c : After-write_turned)
    → (let r = c.route-ra.result.now in Front c.write_turned.new.row (length r) (turned (eqb (c.args.code / 32 % 2) 1) r))
first-row c =
    turned-front _ c.write_turned.new.row (eqb (c.args.code / 32 % 2) 1) c.route-ra.result.now c.write_turned.ensures

second-row : (c : After-write_turned-2)
    → (let r = c.route-rb.result.now in Front c.write_turned-2.new.row (length r) (turned (eqb (c.args.code / 16 % 2) 1) r))
second-row c =
    turned-front _ c.write_turned-2.new.row (eqb (c.args.code / 16 % 2) 1) c.route-rb.result.now c.write_turned-2.ensures

pub write_turned-requires : goal.write_turned-requires
write_turned-requires c = (short (goal.at.write_turned-requires c).After-route-rb).0

pub write_turned-requires-2 : goal.write_turned-requires-2
write_turned-requires-2 c = (short (goal.at.write_turned-requires-2 c).After-route-rb).1

pub slice_bounds-xa-end : goal.slice_bounds-xa-end
slice_bounds-xa-end c = (first-row (goal.at.slice_bounds-xa-end c).After-write_turned).inside

pub slice_bounds-ta-end : goal.slice_bounds-ta-end
slice_bounds-ta-end c = (first-row (goal.at.slice_bounds-ta-end c).After-write_turned).size

pub slice_bounds-xb-end : goal.slice_bounds-xb-end
slice_bounds-xb-end c = (second-row (goal.at.slice_bounds-xb-end c).After-write_turned-2).inside

pub slice_bounds-tb-end : goal.slice_bounds-tb-end
slice_bounds-tb-end c = (second-row (goal.at.slice_bounds-tb-end c).After-write_turned-2).size

pub write_pair-requires : goal.write_pair-requires
write_pair-requires c = (
  c.requires.vehicles,
  turned_rows c.requires c.route-ra.ensures c.route-rb.ensures (eqb (c.args.code / 32 % 2) 1) (eqb (c.args.code / 16 % 2) 1)
      (first-row (goal.at.write_pair-requires c).After-write_turned).is (second-row (goal.at.write_pair-requires c).After-write_turned-2).is c.position-i.ensures c.position-j.ensures,
)

pub returns : goal.returns
returns c =
    let a = c.args in
    turned-written _ _ (routes a.plan.now) c.write_pair.new.plan a.first.vehicle a.first.stop a.second.vehicle a.second.stop a.code
    c.route-ra.ensures c.route-rb.ensures (first-row (goal.at.returns c).After-write_turned).is (second-row (goal.at.returns c).After-write_turned-2).is c.position-i.ensures c.position-j.ensures c.write_pair.ensures
