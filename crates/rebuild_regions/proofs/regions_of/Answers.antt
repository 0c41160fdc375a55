use Prim.Native.Nat.{◌-◌, ◌≤◌}
use native.Mathlib.Omega.{arith}
use native.Mathlib.Nat.{div-le_self}
use mathlib.Core.Path.{refl, ap, ◌∙◌}
use lib.ListN.{length, set}
use Rattle.solution.specs.Held.{routes}
use Rattle.rebuild_regions.proofs.Around.{written_none, written-more, kept_on, written-none-kept, written_all, found_region, found_none}
use Rattle.rebuild_regions.proofs.regions_of.Goals as goal
use Rattle.rebuild_regions.proofs.regions_of.Goals.{After-keep_picks-p, in-Some, in_default}

-- the kept picks fit their array
room : (c : After-keep_picks-p) → c.keep_picks-p.result ≤ length c.keep_picks-p.new.kept
room c = let k = c.keep_picks-p in omega (arith, k.ensures.upper_bound, k.auto.kept, c.requires.0)

pub returns-then-p-eq0 : goal.returns-then-p-eq0
returns-then-p-eq0 c =
    let k = c.keep_picks-p in record {
      out_after = written-none-kept (routes c.args.plan.now) c.args.picks.now k.new.kept k.result k.ensures.kept_after (room (goal.at.returns-then-p-eq0 c).After-keep_picks-p)
          c.args.out.now c.if-p-eq0.true;
      out_unchanged = refl;
      upper_bound = omega arith;
    }

pub loop-i-init : goal.loop-i-init
loop-i-init c =
    let k = c.keep_picks-p in
    written_none (routes c.args.plan.now) _ k.new.kept k.result c.args.out.now

pub region_of-requires : goal.region_of-requires
region_of-requires c =
    let k = c.keep_picks-p in
    omega (arith, div-le_self (8 - length c.args.picks.now) k.result)

pub loop-i-preserved : goal.loop-i-preserved
loop-i-preserved c =
    let k = c.keep_picks-p in
    let l = c.loop-i in
    let P = routes c.args.plan.now in
    let kept = room (goal.at.loop-i-preserved c).After-keep_picks-p in
    let on = kept_on P c.args.picks.now k.new.kept k.result k.ensures.kept_after kept l.i c.loop-i-test.true in
    let f = c.region_of in
    elim c.match-region_of.branch [
      | in-Some w ↦ written-more P _ k.new.kept k.result c.args.out.now l.out c.match-region_of.out l.i
          c.loop-i-test.true kept (omega (arith, k.ensures.upper_bound, c.requires))
          (w.out-is ∙ ap (set l.out l.i) (found_region P _ _ on f.result f.ensures _ w.in-Some.is)) l.invariant
      | in_default w ↦ absurd (found_none P _ _ on f.result f.ensures w.in_default.is)
    ]

pub returns : goal.returns
returns c =
    let k = c.keep_picks-p in
    let l = c.loop-i in
    let parts = written_all (routes c.args.plan.now) c.args.picks.now k.new.kept k.result k.ensures.kept_after (room (goal.at.returns c).After-keep_picks-p)
    _ c.args.out.now l.out l.i refl (omega arith) l.invariant in record { out_after = parts.0; out_unchanged = parts.1; upper_bound = k.ensures.upper_bound }
