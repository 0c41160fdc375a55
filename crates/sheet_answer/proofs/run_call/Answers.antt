use Rattle.std.proofs.Common.{[], refl, sym, ap, arith}
use Rattle.sheet_head.specs.Numbered.{number_of_call}
use Rattle.std.proofs.lemmas.List.{take-replicate}
use Rattle.sheet_answer.proofs.Ran.{ran-weigh, ran-start, ran-two-opt, ran-rebuild, ran-exhaustive, ran-pruned, ran-solve, ran-arrive, ran-cancel, ran-view, ran_move, ran-roadworks}
use Rattle.sheet_answer.proofs.Seen.{lent_length, lent-printable}
use Rattle.sheet_answer.proofs.run_call.Goals as goal

pub returns-in-Weigh : goal.returns-in-Weigh
returns-in-Weigh c =
    ran-weigh _ _ _ (number_of_call c.args.call) c.args.given.now c.args.plan.now [] _ (ap number_of_call c.in-Weigh.is) c.weigh.ensures

pub returns-in-StartPlan : goal.returns-in-StartPlan
returns-in-StartPlan c =
    let f = c.start_plan.ensures in
    ran-start _ _ _ (number_of_call c.args.call) c.args.given.now c.args.plan.now _ _ (ap number_of_call c.in-StartPlan.is) f.plan_after f.prints

pub returns-in-Solve : goal.returns-in-Solve
returns-in-Solve c =
    let f = c.solve.ensures in
    ran-solve _ _ _ (number_of_call c.args.call) c.args.given.now c.args.plan.now _ _ (ap number_of_call c.in-Solve.is) f.plan_after f.prints

pub bounds-given-0 : goal.bounds-given-0
bounds-given-0 c = omega (arith, c.requires.runs.counted 3 (ap number_of_call c.in-TwoOpt.is) refl)

pub bounds-given-1 : goal.bounds-given-1
bounds-given-1 c = omega (arith, c.requires.runs.counted 3 (ap number_of_call c.in-TwoOpt.is) refl)

pub returns-in-TwoOpt : goal.returns-in-TwoOpt
returns-in-TwoOpt c =
    let f = c.two_opt.ensures in
    ran-two-opt _ _ _ (number_of_call c.args.call) c.args.given.now c.args.plan.now _ _ (ap number_of_call c.in-TwoOpt.is)
    (c.requires.runs.counted 3 (ap number_of_call c.in-TwoOpt.is) refl) f.plan_after f.prints _ refl

pub returns-in-Rebuild : goal.returns-in-Rebuild
returns-in-Rebuild c =
    let f = c.rebuild.ensures in
    ran-rebuild _ _ _ (number_of_call c.args.call) c.args.given.now c.args.plan.now _ _ (ap number_of_call c.in-Rebuild.is) f.plan_after f.prints _ refl

pub returns-in-Exhaustive : goal.returns-in-Exhaustive
returns-in-Exhaustive c =
    let f = c.exhaustive.ensures in
    ran-exhaustive _ _ _ (number_of_call c.args.call) c.args.given.now c.args.plan.now _ _ (ap number_of_call c.in-Exhaustive.is) f.plan_after f.prints _ refl

pub returns-in-Pruned : goal.returns-in-Pruned
returns-in-Pruned c =
    let f = c.pruned.ensures in
    ran-pruned _ _ _ (number_of_call c.args.call) c.args.given.now c.args.plan.now _ _ (ap number_of_call c.in-Pruned.is) f.plan_after f.prints _ refl

pub arrive-requires : goal.arrive-requires
arrive-requires c =
    record { printable = c.requires.runs.printable; given_len = c.requires.runs.counted 8 (ap number_of_call c.in-Arrive.is) refl }

pub returns-in-Arrive : goal.returns-in-Arrive
returns-in-Arrive c =
    let f = c.arrive.ensures in
    ran-arrive _ _ _ (number_of_call c.args.call) c.args.given.now c.args.plan.now _ _ (ap number_of_call c.in-Arrive.is) f.plan_after f.prints _ refl

pub cancel-requires : goal.cancel-requires
cancel-requires c =
    record { printable = c.requires.runs.printable; given_len = c.requires.runs.counted 9 (ap number_of_call c.in-Cancel.is) refl }

pub returns-in-Cancel : goal.returns-in-Cancel
returns-in-Cancel c =
    let f = c.cancel.ensures in
    ran-cancel _ _ _ (number_of_call c.args.call) c.args.given.now c.args.plan.now _ _ (ap number_of_call c.in-Cancel.is) f.plan_after f.prints _ refl

pub move_stop-requires : goal.move_stop-requires
move_stop-requires c =
    record { printable = c.requires.runs.printable; given_len = c.requires.runs.counted 11 (ap number_of_call c.in-MoveStop.is) refl }

pub returns-in-MoveStop : goal.returns-in-MoveStop
returns-in-MoveStop c =
    let f = c.move_stop.ensures in
    ran_move _ _ _ (number_of_call c.args.call) c.args.given.now c.args.plan.now _ _ (ap number_of_call c.in-MoveStop.is) f.plan_after f.prints _ refl

pub roadworks-requires : goal.roadworks-requires
roadworks-requires c =
    record { printable = c.requires.runs.printable; given_len = c.requires.runs.counted 12 (ap number_of_call c.in-Roadworks.is) refl }

pub returns-in-Roadworks : goal.returns-in-Roadworks
returns-in-Roadworks c =
    ran-roadworks _ _ _ (number_of_call c.args.call) c.args.given.now c.args.plan.now [] _ (ap number_of_call c.in-Roadworks.is) c.roadworks.ensures _ refl

pub bounds-given-0-in-View : goal.bounds-given-0-in-View
bounds-given-0-in-View c = omega (arith, c.requires.runs.counted 10 (ap number_of_call c.in-View.is) refl)

pub slice_bounds-view-end : goal.slice_bounds-view-end
slice_bounds-view-end c = sym (lent_length _ c.requires.small)

pub view-requires : goal.view-requires
view-requires c = lent-printable _ _ c.requires.small c.requires.runs.printable.room

pub returns-in-View : goal.returns-in-View
returns-in-View c =
    let f = c.view.ensures in
    ran-view _ _ _ (number_of_call c.args.call) c.args.given.now c.args.plan.now _ _ _ (ap number_of_call c.in-View.is)
    (take-replicate _ 96 0 c.requires.small) f.seen_after f.prints _ refl
