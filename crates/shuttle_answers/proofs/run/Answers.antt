use Rattle.std.proofs.Common.{◌∙◌, sym}
use Rattle.planner.proofs.Ran.{ran-sizes, ran-priced, ran-lent}
use Rattle.shuttle_answers.proofs.Laws.{lent-blank, refused-printed, run-printed}
use Rattle.shuttle_answers.proofs.run.Goals as goal

pub hold-requires : goal.hold-requires
hold-requires c =
    let e = sym c.in-Ok.is ∙ c.solve.ensures.answer in
    (ran-sizes _ _ e, ran-lent _ _ e _ c.solve.ensures.plan)

pub print_run-requires-clause-priced : goal.print_run-requires-clause-priced
print_run-requires-clause-priced c = ran-priced _ _ (sym c.in-Ok.is ∙ c.solve.ensures.answer)

pub returns-in-Ok : goal.returns-in-Ok
returns-in-Ok c =
    let f = c.solve.ensures in
    let h = c.hold.ensures in
    run-printed c.args.task.now _ _ _ _ _ c.job-job.ensures c.settings-settings.ensures
    (lent-blank c.args.task.now _ c.job-job.ensures) _ f.answer _ _ _ _ _ c.in-Ok.is f.plan c.hold.result h.0 h.1 h.2 c.print_run.ensures

pub returns-in-Err : goal.returns-in-Err
returns-in-Err c =
    refused-printed c.args.task.now _ _ _ _ _ c.job-job.ensures c.settings-settings.ensures
    (lent-blank c.args.task.now _ c.job-job.ensures) _ c.solve.ensures.answer _ _ _ _ c.in-Err.is (rw c.from.ensures at c.print_refusal.ensures)
