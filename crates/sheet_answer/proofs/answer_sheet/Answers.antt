use Rattle.std.proofs.Common.{refl, Ok, Err}
use borrow.Author.Rules.{rules}
use Rattle.sheet_answer.proofs.Found.{no-head, no-file, sheet-readable, sheet-answered}
use Rattle.file_job.specs.declared.task.Task.{Task}
use Rattle.file_job.proofs.Loading.{fits}
use Rattle.file_job.proofs.Answers.{refused-at, filled-at}
use Rattle.sheet_answer.proofs.answer_sheet.Goals as goal
use Rattle.sheet_answer.proofs.answer_sheet.Goals.{After-fill_lists}

-- the task whose lists were filled
abbrev filled : After-fill_lists → Task
filled c = record { header = c.in-Ok.header; lists = c.fill_lists.new.lists; fits = fits _ _ _ (rw c.in-Ok.is at c.check_at.ensures) }

pub returns-in_default : goal.returns-in_default
returns-in_default c =
    no-head _ _ _ c.read_head.ensures c.in_default.is _ _ _ (search rules) c.print_refused.ensures

pub returns-in_default-check_at : goal.returns-in_default-check_at
returns-in_default-check_at c =
    no-file _ _ _ c.read_head.ensures _ c.in-Some.is (Err _) (refused-at _ _ _ (rw c.in_default-check_at.is at c.check_at.ensures)) _ refl _ _ _
    (search rules) c.print_refused-in_default-check_at.ensures

pub fill_lists-requires : goal.fill_lists-requires
fill_lists-requires c = rw c.in-Ok.is at c.check_at.ensures

pub run_sheet-printed-requires-clause-readable : goal.run_sheet-printed-requires-clause-readable
run_sheet-printed-requires-clause-readable c =
    let t = filled (goal.at.run_sheet-printed-requires-clause-readable c).After-fill_lists in
    sheet-readable _ _ _ c.read_head.ensures _ c.in-Some.is (Ok t) (filled-at _ _ t _ c.fill_lists.ensures) t refl

pub returns : goal.returns
returns c =
    let t = filled (goal.at.returns c).After-fill_lists in
    sheet-answered _ _ _ c.read_head.ensures _ c.in-Some.is (Ok t) (filled-at _ _ t _ c.fill_lists.ensures) t refl _ _ _
    (search rules) c.run_sheet-printed.ensures
