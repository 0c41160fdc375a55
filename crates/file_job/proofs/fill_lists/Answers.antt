use native.Mathlib.Omega.{arith}
use Rattle.file_job.proofs.Loading.{Sizes, sizes, vehicles-there, stops-there, distances-there, draws-there, lists-filled}
use Rattle.file_job.proofs.fill_lists.Goals as goal
use Rattle.file_job.proofs.fill_lists.Goals.{Start}

-- how large everything is
sized : (s : Start) → Sizes s.args.bytes.now s.args.at s.args.header
sized s = sizes _ _ _ s.requires

pub overflow_add-second : goal.overflow_add-second
overflow_add-second c = omega (arith, sized (goal.at.overflow_add-second c).Start)

pub overflow_add-second-2 : goal.overflow_add-second-2
overflow_add-second-2 c = omega (arith, sized (goal.at.overflow_add-second-2 c).Start)

pub overflow_add-third : goal.overflow_add-third
overflow_add-third c = omega (arith, sized (goal.at.overflow_add-third c).Start)

pub overflow_add-fourth-2 : goal.overflow_add-fourth-2
overflow_add-fourth-2 c = omega (arith, sized (goal.at.overflow_add-fourth-2 c).Start)

pub overflow_add-fourth-3 : goal.overflow_add-fourth-3
overflow_add-fourth-3 c = omega (arith, sized (goal.at.overflow_add-fourth-3 c).Start)

pub overflow_add-at : goal.overflow_add-at
overflow_add-at c = omega (arith, sized (goal.at.overflow_add-at c).Start)

pub fill_lines-requires : goal.fill_lines-requires
fill_lines-requires c = vehicles-there _ _ _ c.requires _ (omega arith)

pub fill_lines-requires-2 : goal.fill_lines-requires-2
fill_lines-requires-2 c = stops-there _ _ _ c.requires _ (omega arith)

pub fill_lines-requires-3 : goal.fill_lines-requires-3
fill_lines-requires-3 c = distances-there _ _ _ c.requires _ (omega arith)

pub fill_lines-requires-4 : goal.fill_lines-requires-4
fill_lines-requires-4 c = draws-there _ _ _ c.requires _ (omega arith)

pub returns : goal.returns
returns c = lists-filled _ _ c.args.header c.requires _ _ c.fill_lines.ensures c.fill_lines-2.ensures c.fill_lines-3.ensures c.fill_lines-4.ensures
