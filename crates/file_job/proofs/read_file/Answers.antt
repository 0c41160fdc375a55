use native.Mathlib.Omega.{arith}
use Rattle.file_job.proofs.Answers.{not-whole}
use Rattle.file_job.proofs.read_file.Goals as goal

pub returns-then-header-bytes-clause-read : goal.returns-then-header-bytes-clause-read
returns-then-header-bytes-clause-read c =
    let called = c.check_at in
    not-whole _ called.result called.ensures _ c.in_ok-header.was (λ e. omega arith)
