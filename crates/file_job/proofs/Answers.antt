-- What reading answers: no task where something follows the file, and every readable task for its written form.
use mathlib.Core.Path.{◌≡◌, refl, sym, ◌∙◌, ap}
use Prim.Native.Nat.{ℕ, ◌+◌}
use mathlib.Core.List.{List}
use lib.ListN.{length}
use Rattle.model.specs.Run.{Task}
use Rattle.model.specs.File.{file_of, Accepted, AcceptedAt}
use Rattle.model.proofs.Tasks.{same-task, whole-file, accepted-once}
use Rattle.std.proofs.Common.{Result, Ok, Err}
use Rattle.model.specs.declared.refusal.Refusal.{Refusal}
use Rattle.model.specs.declared.refusal.Refusal.TheVariants.{File}
use Rattle.file_job.specs.declared.header.Header.{Header}
use Rattle.file_job.specs.declared.task.Lists.{Lists}
use Rattle.file_job.specs.declared.task.Task as file
use Rattle.file_job.specs.Reading.{task_of, CheckedAt, ListsFilled, ReadAt, ReadWhole}

-- something follows the file
pub not-whole : (bytes : List ℕ) (a : Result Header Refusal) → CheckedAt bytes 0 a → (h : Header) → a ≡ Ok h → (h.end ≡ length bytes → ⊥)
    → ReadWhole bytes (Err File)
not-whole bytes a checked h e longer =
    let whole : CheckedAt bytes 0 (Ok h) = rw e at checked in (
      refl,
      λ T accepted.
          let found = whole.1 in
          let w = whole-file bytes T accepted in
          let same : whole.0 ≡ T = same-task bytes 0 whole.0 T found.2 w.2 found.0 w.0 in
          longer (found.1 ∙ ap (λ U. 0 + length (file_of U)) same ∙ sym w.1),
    )

-- what a file is checked for and then filled with is what is read at its position
pub refused-at : (bytes : List ℕ) (at : ℕ) (why : Refusal) → CheckedAt bytes at (Err why) → ReadAt bytes at (Err why)
refused-at bytes at why none = none

pub filled-at : (bytes : List ℕ) (at : ℕ) (t : file.Task) (before : Lists) → ListsFilled bytes at t.header before t.lists → ReadAt bytes at (Ok t)
filled-at bytes at t before f = f.there

-- every readable task is read back from its written form
pub read_back : (bytes : List ℕ) (a : Result file.Task Refusal) (T : Task) → ReadWhole bytes a → Accepted bytes T
    → (t : file.Task) × (a ≡ Ok t) × (task_of t ≡ T) × (t.header.end ≡ length bytes)
read_back bytes (Ok t) T read accepted = (t, refl, accepted-once bytes (task_of t) T read.0 accepted, read.1)
read_back bytes (Err refusal) T refused accepted = absurd (refused.1 T accepted)

pub read-back-at : (bytes : List ℕ) (at to : ℕ) (a : Result file.Task Refusal) (T : Task) → ReadAt bytes at a → AcceptedAt bytes at to T
    → (t : file.Task) × (a ≡ Ok t) × (task_of t ≡ T) × (t.header.end ≡ to)
read-back-at bytes at to (Ok t) T found accepted =
    let same : task_of t ≡ T = same-task bytes at (task_of t) T found.2 accepted.2 found.0 accepted.0 in
    (t, refl, same, found.1 ∙ ap (λ U. at + length (file_of U)) same ∙ sym accepted.1)
read-back-at bytes at to (Err refusal) T refused accepted = absurd (refused.1 to T accepted)
