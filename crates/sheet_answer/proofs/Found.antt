-- From the lines and the job file that were read to the sheet that stands there.
use mathlib.Core.Path.{◌≡◌, sym, ◌∙◌, ap, subst}
use Prim.Native.Nat.{ℕ, ◌+◌, ◌≤◌}
use native.Mathlib.Omega.{arith}
use mathlib.Core.List.{List, [], ◌++◌}
use lib.ListN.{length, length-append}
use Rattle.model.specs.Calls.{blank}
use Rattle.model.specs.File.{file_of, printed_refusal, Stands, AcceptedAt}
use Rattle.model.proofs.Pieces.{stands-within, part, join}
use Rattle.model.proofs.Tasks as tasks
use Rattle.file_job.specs.declared.task.Task as file
use Rattle.model.specs.declared.refusal.Refusal.{Refusal}
use Rattle.std.specs.Prelude.{Option, Some, None, Result, Ok, Err}
use Rattle.file_job.specs.Reading.{task_of, ReadAt}
use Rattle.file_printing.proofs.Pieces.{prints-within}
use Rattle.file_printing.specs.Printing.{Prints}
use Rattle.sheet_head.specs.declared.head.Head.{Head}
use Rattle.sheet_head.specs.Numbered.{number_of_call}
use Rattle.sheet_answer.specs.declared.SheetRead.TheVariants as R
use Rattle.sheet_head.specs.Form.{has_plan, head_of}
use Rattle.sheet_answer.specs.Sheets.{Sheet, sheet_of, ReadableSheet, SheetAt, printed_sheet}
use Rattle.sheet_head.specs.Reading.{HeadOf, given_of, plan_of, HeadFound, HeadAt}
use Rattle.sheet_answer.specs.Running.{sheet_in, AnswersSheet}
use Rattle.sheet_head.proofs.Lines.{SameHead, same_head, head-length, plan-shown, plan-known}

-- ---- the parts of a sheet

module _ (bytes : List ℕ) (at : ℕ) where
  abbrev head_part : Sheet → List ℕ
  head_part S = head_of S.call S.given S.plan

  sheet-head : (to : ℕ) (S : Sheet) → SheetAt bytes at to S → HeadOf bytes at S.call S.given S.plan (blank S.task.job)
  unfolding sheet_of
  sheet-head to S s =
      let r = s.readable in
      record {
        first = r.first;
        last = r.last;
        stops = r.given;
        numbers = r.plan;
        stand = (part bytes at (head_part S) (file_of S.task) s.stands).0;
      }

  sheet-file : (to : ℕ) (S : Sheet) → SheetAt bytes at to S → AcceptedAt bytes (at + length (head_part S)) to S.task
  unfolding sheet_of
  sheet-file to S s = (
    (part bytes at (head_part S) (file_of S.task) s.stands).1,
    s.end ∙ ap (λ n. at + n) (length-append (head_part S) (file_of S.task)) ∙ omega arith,
    s.readable.task,
  )

  -- one sheet stands there
  pub same-sheet : (to too : ℕ) (S Z : Sheet) → SheetAt bytes at to S → SheetAt bytes at too Z → (too ≡ to) × (Z ≡ S)
  same-sheet to too S Z s z =
      let v = same_head bytes at S.call Z.call S.given S.plan (blank S.task.job) Z.given Z.plan (blank Z.task.job)
      (sheet-head to S s) (sheet-head too Z z) in
      let f = sheet-file to S s in
      let g : AcceptedAt bytes (at + length (head_part S)) too Z.task =
      subst (λ x. AcceptedAt bytes (at + length x) too Z.task) v.text (sheet-file too Z z) in
      let task : Z.task ≡ S.task = tasks.same-task bytes (at + length (head_part S)) Z.task S.task g.2 f.2 g.0 f.0 in
      let plan : Z.plan ≡ S.plan = v.plan (ap (λ U. blank U.job) task) in (
        g.1 ∙ ap (λ U. at + length (head_part S) + length (file_of U)) task ∙ sym f.1,
        λ i. record { call = v.call i; given = v.given i; plan = plan i; task = task i },
      )

  -- no sheet stands there, and so refusal 14 is printed
  refused : (out printed : List ℕ) (r : ℕ) → length printed ≡ length out → Prints out printed r (printed_refusal 14)
      → ((to : ℕ) (S : Sheet) → SheetAt bytes at to S → ⊥) → AnswersSheet bytes at out printed (R.Bad r)
  refused out printed r l p none = record { none = none; prints = p; fits = prints-within out printed r (printed_refusal 14) p l }

  pub no-head : (a : Option Head) → HeadAt bytes at a → a ≡ None
      → (out printed : List ℕ) (r : ℕ) → length printed ≡ length out → Prints out printed r (printed_refusal 14)
      → AnswersSheet bytes at out printed (R.Bad r)
  no-head a h e out printed r l p =
      let none : HeadAt bytes at None = rw e at h in
      refused out printed r l p λ to S s. none S.call S.given S.plan (blank S.task.job) (sheet-head to S s)

-- ---- a sheet that was read

module _ (bytes : List ℕ) (at : ℕ) (a : Option Head) (headed : HeadAt bytes at a) (k : Head) (e : a ≡ Some k) where
  there : HeadFound bytes at (number_of_call k.call) k.end (given_of k) (plan_of k)
  there = let h : HeadAt bytes at (Some k) = rw e at headed in h.0

  -- the head of any sheet there is the one that was read
  same : (to : ℕ) (S : Sheet) → SheetAt bytes at to S
      → SameHead bytes at (number_of_call k.call) (given_of k) (plan_of k) [] S.call S.given S.plan (blank S.task.job)
  same to S s =
      same_head bytes at (number_of_call k.call) S.call (given_of k) (plan_of k) [] S.given S.plan (blank S.task.job)
      there.lines (sheet-head bytes at to S s)

  -- so its job file stands where the one that was read begins
  same-file : (to : ℕ) (S : Sheet) → SheetAt bytes at to S → AcceptedAt bytes k.end to S.task
  same-file to S s =
      subst (λ x. AcceptedAt bytes x to S.task) (ap (λ t. at + length t) (same to S s).text ∙ sym there.ends)
      (sheet-file bytes at to S s)

  module _ (b : Result file.Task Refusal) (read : ReadAt bytes k.end b) where
    pub no-file : (why : Refusal) → b ≡ Err why → (out printed : List ℕ) (r : ℕ) → length printed ≡ length out
        → Prints out printed r (printed_refusal 14) → AnswersSheet bytes at out printed (R.Bad r)
    no-file why f out printed r l p =
        let none : ReadAt bytes k.end (Err why) = rw f at read in
        refused bytes at out printed r l p λ to S s. none.1 to S.task (same-file to S s)

    module _ (t : file.Task) (f : b ≡ Ok t) where
      found : AcceptedAt bytes k.end t.header.end (task_of t)
      found = let h : ReadAt bytes k.end (Ok t) = rw f at read in h

      pub sheet-readable : ReadableSheet (sheet_in k t)
      sheet-readable =
          let l = there.lines in
          record {
            first = l.first;
            last = l.last;
            given = l.stops;
            plan = plan-known (has_plan (number_of_call k.call)) (plan_of k) (blank (task_of t).job) l.numbers;
            task = found.2;
          }

      sheet-text : sheet_of (sheet_in k t) ≡ head_of (number_of_call k.call) (given_of k) (plan_of k) ++ file_of (task_of t)
      unfolding sheet_of
      sheet-text = ap (λ x. x ++ file_of (task_of t)) (plan-shown (number_of_call k.call) (given_of k) (plan_of k) (blank (task_of t).job))

      sheet-there : SheetAt bytes at t.header.end (sheet_in k t)
      sheet-there =
          let x = head_of (number_of_call k.call) (given_of k) (plan_of k) in
          let u = file_of (task_of t) in
          record {
            stands = rw sheet-text (join bytes at x u there.lines.stand (subst (λ y. Stands bytes y u) there.ends found.0));
            end = found.1 ∙ ap (λ y. y + length u) there.ends ∙ omega (arith, ap length sheet-text, length-append x u);
            readable = sheet-readable;
          }

      sheet-long : at + 1 ≤ at + length (sheet_of (sheet_in k t))
      sheet-long =
          let x = head_of (number_of_call k.call) (given_of k) (plan_of k) in
          omega (
            arith,
            ap length sheet-text,
            length-append x (file_of (task_of t)),
            head-length bytes at (number_of_call k.call) (given_of k) (plan_of k) there.lines.last,
          )

      pub sheet-answered : (out printed : List ℕ) (r : ℕ) → length printed ≡ length out → Prints out printed r (printed_sheet (sheet_in k t))
          → AnswersSheet bytes at out printed (R.Answered t.header.end r)
      sheet-answered out printed r l p =
          record {
            sheet = sheet_in k t;
            there = sheet-there;
            prints = p;
            only = λ to S s. same-sheet bytes at t.header.end to (sheet_in k t) S sheet-there s;
            further = omega (arith, sheet-long, sheet-there.end);
            within = omega (arith, sheet-there.end, stands-within bytes at (sheet_of (sheet_in k t)) (omega (arith, sheet-long)) sheet-there.stands);
            fits = prints-within out printed r (printed_sheet (sheet_in k t)) p l;
          }
