-- How long a sheet is at most: where so many bytes are left, what follows them does not matter.
use mathlib.Core.Path.{◌≡◌, sym, ◌∙◌, ap}
use Prim.Native.Nat.{ℕ, ◌+◌, ◌*◌, ◌≤◌}
use native.Mathlib.Omega.{arith}
use mathlib.Core.Bool.{Bool, true, false}
use mathlib.Core.List.{List, ◌++◌}
use lib.ListN.{length, take, drop, length-append, length-drop}
use lib.Seq.{take-append-le, drop-append-le}
use Rattle.model.specs.Calls.{blank}
use Rattle.model.specs.Run.{Task}
use Rattle.model.specs.File.{file_of, Readable}
use Rattle.model.proofs.Pieces.{fitting, line-length}
use Rattle.model.proofs.Tasks.{file-length}
use Rattle.file_job.proofs.Checked.{table-bytes}
use Rattle.sheet_head.specs.Form.{has_given, least_given, most_given, has_plan, line_if, head_of, ListFor, longest_plan}
use Rattle.sheet_answer.specs.Sheets.{Sheet, sheet_of, ReadableSheet, SheetAt, longest_sheet}
use Rattle.sheet_head.proofs.Lines.{few-given, head-length}

line-bytes : (b : Bool) (least most m : ℕ) (known ns : List ℕ) → ListFor b least most known ns → most ≤ m → length (line_if b ns) ≤ 14 * m + 1
line-bytes true least most m known ns f l = omega (arith, f.1, line-length ns (fitting f.2))
line-bytes false least most m known ns f l = omega arith

file-bytes : (T : Task) → Readable T → length (file_of T) ≤ 106592
file-bytes T r =
    omega (
      arith,
      file-length T r (file_of T) 0,
      table-bytes T.job.locations r.locations,
      r.vehicles,
      r.stops,
      r.draws,
    )

pub sheet-bytes : (S : Sheet) → ReadableSheet S → length (sheet_of S) ≤ longest_sheet
unfolding sheet_of
sheet-bytes S r =
    let c = S.call in
    omega (
      arith,
      length-append (head_of c S.given S.plan) (file_of S.task),
      head-length (file_of S.task) 0 c S.given S.plan r.last,
      line-bytes (has_given c) (least_given c) (most_given c) 8 _ S.given r.given (few-given c),
      line-bytes (has_plan c) 0 longest_plan 96 (blank S.task.job) S.plan r.plan (omega arith),
      file-bytes S.task r.task,
    )

-- a piece that ends within some bytes stands there whatever follows them
same-there : (bytes more : List ℕ) (at n : ℕ) → at + n ≤ length bytes → take n (drop at (bytes ++ more)) ≡ take n (drop at bytes)
same-there bytes more at n l =
    ap (take n) (drop-append-le at bytes more (omega arith))
    ∙ take-append-le n (drop at bytes) more (omega (arith, length-drop at bytes))

module _ (bytes more : List ℕ) (at to : ℕ) (S : Sheet) (l : at + longest_sheet ≤ length bytes) where
  pub seen : SheetAt bytes at to S → SheetAt (bytes ++ more) at to S
  seen s =
      record {
        stands = same-there bytes more at (length (sheet_of S)) (omega (arith, sheet-bytes S s.readable)) ∙ s.stands;
        end = s.end;
        readable = s.readable;
      }

  pub there-already : SheetAt (bytes ++ more) at to S → SheetAt bytes at to S
  there-already s =
      record {
        stands = sym (same-there bytes more at (length (sheet_of S)) (omega (arith, sheet-bytes S s.readable))) ∙ s.stands;
        end = s.end;
        readable = s.readable;
      }
