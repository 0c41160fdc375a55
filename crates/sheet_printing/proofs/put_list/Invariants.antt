use Rattle.std.proofs.Common.{◌≡◌}
use lib.ListN.{take}
use Rattle.model.specs.File.{fields}
use Rattle.model.proofs.Pieces.{Fitting}
use Rattle.file_columns.specs.Put.{written}
use Rattle.sheet_printing.proofs.put_list.Given as goal

abbrev pub invariant-loop-i : goal.invariant-loop-i
invariant-loop-i l = Fitting l.list × (l.out ≡ written l.initial.out l.at (fields 14 (take l.i l.list)))
