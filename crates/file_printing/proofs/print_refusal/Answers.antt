use native.Mathlib.Omega.{arith}
use Rattle.file_printing.proofs.Pieces.{refusal-printed}
use Rattle.file_printing.proofs.print_refusal.Goals as goal

pub returns : goal.returns
returns c =
    refusal-printed c.args.number _ _ (omega arith) c.requires c.put_number.ensures
