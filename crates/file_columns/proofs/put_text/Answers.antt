use Rattle.std.proofs.Common.{rules}
use Rattle.file_columns.proofs.Puts.{text_put}
use Rattle.file_columns.proofs.put_text.Goals as goal

pub returns : goal.returns
returns c =
    rw c.copy_from_slice.ensures.after (text_put _ c.args.at c.args.width c.args.text.now _ c.requires.0 c.requires.1 (search rules))
