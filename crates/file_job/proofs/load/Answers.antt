use Rattle.std.proofs.Common.{refl}
use Rattle.file_job.proofs.load.Goals as goal

pub returns : goal.returns
returns c = (refl, c.fill_lists.ensures.there, c.fill_lists.ensures.behind)
