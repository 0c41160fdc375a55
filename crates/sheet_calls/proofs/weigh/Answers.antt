use Rattle.std.proofs.Common.{refl, arith}
use Rattle.model.specs.Refusals.{Weigh}
use Rattle.sheet_lines.proofs.Exact.{exactly}
use Rattle.sheet_lines.proofs.Shown.{shown-weight}
use Rattle.sheet_calls.proofs.weigh.Goals as goal

pub print_value-requires : goal.print_value-requires
print_value-requires c =
    record { in_bounds = omega arith; refusal_in_bounds = omega arith; exactly = exactly Weigh _ _ refl c.weigh-answer.ensures.answer }

pub returns : goal.returns
returns c = shown-weight _ _ _ _ _ c.weigh-answer.ensures.answer c.print_value.ensures
