use Rattle.std.proofs.Common.{rules, ◌≡◌, ◌∙◌, ◌≤◌, ◌^◌, take, length, arith}
use Rattle.std.specs.List.{sum}
use Rattle.std.proofs.lemmas.Iterator.Adapters.{fits_from_length, at_most_from_yields_List}
use Rattle.std.proofs.lemmas.Iterator.{YieldsList-from_slice}
use Rattle.std.proofs.iter.runs.Made.{chains}
use lib.Seq.{length-take-le}
use Rattle.solution.proofs.Walks.{sum-is}
use Rattle.solution.proofs.sum_lengths.Goals as goal

-- at most 16 lengths, each below 2 ^ 32
pub sum-requires-clause-fits : goal.sum-requires-clause-fits
sum-requires-clause-fits c =
    let few : length c.iter.result.rest.now ≤ 16 = search (rules, length-take-le) in
    fits_from_length _ _ 16 (2 ^ 64) (at_most_from_yields_List (YieldsList-from_slice c.iter.result.rest.now cc) few) c.map.ensures.closure
    (omega arith) (λ x r q k. search rules)

pub returns : goal.returns
returns c =
    let e : c.sum.result ≡ sum (take c.args.v c.args.plan.now) = search (rules, chains) in e ∙ sum-is _
