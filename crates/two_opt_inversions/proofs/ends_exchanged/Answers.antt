use Rattle.two_opt_inversions.proofs.Laws.{ends-written}
use Rattle.two_opt_inversions.proofs.ends_exchanged.Goals as goal

pub returns : goal.returns
returns c =
    let a = c.args in
    ends-written a.out.now _ _ _ a.route.now a.i a.j _ _ c.paste_reversed-a.ensures.value c.paste_reversed-a.ensures.to_after c.paste-b.ensures.value
    c.paste-b.ensures.to_after c.paste_reversed.ensures.to_after
