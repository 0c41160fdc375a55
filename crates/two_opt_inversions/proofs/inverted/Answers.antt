use Rattle.two_opt_inversions.proofs.Laws.{inverted-written}
use Rattle.two_opt_inversions.proofs.inverted.Goals as goal

pub returns : goal.returns
returns c =
    let a = c.args in
    inverted-written a.out.now _ _ _ a.route.now a.i a.j _ _ c.paste-a.ensures.value c.paste-a.ensures.to_after c.paste_reversed-b.ensures.value
    c.paste_reversed-b.ensures.to_after c.paste.ensures.to_after
