use Rattle.step_check.proofs.links.fitted_link.Goals as goal

pub same_sorted-requires-clause-known : goal.same_sorted-requires-clause-known
same_sorted-requires-clause-known c =
    let known = c.in_ok-note_sorted.ensures.known in
    (known.0, c.in_ok-note_sorted-2.ensures.kept c.args.number known.0 known.1)
