use Rattle.std.proofs.Common.{sym, ◌∙◌}
use Rattle.ground_instances.specs.Notes.{judged_given}
use Rattle.ground_instances.proofs.ClauseLaws.{found_fit}
use Rattle.ground_instances.proofs.lists.ask_fit.Goals as goal

pub returns-then-len-clause : goal.returns-then-len-clause
returns-then-len-clause c = λ terms long.
    found_fit (judged_given c.args.given.now) c.args.lists.now c.args.named.now.place c.in-Some.clause.now c.requires c.in-Some.ensures
    (c.in_ok-each-in-Some.ensures c.if-each.true) terms (long ∙ sym c.len.ensures ∙ c.if-len-clause.true)
