use Rattle.std.proofs.Common.{subst, ◌∙◌}
use Rattle.step_chain.proofs.OnceLaws.{adds_both, adds_contained, contained_later}
use Rattle.step_chain.specs.Resolvents.{kept}
use Rattle.step_chain.specs.Resolving.{AreAddedOnce}
use Rattle.step_chain.proofs.resolvent.left_once.Goals as goal

pub returns-clause-once : goal.returns-clause-once
returns-clause-once c =
    adds_both (kept c.args.ones.now c.args.taken.now) c.add_once.new.once (kept c.args.twos.now c.args.others.now) c.add_once-2.new.once
    (subst (λ z. AreAddedOnce z (kept c.args.ones.now c.args.taken.now) c.add_once.new.once) (c.from_vec-lits.ensures ∙ c.new.ensures.items) c.in_ok-add_once.ensures)
    c.in_ok-add_once-2.ensures

pub returns-clause-ones : goal.returns-clause-ones
returns-clause-ones c =
    contained_later c.add_once.new.once (kept c.args.twos.now c.args.others.now) c.add_once-2.new.once (kept c.args.ones.now c.args.taken.now) c.in_ok-add_once-2.ensures
    (adds_contained c.from_vec-lits.result (kept c.args.ones.now c.args.taken.now) c.add_once.new.once c.in_ok-add_once.ensures)

pub returns-clause-twos : goal.returns-clause-twos
returns-clause-twos c =
    adds_contained c.add_once.new.once (kept c.args.twos.now c.args.others.now) c.add_once-2.new.once c.in_ok-add_once-2.ensures
