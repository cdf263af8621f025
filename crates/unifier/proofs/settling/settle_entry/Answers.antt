use Rattle.unifier.proofs.SettlingLaws.{bound_entry_settled}
use Rattle.unifier.proofs.settling.settle_entry.Goals as goal

pub returns-in_ok-term-in-Some-clause-entry : goal.returns-in_ok-term-in-Some-clause-entry
returns-in_ok-term-in-Some-clause-entry c = λ m ok.
    bound_entry_settled m c.args.k c.in-Some.field-0.now c.in_ok-term-in-Some.term _ c.in-Some.ensures (c.in_ok-term-in-Some.ensures.term m ok)
