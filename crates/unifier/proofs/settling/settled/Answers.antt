use Rattle.unifier.proofs.SettlingLaws.{entries_same, entries_settled}
use Rattle.unifier.proofs.settling.settled.Goals as goal

pub returns-clause-settled : goal.returns-clause-settled
returns-clause-settled c = λ frozen ok.
    entries_settled frozen c.in_ok-terms.terms c.as_slice-s.result.now c.args.bindings.now.terms c.as_slice-s.ensures c.in_ok-terms.ensures.length c.in_ok-terms.ensures.entries ok

pub returns-clause-same : goal.returns-clause-same
returns-clause-same c = λ frozen ok.
    entries_same frozen c.in_ok-terms.terms c.as_slice-s.result.now c.args.bindings.now.terms c.as_slice-s.ensures c.in_ok-terms.ensures.length c.in_ok-terms.ensures.entries ok
