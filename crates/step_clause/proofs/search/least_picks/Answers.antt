use Rattle.step_clause.proofs.SymbolLaws.{none_has_room}
use Rattle.step_clause.proofs.search.least_picks.Goals as goal

pub returns-then-not-allowed : goal.returns-then-not-allowed
returns-then-not-allowed c =
    none_has_room c.args.target.now.vars c.args.target.now.lits c.args.pivots.now c.args.slots.now c.args.s.now.terms
    (λ h. let a = c.in_ok-allowed.ensures.1 h in let b = c.if-not-allowed.true in cc)
