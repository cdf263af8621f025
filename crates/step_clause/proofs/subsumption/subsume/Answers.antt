use Rattle.std.proofs.Common.{◌+◌, replicate, None, subst}
use Rattle.step_clause.specs.Search.{IsFound}
use Rattle.step_clause.proofs.Pairs.{SubsumingFits, subsume_none, subsume_some}
use Rattle.step_clause.proofs.subsumption.subsume.Goals as goal

pub returns-in-None : goal.returns-in-None
returns-in-None c =
    subsume_none c.args.target.now c.args.clause.now c.requires.target c.requires.clause
    (subst (IsFound c.args.target.now.vars (SubsumingFits c.args.target.now c.args.clause.now) (replicate (c.args.target.now.vars + c.args.clause.now.vars) None)) c.in-None.is c.in_ok-found.ensures)

pub returns-in_ok-terms-in-Some : goal.returns-in_ok-terms-in-Some
returns-in_ok-terms-in-Some c =
    subsume_some c.args.target.now c.args.clause.now c.requires.target c.requires.clause c.args.at.parent c.args.at.number
    c.in-Some.f.picks c.in_ok-terms-in-Some.terms c.in-Some.f.bindings.terms c.in_ok-solution-in-Some.solution.terms
    (subst (IsFound c.args.target.now.vars (SubsumingFits c.args.target.now c.args.clause.now) (replicate (c.args.target.now.vars + c.args.clause.now.vars) None)) c.in-Some.is c.in_ok-found.ensures)
    (c.in_ok-solution-in-Some.ensures.settled c.args.target.now.vars) (c.in_ok-solution-in-Some.ensures.same c.args.target.now.vars)
    c.in_ok-terms-in-Some.ensures
