use Rattle.std.proofs.Common.{None, Some, subst, sym}
use Rattle.step_clause.proofs.Justified.{ResolvingKey, SubsumingKey, last_justified, subsumption_justified}
use Rattle.step_clause.proofs.Uniqueness.{one_justification}
use Rattle.step_clause.specs.Justifications.{AreNumbered}
use Rattle.step_clause.specs.Places.{AmongAt, IsAnswer, IsListSubsumption, IsParentResolution}
use Rattle.step_clause.proofs.parents.justify.Goals as goal

pub least_subsumption-requires-clause-parents : goal.least_subsumption-requires-clause-parents
least_subsumption-requires-clause-parents c = subst AreNumbered (sym c.as_slice.ensures) c.requires.parents

pub least_resolution-requires-clause-parents : goal.least_resolution-requires-clause-parents
least_resolution-requires-clause-parents c = subst AreNumbered (sym c.as_slice-in-None.ensures) c.requires.parents

subsumed : goal.returns-in-Some-clause-answer
subsumed c =
    subsumption_justified c.args.target.now c.args.parents.now c.in-Some.it
    (subst (λ z. IsAnswer (SubsumingKey c.args.target.now z) (λ it. AmongAt (λ parent list. IsListSubsumption c.args.target.now parent list it) z) (Some c.in-Some.it)) c.as_slice.ensures
    (subst (IsAnswer (SubsumingKey c.args.target.now c.as_slice.result.now) (λ it. AmongAt (λ parent list. IsListSubsumption c.args.target.now parent list it) c.as_slice.result.now)) c.in-Some.is c.in_ok-found.ensures))

resolved : goal.returns-in_ok-last-in-None-clause-answer
resolved c =
    last_justified c.args.target.now c.args.parents.now c.in_ok-last-in-None.last
    (subst (λ z. IsAnswer (SubsumingKey c.args.target.now z) (λ it. AmongAt (λ parent list. IsListSubsumption c.args.target.now parent list it) z) None) c.as_slice.ensures
    (subst (IsAnswer (SubsumingKey c.args.target.now c.as_slice.result.now) (λ it. AmongAt (λ parent list. IsListSubsumption c.args.target.now parent list it) c.as_slice.result.now)) c.in-None.is c.in_ok-found.ensures))
    (subst (λ z. IsAnswer (ResolvingKey c.args.target.now z) (λ it. AmongAt (λ parent list. IsParentResolution c.args.target.now z parent list it) z) c.in_ok-last-in-None.last) c.as_slice-in-None.ensures c.in_ok-last-in-None.ensures)

pub returns-in-Some-clause-answer : goal.returns-in-Some-clause-answer
returns-in-Some-clause-answer c = subsumed c

pub returns-in-Some-clause-alone : goal.returns-in-Some-clause-alone
returns-in-Some-clause-alone c other h = one_justification c.args.target.now c.args.parents.now other (Some c.in-Some.it) h (subsumed c)

pub returns-in_ok-last-in-None-clause-answer : goal.returns-in_ok-last-in-None-clause-answer
returns-in_ok-last-in-None-clause-answer c = resolved c

pub returns-in_ok-last-in-None-clause-alone : goal.returns-in_ok-last-in-None-clause-alone
returns-in_ok-last-in-None-clause-alone c other h = one_justification c.args.target.now c.args.parents.now other c.in_ok-last-in-None.last h (resolved c)
