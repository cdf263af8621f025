use Rattle.std.proofs.Common.{None, subst, sym}
use Rattle.step_clause.specs.Justifications.{AreNumbered, IsJustification}
use Rattle.step_chain.proofs.GoingLaws.{last_numbered, needs_it}
use Rattle.step_chain.proofs.search.needs_middle.Goals as goal

pub justify-requires-clause-parents : goal.justify-requires-clause-parents
justify-requires-clause-parents c =
    subst AreNumbered (sym c.in_ok-lists-in-Some.ensures) (last_numbered c.args.rest.now _ c.in-Some.last.now c.in-Some.ensures.cases.0 c.requires.rest)

pub returns : goal.returns
returns c = λ yes.
    needs_it c.args.target.now c.args.rest.now _ c.in-Some.last.now c.in-Some.ensures.cases.0
    (subst (λ z. IsJustification c.args.target.now z None) c.in_ok-lists-in-Some.ensures (subst (IsJustification c.args.target.now c.in_ok-lists-in-Some.lists) c.in-None-found.is c.in_ok-found-in-Some.ensures.answer))
