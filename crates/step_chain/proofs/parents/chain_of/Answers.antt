use Rattle.std.proofs.Common.{subst, sym, ◌∙◌}
use Rattle.step_clause.specs.Justifications.{AreNumbered}
use Rattle.step_chain.proofs.OneLeastChain.{first_numbered, one_chain_answer, rest_numbered}
use Rattle.step_chain.proofs.SearchLaws.{by_starts}
use Rattle.step_chain.specs.Chains.{IsChainAnswer}
use Rattle.step_chain.proofs.parents.chain_of.Goals as goal

pub search_starts-requires-clause-first : goal.search_starts-requires-clause-first
search_starts-requires-clause-first c =
    first_numbered c.in-Some.first.now c.in-Some.rest.now (subst AreNumbered (sym c.as_slice.ensures ∙ c.in-Some.ensures.cases.0) c.requires.parents)

pub search_starts-requires-clause-rest : goal.search_starts-requires-clause-rest
search_starts-requires-clause-rest c =
    rest_numbered c.in-Some.first.now c.in-Some.rest.now (subst AreNumbered (sym c.as_slice.ensures ∙ c.in-Some.ensures.cases.0) c.requires.parents)

pub returns-in_ok-found-in-Some-clause-answer : goal.returns-in_ok-found-in-Some-clause-answer
returns-in_ok-found-in-Some-clause-answer c =
    subst (λ z. IsChainAnswer c.args.target.now z c.in_ok-found-in-Some.found) (sym (sym c.as_slice.ensures ∙ c.in-Some.ensures.cases.0))
    (by_starts c.args.target.now c.in-Some.first.now c.in-Some.rest.now c.in_ok-found-in-Some.found c.in_ok-found-in-Some.ensures)

pub returns-in_ok-found-in-Some-clause-alone : goal.returns-in_ok-found-in-Some-clause-alone
returns-in_ok-found-in-Some-clause-alone c = λ other h.
    one_chain_answer c.args.target.now c.args.parents.now c.requires.parents other c.in_ok-found-in-Some.found h
    (subst (λ z. IsChainAnswer c.args.target.now z c.in_ok-found-in-Some.found) (sym (sym c.as_slice.ensures ∙ c.in-Some.ensures.cases.0))
    (by_starts c.args.target.now c.in-Some.first.now c.in-Some.rest.now c.in_ok-found-in-Some.found c.in_ok-found-in-Some.ensures))

pub needs_middle-requires-clause-rest : goal.needs_middle-requires-clause-rest
needs_middle-requires-clause-rest c =
    rest_numbered c.in-Some.first.now c.in-Some.rest.now (subst AreNumbered (sym c.as_slice.ensures ∙ c.in-Some.ensures.cases.0) c.requires.parents)
