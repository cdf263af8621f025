use Rattle.std.proofs.Common.{◌++◌, ◌∷◌, [], subst, sym, ap, ap₂, ◌∙◌}
use Rattle.step_clause.specs.Justifications.{AreNumbered, IsJustification}
use Rattle.step_chain.proofs.SearchLaws.{last_some, pair_numbered}
use Rattle.step_chain.specs.Chains.{alone}
use Rattle.step_chain.specs.Search.{chain_with}
use Rattle.step_chain.proofs.search.finish.Goals as goal

pub justify-requires-clause-parents : goal.justify-requires-clause-parents
justify-requires-clause-parents c = subst AreNumbered (sym c.in_ok-lists.ensures) (pair_numbered c.args.middle.now c.args.last.now c.requires.middle c.requires.last)

pub returns : goal.returns
returns c =
    last_some c.args.target.now c.args.middle.now c.args.last.now c.in-Some.step _
    (ap₂ chain_with (c.from_vec-mids.ensures ∙ c.new-in-Some.ensures.items) (c.in_ok-push-in-Some.ensures.ok ∙ ap (λ z. z ++ c.in-Some.step ∷ []) (c.from_vec-steps.ensures ∙ c.new.ensures.items)))
    (subst (IsJustification c.args.target.now (alone c.args.middle.now ∷ c.args.last.now ∷ [])) c.in-Some.is
    (subst (λ z. IsJustification c.args.target.now z c.in_ok-found.found) c.in_ok-lists.ensures c.in_ok-found.ensures.answer))
