use Rattle.std.proofs.Common.{◌≡◌, length, map, subst, sym, arith}
use Rattle.std.proofs.lemmas.Grind.{common_steps}
use Rattle.dk_syntax.specs.Terms.{EachBelow, substituted}
use Rattle.step_clause.specs.Search.{PivotsBelow}
use Rattle.unifier.specs.Outcomes.{Outcome}
use Rattle.step_chain.proofs.ChosenLaws.{bound_true}
use Rattle.step_chain.proofs.choosing.with_atom.Goals as goal

pub extend_terms-requires-clause-below_xs : goal.extend_terms-requires-clause-below_xs
extend_terms-requires-clause-below_xs c =
    subst (λ z. EachBelow (length c.in_ok-more.more.terms) z) (sym c.as_slice.ensures)
    (subst (λ z. EachBelow (length z) c.args.literal.now.args) (sym c.in_ok-more.ensures) c.requires.below)

pub extend_terms-requires-clause-below_ys : goal.extend_terms-requires-clause-below_ys
extend_terms-requires-clause-below_ys c =
    subst (λ z. EachBelow (length c.in_ok-more.more.terms) z) (sym c.as_slice-in-Some.ensures)
    (subst (λ z. EachBelow (length z) c.in-Some.e.args) (sym c.in_ok-more.ensures)
    (subst (PivotsBelow (length c.args.bindings.now.terms)) c.in-Some.is c.requires.below_first))

pub returns-else-not-same-2 : goal.returns-else-not-same-2
returns-else-not-same-2 c =
    bound_true c.args.first.now c.args.literal.now c.in-Some.e c.args.bindings.now.terms c.in_ok-more.more.terms c.extend_terms.new.bindings.terms
    c.as_slice.result.now c.as_slice-in-Some.result.now c.in-Some.is (grind (arith, common_steps, c.same.ensures)) c.in_ok-more.ensures c.as_slice.ensures c.as_slice-in-Some.ensures
    (subst (λ w. Outcome 0 (λ r. map (substituted r) c.as_slice.result.now ≡ map (substituted r) c.as_slice-in-Some.result.now) c.in_ok-more.more.terms c.extend_terms.new.bindings.terms w) c.if-not-same-2.false c.in_ok-same-in-Some.ensures)
