use Rattle.std.proofs.Common.{◌+◌, ap, ap₂, sym, subst, ◌∙◌}
use Rattle.normal_form.specs.ClauseLists.{clause_over, quants_of}
use Rattle.unifier.specs.Substitution.{value}
use Rattle.step_chain.specs.Resolvents.{kept, resolution_by, closed_terms_over}
use Rattle.step_chain.specs.Resolving.{AreContained, AreInstancePicks}
use Rattle.step_chain.proofs.resolvent.resolve_instances.Goals as goal

pub part_of-requires-clause-there : goal.part_of-requires-clause-there
part_of-requires-clause-there c = subst (λ z. AreContained z (kept c.args.ones.now c.args.taken.now)) (sym c.as_slice-2.ensures) c.in_ok-lits.ensures.ones

pub part_of-requires-2-clause-there : goal.part_of-requires-2-clause-there
part_of-requires-2-clause-there c = subst (λ z. AreContained z (kept c.args.twos.now c.args.others.now)) (sym c.as_slice-4.ensures) c.in_ok-lits.ensures.twos

pub returns : goal.returns
returns c =
    let variables = c.in_ok-variables.ensures ∙ ap quants_of c.as_slice.ensures in
    record {
      lits = c.in_ok-lits.lits;
      once = c.in_ok-lits.ensures.once;
      clause = c.in_ok-clause.ensures ∙ ap (λ z. clause_over (quants_of z) z) c.as_slice-6.ensures;
      picks = c.in_ok-part.part.picks;
      other_picks = c.in_ok-other.other.picks;
      picked = subst (λ z. AreInstancePicks z c.args.ones.now c.args.taken.now c.in_ok-part.part.picks) c.as_slice-2.ensures c.in_ok-part.ensures.picks;
      other_picked = subst (λ z. AreInstancePicks z c.args.twos.now c.args.others.now c.in_ok-other.other.picks) c.as_slice-4.ensures c.in_ok-other.ensures.picks;
      justified = c.resolution-step.ensures
          ∙ ap₂ (λ p q. resolution_by c.args.pair.now.sign c.args.pair.now.number c.args.pair.now.other c.in_ok-part.part.picks c.in_ok-other.other.picks p q)
          (c.in_ok-part.ensures.terms ∙ ap (λ q. closed_terms_over q c.args.first.now.vars (λ j. value c.args.solution.now.terms (0 + j))) (c.as_slice-3.ensures ∙ variables))
          (c.in_ok-other.ensures.terms ∙ ap (λ q. closed_terms_over q c.args.second.now.vars (λ j. value c.args.solution.now.terms (c.args.first.now.vars + j))) (c.as_slice-5.ensures ∙ variables));
    }
