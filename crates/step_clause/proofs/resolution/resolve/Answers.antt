use Rattle.std.proofs.Common.{◌≡◌, ◌+◌, replicate, take, drop, length, None, ap, ◌∙◌, arith, subst}
use Rattle.std.proofs.lemmas.Grind.{common_steps}
use Rattle.unifier.specs.Substitution.{value}
use Rattle.step_clause.specs.Justifications.{closed_terms}
use Rattle.step_clause.specs.Search.{IsFound}
use Rattle.step_clause.proofs.Pairs.{ResolvingFits, resolve_none, resolve_some}
use Rattle.step_clause.proofs.resolution.resolve.Goals as goal

pub returns-in-None : goal.returns-in-None
returns-in-None c =
    resolve_none c.args.target.now c.args.first.now c.args.second.now c.requires.target c.requires.first c.requires.second
    (subst (IsFound c.args.target.now.vars (ResolvingFits c.args.target.now c.args.first.now c.args.second.now) (replicate (c.args.target.now.vars + c.args.first.now.vars + c.args.second.now.vars) None)) c.in-None.is c.in_ok-found.ensures)

pub returns-in_ok-pos_picks-in-Some : goal.returns-in_ok-pos_picks-in-Some
returns-in_ok-pos_picks-in-Some c =
    let d : c.in_ok-from-in-Some.from ≡ c.args.target.now.vars + c.args.first.now.vars = grind (arith, common_steps) in
    resolve_some c.args.target.now c.args.first.now c.args.second.now c.requires.target c.requires.first c.requires.second
    c.args.at.parent c.args.at.number c.args.other.parent c.args.other.number c.in-Some.f.picks
    c.in_ok-pos_picks-in-Some.pos_picks c.in_ok-pos_picks-in-Some.neg_picks c.in_ok-pos_terms-in-Some.pos_terms c.in_ok-neg_terms-in-Some.neg_terms
    c.in-Some.f.bindings.terms c.in_ok-solution-in-Some.solution.terms
    (c.in_ok-pos_picks-in-Some.ensures.0 ∙ ap (λ z. take z c.as_slice.result.now) c.len.ensures ∙ ap (take (length c.args.first.now.lits)) c.as_slice.ensures)
    (c.in_ok-pos_picks-in-Some.ensures.1 ∙ ap (λ z. drop z c.as_slice.result.now) c.len.ensures ∙ ap (drop (length c.args.first.now.lits)) c.as_slice.ensures)
    (subst (IsFound c.args.target.now.vars (ResolvingFits c.args.target.now c.args.first.now c.args.second.now) (replicate (c.args.target.now.vars + c.args.first.now.vars + c.args.second.now.vars) None)) c.in-Some.is c.in_ok-found.ensures)
    (c.in_ok-solution-in-Some.ensures.settled c.args.target.now.vars) (c.in_ok-solution-in-Some.ensures.same c.args.target.now.vars)
    c.in_ok-pos_terms-in-Some.ensures
    (c.in_ok-neg_terms-in-Some.ensures ∙ ap (λ z. closed_terms c.args.target.now.vars c.args.second.now.vars (λ j. value c.in_ok-solution-in-Some.solution.terms (z + j))) d)
