use Rattle.std.proofs.Common.{◌≡◌, ap, arith, length, take, ◌-◌, subst, sym, ◌∙◌}
use Rattle.std.proofs.lemmas.Grind.{common_steps}
use Rattle.lp_term.specs.Problems.{conclusion_of}
use Rattle.lp_term.specs.Terms.{proof_of}
use Rattle.lp_term.proofs.ProblemLaws.{Covers, covers_all, covers_more, covers_none}
use Rattle.lp_term.proofs.problem.goal_type.Goals as goal

pub loop-rest-init : goal.loop-rest-init
loop-rest-init c =
    let same = c.as_slice-rest.ensures in
    subst (λ hypotheses. Covers hypotheses (proof_of (conclusion_of c.args.problem.now.conjecture)) c.as_slice-rest.result.now c.in_ok-all.all) same
    (covers_none c.as_slice-rest.result.now _ _ (grind (arith, common_steps)))

pub loop-rest-preserved : goal.loop-rest-preserved
loop-rest-preserved c =
    subst (λ all. Covers c.args.problem.now.hyps (proof_of (conclusion_of c.args.problem.now.conjecture)) (take (length c.loop-rest.rest.now - 1) c.loop-rest.rest.now) all) (sym (c.in_ok-all-2.ensures))
    (covers_more c.args.problem.now.hyps c.loop-rest.rest.now c.hypothesis-item.result _ c.loop-rest.all c.in_ok-domain.domain (omega arith) c.hypothesis-item.is (grind (arith, common_steps)) c.loop-rest.invariant)

pub returns : goal.returns
returns c = covers_all _ _ _ _ c.in_default.len_below c.loop-rest.invariant
