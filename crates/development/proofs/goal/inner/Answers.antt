use Rattle.std.proofs.Common.{ap, ◌∙◌}
use Rattle.assemble.specs.Places.{last_of}
use Rattle.lp_term.specs.LambdaPi.{app}
use Rattle.lp_term.specs.View.{term_of}
use Rattle.nd_term.specs.Places.{last_variables}
use Rattle.development.proofs.BodyLaws.{end_is}
use Rattle.development.proofs.goal.inner.Goals as goal

pub lets-requires-clause-inside : goal.lets-requires-clause-inside
lets-requires-clause-inside c =
    let given = c.args.given.now in
    end_is given.problem.now given.trace.now given.plan.now given.first given.begin (term_of c.in_ok-inside.inside) (term_of c.args.conjecture.now)
    (c.in_ok-inside.ensures ∙ ap (λ n. app (last_of (last_variables n)) (term_of c.args.conjecture.now)) c.len.ensures) c.requires.conclusion
