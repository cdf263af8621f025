use Rattle.std.proofs.Common.{◌≡◌, length, sym, ap, subst, ◌∙◌}
use Rattle.std.specs.List.{All}
use Rattle.std.proofs.lemmas.List.{length-map}
use Rattle.std.proofs.lemmas.Result.{IfOk-weaker}
use Rattle.assemble.specs.Fitting.{eigenvariables_of}
use Rattle.assemble.specs.Problem.{theory_conclusion, theory_formulas}
use Rattle.development.proofs.BodyLaws.{all_closed}
use Rattle.development.proofs.NestLaws.{body_is}
use Rattle.development.specs.Nest.{assumed, inner}
use Rattle.dk_syntax.specs.Problems.{formula_of}
use Rattle.dk_syntax.specs.WellFormed.{IsClosed}
use Rattle.dk_syntax.specs.declared.Named.{Named}
use Rattle.lp_term.specs.ProofTerms.{contradiction}
use Rattle.lp_term.specs.View.{term_of}
use Rattle.nd_term.proofs.ListLaws.{every_parts}
use Rattle.nd_term.specs.Views.{theory_formula}
use Rattle.plan_typing.specs.Laws.{plan_body}
use Rattle.plan_typing.specs.Reasons.{theory_instances}
use Rattle.std.proofs.Common.{map}
use Rattle.development.proofs.goal.body.Goals as goal

pub conclusion-requires : goal.conclusion-requires
conclusion-requires c =
    let problem = c.args.problem.now in
    (every_parts (map (λ named. named.formula) problem.hyps) (formula_of problem.conjecture) c.requires.closed).1

pub assumed-requires : goal.assumed-requires
assumed-requires c =
    let problem = c.args.problem.now in
    subst (All (λ (h : Named). IsClosed h.formula)) (sym c.as_slice-3.ensures)
    (all_closed problem.hyps (every_parts (map (λ named. named.formula) problem.hyps) (formula_of problem.conjecture) c.requires.closed).0)

pub returns : goal.returns
returns c =
    let problem = c.args.problem.now in
    let trace = c.args.trace.now in
    let plan = c.args.plan.now in
    let given = c.in_ok-given.ensures in
    let hs = theory_formulas problem.hyps in
    let es = eigenvariables_of plan.origins.list plan.order in
    let f = theory_conclusion problem.conjecture in
    let list = theory_instances problem trace plan in
    let denied : c.in_ok-given.given.denied ≡ length hs =
    given.given.denied ∙ ap (λ p. length p.hyps) given.problem ∙ sym (length-map problem.hyps (λ h. theory_formula h.formula)) in
    let inside : term_of c.in_ok-inside.inside ≡ inner (length hs) es list f =
    c.in_ok-inside.ensures
    ∙ (λ k. inner (denied k) (eigenvariables_of (given.plan k).origins.list (given.plan k).order) (theory_instances (given.problem k) (given.trace k) (given.plan k)) (theory_conclusion (given.problem k).conjecture)) in
    IfOk-weaker c.assumed.result (λ t. term_of t ≡ assumed (theory_formulas c.as_slice-3.result.now) (term_of c.in_ok-whole.whole)) (λ t. term_of t ≡ plan_body problem trace plan)
    (λ t e. e ∙ (λ k. assumed (theory_formulas (c.as_slice-3.ensures k)) ((c.in_ok-whole.ensures.term ∙ (λ j. contradiction (c.in_ok-conjecture.ensures j) (inside j))) k))
    ∙ sym (body_is hs es f list))
    c.assumed.ensures
