use Rattle.std.proofs.Common.{◌≡◌, None, ap, arith, get_or, length, subst, sym, ◌∙◌}
use Rattle.std.proofs.lemmas.List.{length-replicate}
use Rattle.unifier.proofs.BoundLaws.{unbound}
use Rattle.unifier.proofs.SolutionLaws.{SolvesTo, general, solve_refuted, solve_step, solved, unbound_extended}
use Rattle.unifier.specs.Outcomes.{Extended, Outcome}
use Rattle.dk_syntax.specs.Terms.{Below, substituted}
use Rattle.unifier.proofs.solution.solve.Goals as goal

pub loop-equation-init : goal.loop-equation-init
loop-equation-init c =
    let e = sym c.in_ok-bindings.ensures.terms in (
      ap length c.in_ok-bindings.ensures.terms ∙ length-replicate c.args.vars None,
      c.in_ok-bindings.ensures.sound c.args.frozen,
      subst (Extended c.args.frozen (λ r. SolvesTo r c.args.equations.now.pairs 0) (unbound c.args.vars)) e (unbound_extended c.args.frozen c.args.vars c.args.equations.now.pairs),
    )

pub extend-requires-clause-below_a : goal.extend-requires-clause-below_a
extend-requires-clause-below_a c =
    let e = c.equation-item.is ∙ ap (λ xs. get_or xs c.loop-equation.equation-index c.equation-item.result) c.as_slice-equation-items.ensures in
    let l = ap length c.as_slice-equation-items.ensures in
    subst (λ n. Below n c.equation-item.result.0) (sym c.loop-equation.invariant.0)
    (subst (λ p. Below c.args.vars p.0) (sym e) (c.requires c.loop-equation.equation-index c.equation-item.result (omega arith)).0)

pub extend-requires-clause-below_b : goal.extend-requires-clause-below_b
extend-requires-clause-below_b c =
    let e = c.equation-item.is ∙ ap (λ xs. get_or xs c.loop-equation.equation-index c.equation-item.result) c.as_slice-equation-items.ensures in
    let l = ap length c.as_slice-equation-items.ensures in
    subst (λ n. Below n c.equation-item.result.1) (sym c.loop-equation.invariant.0)
    (subst (λ p. Below c.args.vars p.1) (sym e) (c.requires c.loop-equation.equation-index c.equation-item.result (omega arith)).1)

pub returns-then-not-equal-clause-none : goal.returns-then-not-equal-clause-none
returns-then-not-equal-clause-none c =
    let e = c.equation-item.is ∙ ap (λ xs. get_or xs c.loop-equation.equation-index c.equation-item.result) c.as_slice-equation-items.ensures in
    let l = ap length c.as_slice-equation-items.ensures in
    solve_refuted c.args.frozen c.args.vars c.args.equations.now.pairs c.loop-equation.equation-index c.equation-item.result c.loop-equation.bindings.terms e (omega arith) c.loop-equation.invariant.2
    (subst (λ w. Outcome c.args.frozen (λ r. substituted r c.equation-item.result.0 ≡ substituted r c.equation-item.result.1) c.loop-equation.bindings.terms c.extend.new.bindings.terms w) c.if-not-equal.true c.in_ok-equal.ensures)

pub loop-equation-preserved : goal.loop-equation-preserved
loop-equation-preserved c =
    let e = c.equation-item.is ∙ ap (λ xs. get_or xs c.loop-equation.equation-index c.equation-item.result) c.as_slice-equation-items.ensures in
    let l = ap length c.as_slice-equation-items.ensures in
    let long : length c.loop-equation.bindings.terms ≡ length (unbound c.args.vars) = c.loop-equation.invariant.0 ∙ sym (length-replicate c.args.vars None) in
    let o = solve_step c.args.frozen c.args.equations.now.pairs c.loop-equation.equation-index c.equation-item.result (unbound c.args.vars) c.loop-equation.bindings.terms c.extend.new.bindings.terms e (omega arith) long c.loop-equation.invariant.2
    (subst (λ w. Outcome c.args.frozen (λ r. substituted r c.equation-item.result.0 ≡ substituted r c.equation-item.result.1) c.loop-equation.bindings.terms c.extend.new.bindings.terms w) c.if-not-equal.false c.in_ok-equal.ensures) in
    (o.0 ∙ length-replicate c.args.vars None, o.1, o.2)

pub returns-clause-settled : goal.returns-clause-settled
returns-clause-settled c = c.in_ok-s.ensures.settled c.args.frozen c.loop-equation.invariant.1

pub returns-clause-solution : goal.returns-clause-solution
returns-clause-solution c =
    let l = ap length c.as_slice-equation-items.ensures in
    solved c.args.frozen c.args.vars c.args.equations.now.pairs c.loop-equation.equation-index c.loop-equation.bindings.terms c.in_ok-s.s.terms (omega arith) c.loop-equation.invariant.2
    (c.in_ok-s.ensures.settled c.args.frozen c.loop-equation.invariant.1) (c.in_ok-s.ensures.same c.args.frozen c.loop-equation.invariant.1)

pub returns-clause-general : goal.returns-clause-general
returns-clause-general c =
    let l = ap length c.as_slice-equation-items.ensures in
    general c.args.frozen c.args.vars c.args.equations.now.pairs c.loop-equation.equation-index c.loop-equation.bindings.terms c.in_ok-s.s.terms (omega arith) c.loop-equation.invariant.2
    (c.in_ok-s.ensures.same c.args.frozen c.loop-equation.invariant.1)
