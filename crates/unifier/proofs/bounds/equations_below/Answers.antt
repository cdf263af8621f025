use Rattle.std.proofs.Common.{ap, arith, get_or, length, refl, subst, sym, ◌∙◌}
use Rattle.unifier.proofs.BelowLaws.{pairs_more}
use Rattle.dk_syntax.specs.Terms.{Below}
use Rattle.unifier.proofs.bounds.equations_below.Goals as goal

pub returns-then-not-term_below : goal.returns-then-not-term_below
returns-then-not-term_below c =
    let e = c.equation-item.is ∙ ap (λ xs. get_or xs c.loop-equation.equation-index c.equation-item.result) c.as_slice-equation-items.ensures in
    let l = ap length c.as_slice-equation-items.ensures in (
      λ h. absurd (cc),
      λ below.
          let here = c.term_below.ensures.1 (subst (λ p. Below c.args.n p.0) (sym e) (below c.loop-equation.equation-index c.equation-item.result (omega arith)).0) in
          let other = c.if-not-term_below.true in cc,
    )

pub returns-then-not-term_below-2 : goal.returns-then-not-term_below-2
returns-then-not-term_below-2 c =
    let e = c.equation-item.is ∙ ap (λ xs. get_or xs c.loop-equation.equation-index c.equation-item.result) c.as_slice-equation-items.ensures in
    let l = ap length c.as_slice-equation-items.ensures in (
      λ h. absurd (cc),
      λ below.
          let here = c.term_below-in-loop-equation.ensures.1 (subst (λ p. Below c.args.n p.1) (sym e) (below c.loop-equation.equation-index c.equation-item.result (omega arith)).1) in
          let other = c.if-not-term_below-2.true in cc,
    )

pub loop-equation-preserved : goal.loop-equation-preserved
loop-equation-preserved c =
    let e = c.equation-item.is ∙ ap (λ xs. get_or xs c.loop-equation.equation-index c.equation-item.result) c.as_slice-equation-items.ensures in
    let l = ap length c.as_slice-equation-items.ensures in
    pairs_more c.args.n c.args.equations.now.pairs c.loop-equation.equation-index c.equation-item.result (omega arith) e
    (c.term_below.ensures.0 c.if-not-term_below.false) (c.term_below-in-loop-equation.ensures.0 c.if-not-term_below-2.false) c.loop-equation.invariant

pub returns : goal.returns
returns c =
    let l = ap length c.as_slice-equation-items.ensures in
    (λ h k d lt. c.loop-equation.invariant k d (omega arith), λ below. refl)
