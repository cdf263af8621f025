use Rattle.std.proofs.Common.{◌<◌, ◌≤◌, ◌∙◌, ap, arith, get_or, length, refl, subst, sym}
use Rattle.dk_syntax.specs.declared.Literal.{Literal}
use Rattle.dk_syntax.specs.Terms.{EachBelow}
use Rattle.step_clause.proofs.Loops.{all_more, item_at}
use Rattle.step_clause.proofs.numbering.is_numbered.Goals as goal

pub returns-then-not-terms_below : goal.returns-then-not-terms_below
returns-then-not-terms_below c = (
  λ h. absurd (cc),
  λ all.
      let here = c.terms_below.ensures.1 (subst (EachBelow c.args.clause.now.vars) (sym c.as_slice.ensures) (item_at Literal (λ literal. EachBelow c.args.clause.now.vars literal.args) c.args.clause.now.lits c.loop-literal.literal-index c.literal-item.result all (subst (λ z. c.loop-literal.literal-index < length z) c.as_slice-literal-items.ensures c.loop-literal-test.true) (c.literal-item.is ∙ ap (λ z. get_or z c.loop-literal.literal-index c.literal-item.result) c.as_slice-literal-items.ensures))) in
      let other = c.if-not-terms_below.true in cc,
)

pub loop-literal-preserved : goal.loop-literal-preserved
loop-literal-preserved c =
    all_more Literal (λ literal. EachBelow c.args.clause.now.vars literal.args) c.args.clause.now.lits c.loop-literal.literal-index c.literal-item.result (subst (λ z. c.loop-literal.literal-index < length z) c.as_slice-literal-items.ensures c.loop-literal-test.true) (c.literal-item.is ∙ ap (λ z. get_or z c.loop-literal.literal-index c.literal-item.result) c.as_slice-literal-items.ensures) c.loop-literal.invariant (subst (EachBelow c.args.clause.now.vars) c.as_slice.ensures (c.terms_below.ensures.0 c.if-not-terms_below.false))

pub returns : goal.returns
returns c =
    let low = subst (λ z. length z ≤ c.loop-literal.literal-index) c.as_slice-literal-items.ensures c.loop-literal-test.false in
    (λ h k d l. c.loop-literal.invariant k d (omega arith), λ all. refl)
