use Rattle.std.proofs.Common.{sym, subst, arith, refl}
use Rattle.step_chain.proofs.Loops.{all_more}
use Rattle.step_chain.specs.Symbols.{HasPartner}
use Rattle.step_chain.proofs.symbols.all_may_go.Goals as goal

pub returns-then-not-may_go : goal.returns-then-not-may_go
returns-then-not-may_go c = (
  λ h. absurd (cc),
  λ all.
      let a = c.may_go.ensures.1 (subst (HasPartner c.args.target.now c.args.rest.now) (sym c.literal-item.is) (all c.loop-literal.literal-index c.literal-item.result c.loop-literal-test.true)) in
      let b = c.if-not-may_go.true in cc,
)

pub loop-literal-preserved : goal.loop-literal-preserved
loop-literal-preserved c =
    all_more (HasPartner c.args.target.now c.args.rest.now) c.args.literals.now c.loop-literal.literal-index c.literal-item.result c.loop-literal-test.true c.literal-item.is c.loop-literal.invariant
    (c.may_go.ensures.0 c.if-not-may_go.false)

pub returns : goal.returns
returns c =
    let low = c.loop-literal-test.false in
    (λ h k d l. c.loop-literal.invariant k d (omega arith), λ all. refl)
