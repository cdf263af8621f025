use Rattle.std.proofs.Common.{Some, subst, sym}
use Rattle.std.specs.List.{All}
use Rattle.step_clause.specs.Symbols.{AllowsPivot, MayBePicked}
use Rattle.step_clause.proofs.symbols.allows_pivot.Goals as goal

pub returns-then-not-may_fit : goal.returns-then-not-may_fit
returns-then-not-may_fit c = (
  λ h. absurd (cc),
  λ h.
      let a = c.may_fit.ensures.1 (subst (λ z. All (MayBePicked c.args.target.now.lits (Some z)) c.args.slots.now) (sym c.in_ok-first.ensures) h.0) in
      let b = c.if-not-may_fit.true in cc,
)

pub returns : goal.returns
returns c = (
  λ h. subst (λ z. AllowsPivot c.args.target.now.lits c.args.pivots.now c.args.slots.now z) c.in_ok-first.ensures
      (c.may_fit.ensures.0 c.if-not-may_fit.false, c.pivots_may_come-may_come.ensures.0 h),
  λ h.
      c.pivots_may_come-may_come.ensures.1 (subst (λ z. AllowsPivot c.args.target.now.lits c.args.pivots.now c.args.slots.now z) (sym c.in_ok-first.ensures) h).1,
)
