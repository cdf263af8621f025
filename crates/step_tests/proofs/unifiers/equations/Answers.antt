use Rattle.std.proofs.Common.{◌≡◌, subst, sym}
use Rattle.dk_syntax.specs.Terms.{EachBelow}
use Rattle.step_tests.proofs.unifiers.equations.Goals as goal

pub extend_terms-requires-clause-sound : goal.extend_terms-requires-clause-sound
extend_terms-requires-clause-sound c = c.in_ok-bindings.ensures.sound 0

pub extend_terms-requires-clause-below_xs : goal.extend_terms-requires-clause-below_xs
extend_terms-requires-clause-below_xs c = subst (λ n. EachBelow n c.args.xs.now) (sym c.in_ok-bindings.ensures.length) (c.terms_below-first.ensures.0 c.if-not-first.false)

pub extend_terms-requires-clause-below_ys : goal.extend_terms-requires-clause-below_ys
extend_terms-requires-clause-below_ys c = subst (λ n. EachBelow n c.args.ys.now) (sym c.in_ok-bindings.ensures.length) (c.terms_below-second.ensures.0 c.if-not-second.false)
