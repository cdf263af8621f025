use Rattle.std.proofs.Common.{◌≡◌, subst, sym}
use Rattle.dk_syntax.specs.Terms.{Below}
use Rattle.step_tests.proofs.unifiers.one_equation.Goals as goal

pub extend-requires-clause-sound : goal.extend-requires-clause-sound
extend-requires-clause-sound c = c.in_ok-bindings.ensures.sound 0

pub extend-requires-clause-below_a : goal.extend-requires-clause-below_a
extend-requires-clause-below_a c = subst (λ n. Below n c.args.a.now) (sym c.in_ok-bindings.ensures.length) (c.term_below-first.ensures.0 c.if-not-first.false)

pub extend-requires-clause-below_b : goal.extend-requires-clause-below_b
extend-requires-clause-below_b c = subst (λ n. Below n c.args.b.now) (sym c.in_ok-bindings.ensures.length) (c.term_below-second.ensures.0 c.if-not-second.false)
