use Rattle.std.proofs.Common.{◌≡◌}
use Rattle.unifier.proofs.OutcomeLaws.{Growing}
use Rattle.dk_syntax.specs.Terms.{substituted}
use Rattle.unifier.proofs.extension.bind_until_equal.Given as goal

abbrev pub invariant-loop-round : goal.invariant-loop-round
invariant-loop-round l = Growing l.frozen (λ r. substituted r l.a ≡ substituted r l.b) l.initial.bindings.terms l.bindings.terms
