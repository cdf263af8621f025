use Rattle.std.proofs.Common.{◌≡◌, map, take}
use Rattle.dk_syntax.specs.Terms.{substituted}
use Rattle.step_clause.specs.Justifications.{closed}
use Rattle.step_clause.proofs.values.+close.Given as goal

abbrev pub invariant-close_each-loop-term : goal.invariant-close_each-loop-term
invariant-close_each-loop-term l = l.all ≡ map (substituted (closed l.frozen)) (take l.term-index l.terms)
