use Rattle.std.proofs.Common.{◌≡◌, map, take}
use Rattle.dk_syntax.specs.Terms.{substituted}
use Rattle.step_chain.specs.Resolvents.{closed_over}
use Rattle.step_chain.proofs.closing.+close.Given as goal

abbrev pub invariant-close_each-loop-term : goal.invariant-close_each-loop-term
invariant-close_each-loop-term l = l.all ≡ map (substituted (closed_over l.variables)) (take l.term-index l.terms)
