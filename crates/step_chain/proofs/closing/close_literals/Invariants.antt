use Rattle.std.proofs.Common.{◌≡◌, map, take}
use Rattle.dk_syntax.specs.Terms.{instance}
use Rattle.step_chain.specs.Resolvents.{closed_over}
use Rattle.step_chain.proofs.closing.close_literals.Given as goal

abbrev pub invariant-loop-literal : goal.invariant-loop-literal
invariant-loop-literal l = l.all ≡ map (instance (closed_over l.variables)) (take l.literal-index l.literals)
