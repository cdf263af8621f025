use Rattle.std.proofs.Common.{◌≡◌, drop}
use Rattle.step_skolem.specs.Searching.{numbers_before, variables_of}
use Rattle.step_skolem.proofs.seeing.variables_from.Given as goal

-- with what is left the variables are those of the whole
abbrev pub invariant-loop-term : goal.invariant-loop-term
invariant-loop-term l = numbers_before l.variables (variables_of l.between (drop l.term-index l.terms)) ≡ variables_of l.between l.terms
