use Rattle.std.proofs.Common.{◌≡◌, drop, reverse}
use Rattle.step_skolem.specs.Searching.{numbers_before, numbers_in}
use Rattle.step_skolem.proofs.fitting.numbers_at.Given as goal

-- with what is left the numbers are those of the whole
abbrev pub invariant-loop-variable : goal.invariant-loop-variable
invariant-loop-variable l = numbers_before l.numbers (numbers_in (reverse l.kept) (drop l.variable-index l.variables)) ≡ numbers_in (reverse l.kept) l.variables
