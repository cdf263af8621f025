use Rattle.std.proofs.Common.{◌≡◌, drop}
use Rattle.normal_form.specs.ClauseLists.{has_number}
use Rattle.step_skolem.proofs.fitting.contains_index.Given as goal

-- the variable is not among those before
abbrev pub invariant-loop-other : goal.invariant-loop-other
invariant-loop-other l = has_number (drop l.other-index l.variables) l.variable ≡ has_number l.variables l.variable
