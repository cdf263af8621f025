-- None so far has the name.
use Rattle.std.proofs.Common.{◌≡◌, drop}
use Rattle.std.specs.Prelude.{find}
use Rattle.step_check.specs.Steps.{has_name}
use Rattle.step_check.proofs.leaves.hypothesis_named.Given as goal

abbrev pub invariant-loop-named : goal.invariant-loop-named
invariant-loop-named l = find (has_name l.name) l.hyps ≡ find (has_name l.name) (drop l.named-index l.hyps)
