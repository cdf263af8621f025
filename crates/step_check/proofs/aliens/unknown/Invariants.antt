-- The aliens so far.
use Rattle.std.proofs.Common.{◌≡◌, not}
use Rattle.std.specs.Prelude.{filter}
use Rattle.step_check.specs.Steps.{stands_in}
use Rattle.step_check.proofs.aliens.unknown.Given as goal

abbrev pub invariant-loop-symbol : goal.invariant-loop-symbol
invariant-loop-symbol l = l.aliens ≡ filter (λ symbol. not (stands_in l.known.keys symbol)) l.yielded
