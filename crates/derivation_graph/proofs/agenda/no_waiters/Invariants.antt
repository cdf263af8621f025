use Rattle.std.proofs.Common.{◌≡◌, length}
use Rattle.derivation_graph.proofs.agenda.no_waiters.Given as goal

abbrev pub invariant-loop : goal.invariant-loop
invariant-loop l = length l.waiting.items ≡ l.counter
