use Rattle.std.proofs.Common.{◌≡◌, ◌<◌, ℕ, true, false, get_or}
use Rattle.ground_instances.proofs.variables.are_marked.Given as goal

-- each mark so far is set
abbrev pub invariant-loop-mark : goal.invariant-loop-mark
invariant-loop-mark l = (k : ℕ) → k < l.mark-index → get_or l.marks k false ≡ true
