use Rattle.std.proofs.Common.{◌≡◌, ◌<◌, ℕ, None, get_or, length}
use Rattle.unifier.specs.Closing.{closed_entry}
use Rattle.unifier.proofs.application.close_with_any.Given as goal

abbrev pub invariant-loop-k : goal.invariant-loop-k
invariant-loop-k l =
    (length l.terms ≡ l.k)
    × ((k : ℕ) → k < l.k → get_or l.terms k None ≡ closed_entry l.frozen l.entries k (get_or l.entries k None))
