use Rattle.std.proofs.Common.{◌≡◌, ◌<◌, ℕ, None, get_or, length}
use Rattle.unifier.specs.Closing.{composed_entry}
use Rattle.unifier.proofs.application.compose.Given as goal

abbrev pub invariant-loop-k : goal.invariant-loop-k
invariant-loop-k l =
    (length l.terms ≡ l.k)
    × ((k : ℕ) → k < l.k → get_or l.terms k None ≡ composed_entry l.next.terms (get_or l.first.terms k None) (get_or l.next.terms k None))
