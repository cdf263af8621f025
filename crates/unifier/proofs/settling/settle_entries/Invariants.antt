use Rattle.std.proofs.Common.{◌≡◌, ◌<◌, ℕ, None, get_or, length}
use Rattle.dk_syntax.specs.declared.Term.{Term}
use Rattle.unifier.specs.Outcomes.{IsSettledBy}
use Rattle.unifier.specs.Settling.{Known, settled_entry}
use Rattle.unifier.proofs.settling.settle_entries.Given as goal

abbrev pub invariant-loop-k : goal.invariant-loop-k
invariant-loop-k l =
    (length l.entries ≡ l.k)
    × Known l.s l.known
    × ((m : ℕ → Term) → IsSettledBy l.s m → (k : ℕ) → k < l.k → get_or l.entries k None ≡ settled_entry m k (get_or l.s k None))
