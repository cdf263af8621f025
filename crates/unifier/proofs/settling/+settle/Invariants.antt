use Rattle.std.proofs.Common.{◌≡◌, ◌+◌, ◌*◌, ℕ, map, take}
use Rattle.dk_syntax.specs.declared.Term.{Term}
use Rattle.unifier.specs.Outcomes.{IsSettledBy}
use Rattle.unifier.specs.Settling.{Known}
use Rattle.dk_syntax.specs.Terms.{substituted}
use Rattle.unifier.proofs.settling.+settle.Given as goal

abbrev pub decreases-settle : goal.decreases-settle
decreases-settle l = 2 * l.fuel

abbrev pub decreases-settle_each : goal.decreases-settle_each
decreases-settle_each l = 2 * l.fuel + 1

abbrev pub decreases-settle_variable : goal.decreases-settle_variable
decreases-settle_variable l = 2 * l.fuel + 1

abbrev pub invariant-settle_each-loop-term : goal.invariant-settle_each-loop-term
invariant-settle_each-loop-term l =
    Known l.s l.known
    × ((m : ℕ → Term) → IsSettledBy l.s m → l.all ≡ map (substituted m) (take l.term-index l.terms))
