use Rattle.std.proofs.Common.{◌+◌, ◌*◌, ℕ}
use Rattle.dk_syntax.specs.declared.Term.{Term}
use Rattle.dk_syntax.proofs.ListLaws.{NoneTo}
use Rattle.unifier.specs.Comparing.{Marked}
use Rattle.unifier.specs.Outcomes.{IsSettledBy}
use Rattle.dk_syntax.specs.Terms.{has_variable, substituted}
use Rattle.unifier.proofs.occurrence.+leads_to.Given as goal

abbrev pub decreases-leads_to : goal.decreases-leads_to
decreases-leads_to l = 2 * l.fuel

abbrev pub decreases-one_leads_to : goal.decreases-one_leads_to
decreases-one_leads_to l = 2 * l.fuel + 1

abbrev pub decreases-variable_leads_to : goal.decreases-variable_leads_to
decreases-variable_leads_to l = 2 * l.fuel + 1

-- the variable is in none of the passed terms
abbrev pub invariant-one_leads_to-loop-term : goal.invariant-one_leads_to-loop-term
invariant-one_leads_to-loop-term l =
    Marked l.s l.k l.marks
    × ((m : ℕ → Term) → IsSettledBy l.s m → NoneTo (λ t. has_variable l.k (substituted m t)) l.terms l.term-index)
