use Rattle.std.proofs.Common.{◌≡◌, ◌≤◌, length, take}
use Rattle.development.specs.Clauses.{typed as all_typed}
use Rattle.lp_term.specs.Connectives.{bot, proof_of}
use Rattle.lp_term.specs.View.{term_of}
use Rattle.nd_term.specs.Outputs.{output_clause}
use Rattle.development.proofs.clauses.typed.Given as goal

abbrev pub invariant-loop-left : goal.invariant-loop-left
invariant-loop-left l =
    (l.left ≤ length l.lits)
    × (all_typed l.place.level l.place.first_eigen (length l.place.order.now) (output_clause l.place.symbols.now l.place.order.now (take l.left l.lits)) (term_of l.all)
    ≡ all_typed l.place.level l.place.first_eigen (length l.place.order.now) (output_clause l.place.symbols.now l.place.order.now l.lits) (proof_of bot))

abbrev pub decreases-loop-left : goal.decreases-loop-left
decreases-loop-left l = l.left
