use Rattle.std.proofs.Common.{◌≡◌, ◌≤◌, length, take}
use Rattle.development.specs.Clauses.{abstracted as all_abstracted}
use Rattle.lp_term.specs.View.{term_of}
use Rattle.nd_term.specs.Outputs.{output_clause}
use Rattle.development.proofs.clauses.abstracted.Given as goal

abbrev pub invariant-loop-left : goal.invariant-loop-left
invariant-loop-left l =
    (l.left ≤ length l.lits)
    × (all_abstracted l.place.level l.place.first_eigen (length l.place.order.now) (output_clause l.place.symbols.now l.place.order.now (take l.left l.lits)) (term_of l.all)
    ≡ all_abstracted l.place.level l.place.first_eigen (length l.place.order.now) (output_clause l.place.symbols.now l.place.order.now l.lits) (term_of l.fn.body))

abbrev pub decreases-loop-left : goal.decreases-loop-left
decreases-loop-left l = l.left
