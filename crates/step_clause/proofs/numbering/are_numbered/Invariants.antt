use Rattle.step_clause.proofs.Loops.{AllTo}
use Rattle.step_clause.specs.Justifications.{IsNumberedList}
use Rattle.step_clause.proofs.numbering.are_numbered.Given as goal

abbrev pub invariant-loop-list : goal.invariant-loop-list
invariant-loop-list l = AllTo IsNumberedList l.parents l.list-index
