use Rattle.lp_term.proofs.ScopeLaws.{typed_below, typed_declared}
use Rattle.assemble.proofs.GoalViews.{goal_sorted, view_closed_goal}
use Rattle.assemble.proofs.SymbolLaws.{problem_over}
use Rattle.assemble.proofs.laws.goal_is_of_theory.Goals as goal

pub returns-clause-goal : goal.returns-clause-goal
returns-clause-goal c = λ problem closed. view_closed_goal problem closed

pub returns-clause-formulas : goal.returns-clause-formulas
returns-clause-formulas c = λ problem is. problem_over problem is.formed is.symbols

pub returns-clause-sorted : goal.returns-clause-sorted
returns-clause-sorted c = λ problem is. goal_sorted problem is

pub returns-clause-closed : goal.returns-clause-closed
returns-clause-closed c = λ problem is. let sorted = goal_sorted problem is in (typed_below sorted, typed_declared sorted)
