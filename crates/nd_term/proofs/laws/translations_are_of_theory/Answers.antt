use Rattle.nd_term.proofs.FormulaViews.{closed_sentence, view_formula}
use Rattle.nd_term.proofs.laws.translations_are_of_theory.Goals as goal

pub returns-clause-formulas : goal.returns-clause-formulas
returns-clause-formulas c = λ f. view_formula f

pub returns-clause-closed : goal.returns-clause-closed
returns-clause-closed c = λ f closed. closed_sentence f closed
