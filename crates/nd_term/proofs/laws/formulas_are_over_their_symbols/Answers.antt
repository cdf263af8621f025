use Rattle.nd_term.proofs.OverLaws.{formula_over}
use Rattle.nd_term.proofs.laws.formulas_are_over_their_symbols.Goals as goal

pub returns : goal.returns
returns c = λ sig f e formed declared. formula_over sig e f formed declared
