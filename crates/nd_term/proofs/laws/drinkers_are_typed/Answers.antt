use Rattle.nd_term.proofs.DrinkerTypes.{negative_drinker_types, positive_drinker_types}
use Rattle.nd_term.proofs.laws.drinkers_are_typed.Goals as goal

pub returns-clause-positive : goal.returns-clause-positive
returns-clause-positive c = λ sig g e. positive_drinker_types sig e g

pub returns-clause-negative : goal.returns-clause-negative
returns-clause-negative c = λ sig g e. negative_drinker_types sig e g
