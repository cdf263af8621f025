use Rattle.lp_term.proofs.ConnectiveRules.{closed_of}
use Rattle.lp_term.proofs.ConversionLaws.{convertible_substitute}
use Rattle.lp_term.proofs.ScopeLaws.{typed_below, typed_declared}
use Rattle.lp_term.proofs.TypingLaws.{types_instantiate, weaken}
use Rattle.lp_term.proofs.laws.typing_substitutes.Goals as goal

pub returns-clause-conversion : goal.returns-clause-conversion
returns-clause-conversion c = λ t u s h. convertible_substitute s h

pub returns-clause-weakening : goal.returns-clause-weakening
returns-clause-weakening c = λ sig g t a b e h. weaken b (closed_of e) h

pub returns-clause-instantiation : goal.returns-clause-instantiation
returns-clause-instantiation c = λ sig g t u a b e h k. types_instantiate (closed_of e) h k

pub returns-clause-variables : goal.returns-clause-variables
returns-clause-variables c = λ sig g t a h. typed_below h

pub returns-clause-symbols : goal.returns-clause-symbols
returns-clause-symbols c = λ sig g t a h. typed_declared h
