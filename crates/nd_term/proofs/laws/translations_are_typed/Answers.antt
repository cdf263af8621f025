use Rattle.nd_term.proofs.TranslationLaws.{sentence_types}
use Rattle.nd_term.proofs.laws.translations_are_typed.Goals as goal

pub returns : goal.returns
returns c = λ sig g f e o. sentence_types sig e o
