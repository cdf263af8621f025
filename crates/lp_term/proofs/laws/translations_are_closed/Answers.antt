use Rattle.lp_term.proofs.TranslationLaws.{closed_translation}
use Rattle.lp_term.proofs.laws.translations_are_closed.Goals as goal

pub returns : goal.returns
returns c = λ f closed. closed_translation f closed
