-- What every formula of the program is in the theory.
use Rattle.std.specs.Prelude.{◌≡◌, List}
use Rattle.dk_syntax.specs.Lists.{Every}
use Rattle.dk_syntax.specs.Symbols.{formula_occurrences}
use Rattle.dk_syntax.specs.WellFormed.{IsClosed, IsWellFormed}
use Rattle.dk_syntax.specs.declared.Formula.{Formula}
use Rattle.lp_term.specs.LambdaPi.{var}
use Rattle.lp_term.specs.Signature.{Extends}
use Rattle.lp_term.specs.Translation.{translated}
use Rattle.lp_term.specs.Typing.{Declaration}
use Rattle.lp_term.specs.View.{term_of}
use Rattle.nd_term.specs.Symbols.{FormulaOver}
use Rattle.nd_term.specs.Translation.{sentence, translated as theory_translated}
use Rattle.nd_term.specs.Views.{DeclaresSymbol, theory_formula}

-- the translation of any formula, its variables being as they are
abbrev pub TranslationIsTheory : Type 0
TranslationIsTheory = (f : Formula) → term_of (translated f) ≡ theory_translated (λ n. var n) (theory_formula f)

-- the translation of a formula that has no free variable
abbrev pub SentenceIsTheory : Type 0
SentenceIsTheory = (f : Formula) → IsClosed f → term_of (translated f) ≡ sentence (theory_formula f)

-- a well-formed formula, each symbol of which a signature with the prelude declares, is over that signature
abbrev pub FormulaIsOver : Type 0
FormulaIsOver = (sig : List Declaration) (f : Formula) → Extends sig → IsWellFormed f → Every (DeclaresSymbol sig) (formula_occurrences f) → FormulaOver sig (theory_formula f)
