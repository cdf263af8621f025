-- Lists to which symbols are added.
use Rattle.std.proofs.Common.{◌≡◌, refl, List, [], ◌∷◌, ◌++◌}
use Rattle.std.proofs.lemmas.Grind.{common_steps}
use Rattle.dk_syntax.specs.declared.formula.Formula.{the_lemmas as of_formulas}
use Rattle.dk_syntax.specs.declared.symbol.SymKey.{SymKey}
use Rattle.dk_syntax.specs.declared.term.Term.{the_lemmas as of_terms}
use Rattle.dk_syntax.specs.Symbols.{with_symbol, with_symbols}

-- symbols may be added in two parts
pub with_symbols-append : (seen xs ys : List SymKey) → with_symbols seen (xs ++ ys) ≡ with_symbols (with_symbols seen xs) ys
with_symbols-append seen [] ys = refl
with_symbols-append seen (x ∷ xs) ys = with_symbols-append (with_symbol seen x) xs ys

pub ruleset symbol_steps = (common_steps, with_symbols-append, of_terms, of_formulas)
