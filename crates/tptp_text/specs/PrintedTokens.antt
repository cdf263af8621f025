-- The tokens of printed names, terms, formulas and items. Each definition takes the tokens that stand behind.
use Rattle.std.specs.Prelude.{ℕ, ◌+◌, ◌-◌, if◌then◌else◌, List, [], ◌∷◌, map, codes}
use Rattle.dk_syntax.specs.declared.Formula.{Formula, Formula-F, fold-Formula}
use Rattle.dk_syntax.specs.declared.Formula.TheOpen as formula
use Rattle.dk_syntax.specs.declared.Term.{Term, Term-F, fold-Term}
use Rattle.dk_syntax.specs.declared.Term.TheOpen as term
use Rattle.tptp_tokens.specs.declared.Token.{Token}
use Rattle.tptp_tokens.specs.declared.Token.TheVariants as t
use Rattle.tptp_text.specs.Printed.{is_lower_word, is_digit_run, variable_text}

abbrev pub name_token : List ℕ → Token
name_token name = if is_lower_word name then t.Lower name else t.Quoted name

abbrev pub item_name_token : List ℕ → Token
item_name_token name = if is_lower_word name then t.Lower name else (if is_digit_run name then t.Number name else t.Quoted name)

-- tokens before others, where so many quantifiers are around
abbrev pub Tokens : Type 0
Tokens = ℕ → List Token → List Token

abbrev pub list_tokens : Token → List Tokens → Tokens
list_tokens mark [] level after = t.CloseRound ∷ after
list_tokens mark (arg ∷ args) level after = mark ∷ arg level (list_tokens t.Comma args level after)

abbrev pub arguments_tokens : List Tokens → Tokens
arguments_tokens [] level after = after
arguments_tokens (arg ∷ args) level after = list_tokens t.OpenRound (arg ∷ args) level after

abbrev pub term_tokens_at : Term-F Tokens → Tokens
term_tokens_at (term.Var number) level after = t.Upper (variable_text (level - 1 - number)) ∷ after
term_tokens_at (term.App symbol args) level after = name_token symbol.name ∷ arguments_tokens args level after
term_tokens_at term.Any level after = t.Dollar (codes "$any") ∷ after

abbrev pub term_tokens : Term → Tokens
term_tokens = fold-Term Tokens term_tokens_at

abbrev pub binary_tokens : Token → Tokens → Tokens → Tokens
binary_tokens mark a b level after = t.OpenRound ∷ a level (mark ∷ b level (t.CloseRound ∷ after))

abbrev pub quantified_tokens : Token → Tokens → Tokens
quantified_tokens mark a level after = mark ∷ t.OpenSquare ∷ t.Upper (variable_text level) ∷ t.CloseSquare ∷ t.Colon ∷ a (level + 1) after

abbrev pub formula_tokens_at : Formula-F Tokens → Tokens
formula_tokens_at formula.True level after = t.Dollar (codes "$true") ∷ after
formula_tokens_at formula.False level after = t.Dollar (codes "$false") ∷ after
formula_tokens_at (formula.Atom symbol args) level after = name_token symbol.name ∷ arguments_tokens (map term_tokens args) level after
formula_tokens_at (formula.Not a) level after = t.Not ∷ a level after
formula_tokens_at (formula.And a b) level after = binary_tokens t.And a b level after
formula_tokens_at (formula.Or a b) level after = binary_tokens t.Or a b level after
formula_tokens_at (formula.Imp a b) level after = binary_tokens t.Implies a b level after
formula_tokens_at (formula.Iff a b) level after = binary_tokens t.Iff a b level after
formula_tokens_at (formula.All a) level after = quantified_tokens t.ForAll a level after
formula_tokens_at (formula.Ex a) level after = quantified_tokens t.Exists a level after

abbrev pub formula_tokens : Formula → Tokens
formula_tokens = fold-Formula Tokens formula_tokens_at

abbrev pub item_tokens : List ℕ → List ℕ → Formula → List Token
item_tokens name role body = t.Lower (codes "fof") ∷ t.OpenRound ∷ item_name_token name ∷ t.Comma ∷ name_token role ∷ t.Comma ∷ formula_tokens body 0 (t.CloseRound ∷ [])
