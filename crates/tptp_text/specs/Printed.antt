-- The text of names, terms, formulas and items.
use Rattle.std.specs.Prelude.{◌≡◌, ◌≤◌, true, ℕ, ◌+◌, ◌-◌, Bool, false, ◌&&◌, ◌||◌, if◌then◌else◌, List, [], ◌∷◌, ◌++◌, map, codes, decimal, None}
use Rattle.std.specs.List.{list_all}
use Rattle.dk_syntax.specs.Depth.{formula_depth}
use Rattle.dk_syntax.specs.Symbols.{formula_occurrences}
use Rattle.dk_syntax.specs.declared.Literal.{Literal}
use Rattle.dk_syntax.specs.declared.Formula.{Formula, Formula-F, fold-Formula}
use Rattle.dk_syntax.specs.declared.Formula.TheOpen as formula
use Rattle.dk_syntax.specs.declared.Term.{Term, Term-F, fold-Term}
use Rattle.dk_syntax.specs.declared.Term.TheOpen as term
use Rattle.tptp_tokens.specs.Bytes.{is_lower, is_digit, is_word}
use Rattle.dk_syntax.specs.declared.SymKey.{SymKey}
use Rattle.tptp_tokens.specs.Spelling.{quoted_text, IsQuoted}
use Rattle.tptp_formulas.specs.Proper.{IsProper}
use Rattle.tptp_formulas.specs.declared.Body.TheVariants.{Plain}
use Rattle.tptp_formulas.specs.declared.Lang.TheVariants.{Fof}
use Rattle.tptp_text.specs.declared.item.Item.{Item}
use Rattle.tptp_text.specs.declared.item.Source.TheVariants.{Missing}

-- `a` to `z`, then letters, digits and `_`
abbrev pub is_lower_word : List ℕ → Bool
is_lower_word [] = false
is_lower_word (b ∷ name) = is_lower b && list_all is_word name

-- one digit or more
abbrev pub is_digit_run : List ℕ → Bool
is_digit_run [] = false
is_digit_run (b ∷ name) = is_digit b && list_all is_digit name

-- a name in quotes, with `\` before each quote and each `\`
abbrev pub quoted_name : List ℕ → List ℕ
quoted_name name = codes "'" ++ quoted_text 39 name

-- a lower word as it is, any other name in quotes
abbrev pub printed_name : List ℕ → List ℕ
printed_name name = if is_lower_word name then name else quoted_name name

-- the name of an item: a run of digits stands as it is, too
abbrev pub printed_item_name : List ℕ → List ℕ
printed_item_name name = if is_lower_word name || is_digit_run name then name else quoted_name name

-- a quantifier's variable, by the number of quantifiers around it
abbrev pub variable_text : ℕ → List ℕ
variable_text level = codes "X" ++ decimal level

-- the byte before the first argument, `,` before each further one, and the bracket that closes
abbrev pub list_text : ℕ → List (ℕ → List ℕ) → ℕ → List ℕ
list_text mark [] level = codes ")"
list_text mark (arg ∷ args) level = mark ∷ (arg level ++ list_text 44 args level)

-- no arguments, or a list of them in brackets
abbrev pub arguments_text : List (ℕ → List ℕ) → ℕ → List ℕ
arguments_text [] level = []
arguments_text (arg ∷ args) level = list_text 40 (arg ∷ args) level

-- a term in a place with so many quantifiers around, from its arguments' texts
abbrev pub printed_term_at : Term-F (ℕ → List ℕ) → ℕ → List ℕ
printed_term_at (term.Var number) level = variable_text (level - 1 - number)
printed_term_at (term.App symbol args) level = printed_name symbol.name ++ arguments_text args level
printed_term_at term.Any level = codes "$any"

abbrev pub printed_term : Term → ℕ → List ℕ
printed_term = fold-Term (ℕ → List ℕ) printed_term_at

-- `~` where the sign is negative
abbrev pub sign_text : Bool → List ℕ
sign_text true = []
sign_text false = codes "~"

-- a literal in a place with so many quantifiers around
abbrev pub printed_literal : Literal → ℕ → List ℕ
printed_literal literal level =
    sign_text literal.positive ++ (printed_name literal.pred.name ++ arguments_text (map printed_term literal.args) level)

-- `(A MARK B)`
abbrev pub binary_text : List ℕ → (ℕ → List ℕ) → (ℕ → List ℕ) → ℕ → List ℕ
binary_text mark a b level = codes "(" ++ (a level ++ (mark ++ (b level ++ codes ")")))

-- `MARK[X]:A`
abbrev pub quantified_text : List ℕ → (ℕ → List ℕ) → ℕ → List ℕ
quantified_text mark a level = mark ++ (codes "[" ++ (variable_text level ++ (codes "]:" ++ a (level + 1))))

-- a formula in a place with so many quantifiers around, from its parts' texts
abbrev pub printed_formula_at : Formula-F (ℕ → List ℕ) → ℕ → List ℕ
printed_formula_at formula.True level = codes "$true"
printed_formula_at formula.False level = codes "$false"
printed_formula_at (formula.Atom symbol args) level = printed_name symbol.name ++ arguments_text (map printed_term args) level
printed_formula_at (formula.Not a) level = codes "~" ++ a level
printed_formula_at (formula.And a b) level = binary_text (codes " & ") a b level
printed_formula_at (formula.Or a b) level = binary_text (codes " | ") a b level
printed_formula_at (formula.Imp a b) level = binary_text (codes " => ") a b level
printed_formula_at (formula.Iff a b) level = binary_text (codes " <=> ") a b level
printed_formula_at (formula.All a) level = quantified_text (codes "!") a level
printed_formula_at (formula.Ex a) level = quantified_text (codes "?") a level

abbrev pub printed_formula : Formula → ℕ → List ℕ
printed_formula = fold-Formula (ℕ → List ℕ) printed_formula_at

-- `fof(NAME,ROLE,FORMULA).` and a newline
abbrev pub printed_item : List ℕ → List ℕ → Formula → List ℕ
printed_item name role body = codes "fof(" ++ (printed_item_name name ++ (codes "," ++ (printed_name role ++ (codes "," ++ (printed_formula body 0 ++ codes ").\n")))))

-- every symbol has a name of one or more printable bytes
abbrev pub AreNamed : List SymKey → Type 0
AreNamed [] = Unit {0}
AreNamed (symbol ∷ symbols) = IsQuoted symbol.name × AreNamed symbols

-- the item that is printed
abbrev pub printed_as : List ℕ → List ℕ → Formula → Item
printed_as name role body = record { lang = Fof; name = name; role = role; body = Plain body; free = None; source = Missing }

-- What is printed so that it is read back: a name of printable bytes, a role that is a lower word, and a closed and well-formed
-- formula without Any, whose symbols have names of printable bytes, of a depth within the reader's limit.
pub record IsPrintable (name role : List ℕ) (body : Formula) : Type 0 where
  pub named : IsQuoted name
  pub lower : is_lower_word role ≡ true
  pub symbols : AreNamed (formula_occurrences body)
  pub proper : IsProper body
  pub depth : formula_depth body ≤ 1000
