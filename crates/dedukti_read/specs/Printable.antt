-- Which developments their print tells.
use Rattle.std.specs.Prelude.{◌≡◌, ℕ, ◌+◌, ◌<◌, true, false, List, [], All, Ok}
use Rattle.dedukti_text.specs.Patterns.{pattern_names}
use Rattle.dedukti_text.specs.Print.{dk_text_of}
use Rattle.dk_syntax.specs.declared.SymKey.{SymKey}
use Rattle.lp_term.specs.Identifiers.{identifier_of}
use Rattle.lp_term.specs.LambdaPi.{Term, app, con, kind, lam, pat, pi, type, var}
use Rattle.lp_term.specs.Reserved.{IsFree, IsGrammarName, IsVariableName}
use Rattle.lp_term.specs.Scope.{Declared, VariablesBelow}
use Rattle.lp_term.specs.Typing.{Declaration, Declares}
use Rattle.lp_term.specs.View.{term_of}
use Rattle.lp_term.specs.declared.Command.{Command}
use Rattle.lp_term.specs.declared.Command.TheVariants as command
use Rattle.lp_term.specs.declared.Dev.{Dev}
use Rattle.lp_text.specs.Levels.{commands_over}
use Rattle.dedukti_read.specs.Scopes.{is_listed}
use Rattle.dedukti_read.specs.Text.{IsReadDkAnswer, IsShallow, ReadsDk}
use Rattle.dedukti_read.specs.Tokens.{IsIdentifier}

-- an identifier that isn't `v` and digits
pub record IsSymbolName (name : List ℕ) : Type 0 where
  pub identifier : IsIdentifier name
  pub no_variable : ¬ IsVariableName name

-- The pattern variables of the rule that a term stands in, how many binders are around it, and the term: names are identifiers, none
-- is named as a variable, pattern variables are those of the rule and symbols are none of them, and each variable is bound.
abbrev pub IsPrintable : List (List ℕ) → ℕ → Term → Type 0
IsPrintable patterns level type = Unit {0}
IsPrintable patterns level kind = ⊥
IsPrintable patterns level (con name) = IsSymbolName name × (is_listed patterns name ≡ false)
IsPrintable patterns level (pat name) = IsSymbolName name × (is_listed patterns name ≡ true)
IsPrintable patterns level (var number) = number < level
IsPrintable patterns level (app function argument) = IsPrintable patterns level function × IsPrintable patterns level argument
IsPrintable patterns level (lam domain body) = IsPrintable patterns level domain × IsPrintable patterns (level + 1) body
IsPrintable patterns level (pi domain body) = IsPrintable patterns level domain × IsPrintable patterns (level + 1) body

-- pattern variables stand in rules alone, and are those of the left side
abbrev pub IsPrintableCommand : Command → Type 0
IsPrintableCommand (command.Constant name of) = IsSymbolName name × IsPrintable [] 0 (term_of of)
IsPrintableCommand (command.Symbol name of) = IsSymbolName name × IsPrintable [] 0 (term_of of)
IsPrintableCommand (command.Define name of body) = IsSymbolName name × IsPrintable [] 0 (term_of of) × IsPrintable [] 0 (term_of body)
IsPrintableCommand (command.Rule left right) = All IsSymbolName (pattern_names left) × IsPrintable (pattern_names left) 0 (term_of left) × IsPrintable (pattern_names left) 0 (term_of right)

abbrev pub ArePrintable : List Command → Type 0
ArePrintable commands = All IsPrintableCommand commands

-- ---- laws

-- the text of a printable development, with fewer than 2 ^ 32 binders around each place, is read as it
abbrev pub PrintIsRead : Type 0
PrintIsRead = (development : Dev) → ArePrintable development.commands → commands_over development.commands ≡ 0 → ReadsDk (dk_text_of development) development

-- and as no other
abbrev pub PrintIsReadAlone : Type 0
PrintIsReadAlone = (development other : Dev) → ArePrintable development.commands → commands_over development.commands ≡ 0 → ReadsDk (dk_text_of development) other → other ≡ development

-- the reader answers the development, where no side depth is too great
abbrev pub PrintIsAnswered : Type 0
PrintIsAnswered = (development : Dev) → ArePrintable development.commands → commands_over development.commands ≡ 0 → All IsShallow development.commands → IsReadDkAnswer (dk_text_of development) (Ok development)

-- a term whose variables are bound and whose symbols are declared under names of symbols is printable outside of rules
abbrev pub DeclaredIsPrintable : Type 0
DeclaredIsPrintable = (sig : List Declaration) (level : ℕ) (term : Term) → ((name : List ℕ) (of : Term) → Declares sig name of → IsSymbolName name) → VariablesBelow level term → Declared sig term → IsPrintable [] level term

-- the identifiers of symbols are names of symbols
abbrev pub IdentifiersAreNames : Type 0
IdentifiersAreNames = (symbol : SymKey) → IsGrammarName (identifier_of symbol) → IsFree (identifier_of symbol) → IsSymbolName (identifier_of symbol)
