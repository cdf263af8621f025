-- What identifiers of symbols keep apart: each other, the names of the prelude, and the words that
-- the grammar and the printer take.
use Rattle.std.specs.Prelude.{◌≡◌, ◌≢◌, ℕ, ◌<◌, ◌^◌, Bool, true, false, List, [], ◌∷◌, ◌++◌, IsTrue, codes}
use Rattle.std.specs.Char.{is_ascii_digit}
use Rattle.std.specs.List.{list_all}
use Rattle.hex.specs.Hex.{IsBytes}
use Rattle.dk_syntax.specs.declared.SymKey.{SymKey}
use Rattle.lp_term.specs.Identifiers.{identifier_of, word_byte}
use Rattle.lp_term.specs.Prelude.{prelude}
use Rattle.lp_term.specs.declared.command.Command.{Command}
use Rattle.lp_term.specs.declared.command.Command.TheVariants.{Constant, Symbol, Define, Rule}

-- a symbol that a program can hold: its name is bytes, its arity a machine word
pub record IsSymbol (symbol : SymKey) : Type 0 where
  pub name_is_bytes : IsBytes symbol.name
  pub arity_fits : symbol.arity < 2 ^ 32

-- no other symbol has the identifier
abbrev pub IsOfOne : SymKey → List ℕ → Type 0
IsOfOne symbol identifier = (other : SymKey) → IsSymbol other → identifier_of other ≡ identifier → other ≡ symbol

-- the names that a list of commands declares
abbrev pub with_declared : Command → List (List ℕ) → List (List ℕ)
with_declared (Constant name type) others = name ∷ others
with_declared (Symbol name type) others = name ∷ others
with_declared (Define name type body) others = name ∷ others
with_declared (Rule left right) others = others

abbrev pub declared_names : List Command → List (List ℕ)
declared_names [] = []
declared_names (command ∷ rest) = with_declared command (declared_names rest)

-- the words of the grammar
abbrev pub reserved_words : List (List ℕ)
reserved_words = codes "constant" ∷ codes "symbol" ∷ codes "rule" ∷ codes "let" ∷ codes "in" ∷ codes "TYPE" ∷ []

-- `v` and digits
abbrev pub IsVariableName : List ℕ → Type 0
IsVariableName name = (digits : List ℕ) × (name ≡ codes "v" ++ digits) × IsTrue (list_all is_ascii_digit digits)

-- the name differs from each of the names
abbrev pub IsNoneOf : List (List ℕ) → List ℕ → Type 0
IsNoneOf [] name = Unit {0}
IsNoneOf (other ∷ rest) name = (name ≢ other) × IsNoneOf rest name

-- an identifier of the grammar: letters, digits and `_`, not beginning with a digit, not `_` alone
abbrev pub begins_with_digit : List ℕ → Bool
begins_with_digit [] = false
begins_with_digit (first ∷ rest) = is_ascii_digit first

pub record IsGrammarName (name : List ℕ) : Type 0 where
  pub not_empty : name ≢ []
  pub word_bytes : list_all word_byte name ≡ true
  pub no_digit_first : begins_with_digit name ≡ false
  pub no_lone_underscore : name ≢ codes "_"

-- the name is free for a symbol of the problem
pub record IsFree (name : List ℕ) : Type 0 where
  pub no_prelude_name : IsNoneOf (declared_names prelude) name
  pub no_goal : name ≢ codes "goal"
  pub no_reserved_word : IsNoneOf reserved_words name
  pub no_variable : ¬ IsVariableName name
