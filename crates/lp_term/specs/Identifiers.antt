-- The identifiers of symbols.
use Rattle.std.specs.Prelude.{ℕ, ◌==◌, Bool, false, ◌&&◌, ◌||◌, if◌then◌else◌, List, [], ◌∷◌, ◌++◌, codes, decimal}
use Rattle.std.specs.List.{list_all}
use Rattle.std.specs.Char.{is_ascii_alphanumeric, is_ascii_lowercase}
use Rattle.hex.specs.Hex.{encode_lower}
use Rattle.dk_syntax.specs.declared.Kind.{Kind}
use Rattle.dk_syntax.specs.declared.Kind.TheVariants.{Function, Predicate}
use Rattle.dk_syntax.specs.declared.SymKey.{SymKey}

-- a letter, a digit or `_`
abbrev pub word_byte : ℕ → Bool
word_byte byte = is_ascii_alphanumeric byte || byte == 95

-- `a` to `z`, then letters, digits and `_`
abbrev pub lower_word : List ℕ → Bool
lower_word [] = false
lower_word (first ∷ rest) = is_ascii_lowercase first && list_all word_byte rest

-- a lower word as it is, any other name as `Q` and its bytes in hexadecimal
abbrev pub name_text : List ℕ → List ℕ
name_text name = if lower_word name then name else codes "Q" ++ encode_lower name

-- `f` or `p`
abbrev pub kind_letter : Kind → ℕ
kind_letter Function = 102
kind_letter Predicate = 112

-- the kind's letter, the number of arguments, `_` and the name
abbrev pub identifier_of : SymKey → List ℕ
identifier_of symbol = kind_letter symbol.kind ∷ (decimal symbol.arity ++ (codes "_" ++ name_text symbol.name))
