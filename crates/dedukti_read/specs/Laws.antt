-- What the definitions of texts say: each is read in one way at most.
use Rattle.std.specs.Prelude.{◌≡◌, ℕ, List}
use Rattle.lp_term.specs.declared.Command.{Command}
use Rattle.lp_term.specs.declared.Dev.{Dev}
use Rattle.dedukti_read.specs.declared.token.Token.{Token}
use Rattle.dedukti_read.specs.Grammar.{IsCommand}
use Rattle.dedukti_read.specs.Text.{ReadsDk}
use Rattle.dedukti_read.specs.Tokens.{Stands}

-- one token stands in front of bytes
abbrev pub TokensAreOne : Type 0
TokensAreOne = (bytes : List ℕ) (token other : Token) (rest left : List ℕ) → Stands bytes token rest → Stands bytes other left → (token ≡ other) × (rest ≡ left)

-- tokens begin with one command
abbrev pub CommandsAreOne : Type 0
CommandsAreOne = (tokens : List Token) (command other : Command) (rest left : List Token) → IsCommand tokens command rest → IsCommand tokens other left → (command ≡ other) × (rest ≡ left)

-- bytes are read as one development
abbrev pub ReadingIsOne : Type 0
ReadingIsOne = (bytes : List ℕ) (development other : Dev) → ReadsDk bytes development → ReadsDk bytes other → development ≡ other
