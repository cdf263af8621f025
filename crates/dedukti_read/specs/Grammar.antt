-- The grammar of commands and terms, one case an alternative.
use Rattle.std.specs.Prelude.{◌≡◌, ℕ, List, [], ◌∷◌, Some, None}
use Rattle.dedukti_text.specs.Patterns.{pattern_names}
use Rattle.lp_read.specs.Scopes.{Scope}
use Rattle.lp_term.specs.declared.Command.{Command}
use Rattle.lp_term.specs.declared.Command.TheVariants as command
use Rattle.lp_term.specs.declared.Lp.{Lp}
use Rattle.lp_term.specs.declared.Lp.TheVariants as lp
use Rattle.dedukti_read.specs.Scopes.{meaning}
use Rattle.dedukti_read.specs.declared.token.Token.{Token}
use Rattle.dedukti_read.specs.declared.token.Token.TheVariants as t

-- The pattern variables of the rule, if it is one; then what is bound around a term, the tokens that it begins, the term itself,
-- and the tokens behind it. Application is to the left, and `->` and `=>` to the right.
mutual
  pub data IsTerm : List (List ℕ) → Scope → List Token → Lp → List Token → Type 0 where
    Abstraction : (patterns : List (List ℕ)) (scope : Scope) (name : List ℕ) (ts : List Token) (domain : Lp) (next : List Token) (body : Lp) (rest : List Token)
        → IsApplication patterns scope ts domain (t.Maps ∷ next) → IsTerm patterns (Some name ∷ scope) next body rest
        → IsTerm patterns scope (t.Name name ∷ t.Colon ∷ ts) (lp.Lam domain body) rest
    Product : (patterns : List (List ℕ)) (scope : Scope) (name : List ℕ) (ts : List Token) (domain : Lp) (next : List Token) (body : Lp) (rest : List Token)
        → IsApplication patterns scope ts domain (t.Arrow ∷ next) → IsTerm patterns (Some name ∷ scope) next body rest
        → IsTerm patterns scope (t.Name name ∷ t.Colon ∷ ts) (lp.Pi domain body) rest
    Applied : (patterns : List (List ℕ)) (scope : Scope) (ts : List Token) (f : Lp) (rest : List Token) → IsApplication patterns scope ts f rest → IsTerm patterns scope ts f rest
    -- a product whose variable has no name
    Arrow : (patterns : List (List ℕ)) (scope : Scope) (ts : List Token) (domain : Lp) (next : List Token) (body : Lp) (rest : List Token)
        → IsApplication patterns scope ts domain (t.Arrow ∷ next) → IsTerm patterns (None ∷ scope) next body rest → IsTerm patterns scope ts (lp.Pi domain body) rest

  pub data IsApplication : List (List ℕ) → Scope → List Token → Lp → List Token → Type 0 where
    OneAtom : (patterns : List (List ℕ)) (scope : Scope) (ts : List Token) (f : Lp) (rest : List Token) → IsAtom patterns scope ts f rest → IsApplication patterns scope ts f rest
    Argument : (patterns : List (List ℕ)) (scope : Scope) (ts : List Token) (f : Lp) (next : List Token) (argument : Lp) (rest : List Token)
        → IsApplication patterns scope ts f next → IsAtom patterns scope next argument rest → IsApplication patterns scope ts (lp.App f argument) rest

  pub data IsAtom : List (List ℕ) → Scope → List Token → Lp → List Token → Type 0 where
    Identifier : (patterns : List (List ℕ)) (scope : Scope) (name : List ℕ) (rest : List Token) → IsAtom patterns scope (t.Name name ∷ rest) (meaning patterns scope name) rest
    Sort : (patterns : List (List ℕ)) (scope : Scope) (rest : List Token) → IsAtom patterns scope (t.Sort ∷ rest) lp.Sort rest
    InBrackets : (patterns : List (List ℕ)) (scope : Scope) (ts : List Token) (f : Lp) (rest : List Token) → IsTerm patterns scope ts f (t.CloseBracket ∷ rest) → IsAtom patterns scope (t.OpenBracket ∷ ts) f rest

-- the names behind the first one, each behind a comma, and the tokens behind their bracket
pub data AreMore : List Token → List (List ℕ) → List Token → Type 0 where
  NoMore : (rest : List Token) → AreMore (t.CloseSquare ∷ rest) [] rest
  OneMore : (name : List ℕ) (ts : List Token) (names : List (List ℕ)) (rest : List Token) → AreMore ts names rest → AreMore (t.Comma ∷ t.Name name ∷ ts) (name ∷ names) rest

-- the names between brackets, the first bracket left out, and the tokens behind the last one
pub data AreNames : List Token → List (List ℕ) → List Token → Type 0 where
  NoName : (rest : List Token) → AreNames (t.CloseSquare ∷ rest) [] rest
  SomeNames : (name : List ℕ) (ts : List Token) (names : List (List ℕ)) (rest : List Token) → AreMore ts names rest → AreNames (t.Name name ∷ ts) (name ∷ names) rest

-- the tokens, the command that they begin with, and the tokens behind it; the names before a rule are exactly the pattern variables of
-- its left side, by first occurrence
pub data IsCommand : List Token → Command → List Token → Type 0 where
  Constant : (name : List ℕ) (ts : List Token) (type : Lp) (rest : List Token) → IsTerm [] [] ts type (t.Stop ∷ rest)
      → IsCommand (t.Name name ∷ t.Colon ∷ ts) (command.Constant name type) rest
  Declaration : (name : List ℕ) (ts : List Token) (type : Lp) (rest : List Token) → IsTerm [] [] ts type (t.Stop ∷ rest)
      → IsCommand (t.Def ∷ t.Name name ∷ t.Colon ∷ ts) (command.Symbol name type) rest
  Definition : (name : List ℕ) (ts : List Token) (type : Lp) (next : List Token) (body : Lp) (rest : List Token)
      → IsTerm [] [] ts type (t.Defined ∷ next) → IsTerm [] [] next body (t.Stop ∷ rest)
      → IsCommand (t.Def ∷ t.Name name ∷ t.Colon ∷ ts) (command.Define name type body) rest
  Rule : (list : List Token) (names : List (List ℕ)) (ts : List Token) (left : Lp) (next : List Token) (right : Lp) (rest : List Token)
      → AreNames list names ts → names ≡ pattern_names left → IsTerm names [] ts left (t.Rewrites ∷ next) → IsTerm names [] next right (t.Stop ∷ rest)
      → IsCommand (t.OpenSquare ∷ list) (command.Rule left right) rest
