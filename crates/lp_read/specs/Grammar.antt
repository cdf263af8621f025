-- The grammar of commands and terms, one case an alternative.
use Rattle.std.specs.Prelude.{ℕ, Bool, true, false, List, [], ◌∷◌, Option, Some, None}
use Rattle.lp_term.specs.declared.Command.{Command}
use Rattle.lp_term.specs.declared.Command.TheVariants as command
use Rattle.lp_term.specs.declared.Lp.{Lp}
use Rattle.lp_term.specs.declared.Lp.TheVariants as lp
use Rattle.lp_read.specs.declared.token.Token.{Token}
use Rattle.lp_read.specs.declared.token.Token.TheVariants as t
use Rattle.lp_read.specs.Scopes.{Scope, meaning}

-- Whether pattern variables may stand in a term, which they may in rules alone; then what is bound around it, the tokens that
-- it begins, the term itself, and the tokens behind it. Application is to the left, and `→` to the right.
mutual
  pub data IsTerm : Bool → Scope → List Token → Lp → List Token → Type 0 where
    Abstraction : (patterns : Bool) (scope : Scope) (name : List ℕ) (ts : List Token) (domain : Lp) (next : List Token) (body : Lp) (rest : List Token)
        → IsTerm patterns scope ts domain (t.CloseBracket ∷ t.Comma ∷ next) → IsTerm patterns (Some name ∷ scope) next body rest
        → IsTerm patterns scope (t.Lambda ∷ t.OpenBracket ∷ t.Name name ∷ t.Colon ∷ ts) (lp.Lam domain body) rest
    Product : (patterns : Bool) (scope : Scope) (name : List ℕ) (ts : List Token) (domain : Lp) (next : List Token) (body : Lp) (rest : List Token)
        → IsTerm patterns scope ts domain (t.CloseBracket ∷ t.Comma ∷ next) → IsTerm patterns (Some name ∷ scope) next body rest
        → IsTerm patterns scope (t.Product ∷ t.OpenBracket ∷ t.Name name ∷ t.Colon ∷ ts) (lp.Pi domain body) rest
    -- `let x : A ≔ t in u` is `(λ (x : A), u) t`
    Let : (patterns : Bool) (scope : Scope) (name : List ℕ) (ts : List Token) (type : Lp) (more : List Token) (value : Lp) (next : List Token) (body : Lp) (rest : List Token)
        → IsTerm patterns scope ts type (t.Defined ∷ more) → IsTerm patterns scope more value (t.In ∷ next) → IsTerm patterns (Some name ∷ scope) next body rest
        → IsTerm patterns scope (t.Let ∷ t.Name name ∷ t.Colon ∷ ts) (lp.App (lp.Lam type body) value) rest
    Applied : (patterns : Bool) (scope : Scope) (ts : List Token) (f : Lp) (rest : List Token) → IsApplication patterns scope ts f rest → IsTerm patterns scope ts f rest
    -- a product whose variable has no name
    Arrow : (patterns : Bool) (scope : Scope) (ts : List Token) (domain : Lp) (next : List Token) (body : Lp) (rest : List Token)
        → IsApplication patterns scope ts domain (t.Arrow ∷ next) → IsTerm patterns (None ∷ scope) next body rest
        → IsTerm patterns scope ts (lp.Pi domain body) rest

  pub data IsApplication : Bool → Scope → List Token → Lp → List Token → Type 0 where
    OneAtom : (patterns : Bool) (scope : Scope) (ts : List Token) (f : Lp) (rest : List Token) → IsAtom patterns scope ts f rest → IsApplication patterns scope ts f rest
    Argument : (patterns : Bool) (scope : Scope) (ts : List Token) (f : Lp) (next : List Token) (argument : Lp) (rest : List Token)
        → IsApplication patterns scope ts f next → IsAtom patterns scope next argument rest → IsApplication patterns scope ts (lp.App f argument) rest

  pub data IsAtom : Bool → Scope → List Token → Lp → List Token → Type 0 where
    Identifier : (patterns : Bool) (scope : Scope) (name : List ℕ) (rest : List Token) → IsAtom patterns scope (t.Name name ∷ rest) (meaning scope name) rest
    Pattern : (scope : Scope) (name : List ℕ) (rest : List Token) → IsAtom true scope (t.Pattern name ∷ rest) (lp.Pat name) rest
    Sort : (patterns : Bool) (scope : Scope) (rest : List Token) → IsAtom patterns scope (t.Sort ∷ rest) lp.Sort rest
    InBrackets : (patterns : Bool) (scope : Scope) (ts : List Token) (f : Lp) (rest : List Token) → IsTerm patterns scope ts f (t.CloseBracket ∷ rest) → IsAtom patterns scope (t.OpenBracket ∷ ts) f rest

-- the tokens, the command that they begin with, and the tokens behind it
pub data IsCommand : List Token → Command → List Token → Type 0 where
  Constant : (name : List ℕ) (ts : List Token) (type : Lp) (rest : List Token) → IsTerm false [] ts type (t.Semicolon ∷ rest)
      → IsCommand (t.Constant ∷ t.Symbol ∷ t.Name name ∷ t.Colon ∷ ts) (command.Constant name type) rest
  Declaration : (name : List ℕ) (ts : List Token) (type : Lp) (rest : List Token) → IsTerm false [] ts type (t.Semicolon ∷ rest)
      → IsCommand (t.Symbol ∷ t.Name name ∷ t.Colon ∷ ts) (command.Symbol name type) rest
  Definition : (name : List ℕ) (ts : List Token) (type : Lp) (next : List Token) (body : Lp) (rest : List Token)
      → IsTerm false [] ts type (t.Defined ∷ next) → IsTerm false [] next body (t.Semicolon ∷ rest)
      → IsCommand (t.Symbol ∷ t.Name name ∷ t.Colon ∷ ts) (command.Define name type body) rest
  Rule : (ts : List Token) (left : Lp) (next : List Token) (right : Lp) (rest : List Token)
      → IsTerm true [] ts left (t.Rewrites ∷ next) → IsTerm true [] next right (t.Semicolon ∷ rest)
      → IsCommand (t.Rule ∷ ts) (command.Rule left right) rest
