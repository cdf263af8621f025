-- What the grammar says is read token by token.
use Rattle.std.proofs.Common.{◌≡◌, ℕ, Bool, true, false, List, [], ◌∷◌, Option, Some, None, refl, ◌∙◌}
use Rattle.lp_term.specs.declared.Command.{Command}
use Rattle.lp_term.specs.declared.Lp.{Lp}
use Rattle.lp_term.specs.declared.Lp.TheVariants as lp
use Rattle.lp_read.specs.declared.token.Token.{Token}
use Rattle.lp_read.specs.declared.token.Token.TheVariants as t
use Rattle.lp_read.specs.declared.state.Binder.TheVariants as b
use Rattle.lp_read.specs.declared.state.Role.TheVariants as r
use Rattle.lp_read.specs.declared.state.Frame.{Frame}
use Rattle.lp_read.specs.declared.state.Frame.TheVariants as f
use Rattle.lp_read.specs.declared.state.Mode.TheVariants as m
use Rattle.lp_read.specs.Grammar.{IsTerm, Abstraction, Product, Let, Applied, Arrow, IsApplication, OneAtom, Argument, IsAtom, Identifier, Pattern, Sort, InBrackets, IsCommand, Constant, Declaration, Definition, Rule}
use Rattle.lp_read.specs.Machine.{collapsed, outside, place_of, run, said_of, step, wrapped}
use Rattle.lp_read.specs.Scopes.{Scope}

-- a token that ends a term
abbrev is_ender : Token → Bool
is_ender t.CloseBracket = true
is_ender t.Defined = true
is_ender t.In = true
is_ender t.Semicolon = true
is_ender t.Rewrites = true
is_ender token = false

abbrev Ends : List Token → Type 0
Ends [] = ⊥
Ends (token ∷ tokens) = is_ender token ≡ true

-- where a body ends, the wider term ends
wrap_ends : (rest : List Token) → Ends rest → (frame : Frame) (body wider : Lp) → wrapped frame body ≡ Some wider → (frames : List Frame) (name : Option (List ℕ)) (scope : Scope) (patterns : Bool)
    → run (m.Goes body) (place_of (frame ∷ frames) (name ∷ scope) patterns) rest ≡ run (m.Goes wider) (place_of frames scope patterns) rest
unfolding run step collapsed
wrap_ends [] ends frame body wider e frames name scope patterns = absurd ends
wrap_ends (t.CloseBracket ∷ rest) ends frame body wider e frames name scope patterns = rw e refl
wrap_ends (t.Defined ∷ rest) ends frame body wider e frames name scope patterns = rw e refl
wrap_ends (t.In ∷ rest) ends frame body wider e frames name scope patterns = rw e refl
wrap_ends (t.Semicolon ∷ rest) ends frame body wider e frames name scope patterns = rw e refl
wrap_ends (t.Rewrites ∷ rest) ends frame body wider e frames name scope patterns = rw e refl
wrap_ends (_ ∷ rest) ends frame body wider e frames name scope patterns = absurd cc

mutual
  unfolding run step collapsed

  term_only : {patterns : Bool} {scope : Scope} {ts : List Token} {term : Lp} {rest : List Token} → IsTerm patterns scope ts term rest → Ends rest → (frames : List Frame)
      → run m.Term (place_of frames scope patterns) ts ≡ run (m.Goes term) (place_of frames scope patterns) rest
  term_only (Abstraction patterns scope name ts domain next body rest d h) ends frames =
      term_only d refl (f.Type (r.Binder b.Abstraction) name ∷ frames)
      ∙ term_only h ends (f.Abstraction domain ∷ frames)
      ∙ wrap_ends rest ends (f.Abstraction domain) body (lp.Lam domain body) refl frames (Some name) scope patterns
  term_only (Product patterns scope name ts domain next body rest d h) ends frames =
      term_only d refl (f.Type (r.Binder b.Product) name ∷ frames)
      ∙ term_only h ends (f.Product domain ∷ frames)
      ∙ wrap_ends rest ends (f.Product domain) body (lp.Pi domain body) refl frames (Some name) scope patterns
  term_only (Let patterns scope name ts type more value next body rest d v h) ends frames =
      term_only d refl (f.Type r.Let name ∷ frames)
      ∙ term_only v refl (f.Value name type ∷ frames)
      ∙ term_only h ends (f.LetBody type value ∷ frames)
      ∙ wrap_ends rest ends (f.LetBody type value) body (lp.App (lp.Lam type body) value) refl frames (Some name) scope patterns
  term_only (Applied patterns scope ts term rest h) ends frames = application_only h frames
  term_only (Arrow patterns scope ts domain next body rest d h) ends frames =
      application_only d frames
      ∙ term_only h ends (f.Product domain ∷ frames)
      ∙ wrap_ends rest ends (f.Product domain) body (lp.Pi domain body) refl frames None scope patterns

  application_only : {patterns : Bool} {scope : Scope} {ts : List Token} {term : Lp} {rest : List Token} → IsApplication patterns scope ts term rest → (frames : List Frame)
      → run m.Term (place_of frames scope patterns) ts ≡ run (m.Goes term) (place_of frames scope patterns) rest
  application_only (OneAtom patterns scope ts term rest h) frames = atom_first h frames
  application_only (Argument patterns scope ts function next argument rest g h) frames = application_only g frames ∙ atom_next function h frames

  atom_first : {patterns : Bool} {scope : Scope} {ts : List Token} {term : Lp} {rest : List Token} → IsAtom patterns scope ts term rest → (frames : List Frame)
      → run m.Term (place_of frames scope patterns) ts ≡ run (m.Goes term) (place_of frames scope patterns) rest
  atom_first (Identifier patterns scope name rest) frames = refl
  atom_first (Pattern scope name rest) frames = refl
  atom_first (Sort patterns scope rest) frames = refl
  atom_first (InBrackets patterns scope ts term rest h) frames = term_only h refl (f.Bracket ∷ frames)

  atom_next : {patterns : Bool} {scope : Scope} {ts : List Token} {term : Lp} {rest : List Token} (function : Lp) → IsAtom patterns scope ts term rest → (frames : List Frame)
      → run (m.Goes function) (place_of frames scope patterns) ts ≡ run (m.Goes (lp.App function term)) (place_of frames scope patterns) rest
  atom_next function (Identifier patterns scope name rest) frames = refl
  atom_next function (Pattern scope name rest) frames = refl
  atom_next function (Sort patterns scope rest) frames = refl
  atom_next function (InBrackets patterns scope ts term rest h) frames = term_only h refl (f.Argument function ∷ frames)

pub command_only : {ts : List Token} {command : Command} {rest : List Token} → IsCommand ts command rest → run m.Command outside ts ≡ Some (said_of command, rest)
unfolding run step collapsed
command_only (Constant name ts type rest h) = term_only h refl (f.Type r.Constant name ∷ [])
command_only (Declaration name ts type rest h) = term_only h refl (f.Type r.Symbol name ∷ [])
command_only (Definition name ts type next body rest d h) = term_only d refl (f.Type r.Symbol name ∷ []) ∙ term_only h refl (f.Definition name type ∷ [])
command_only (Rule ts left next right rest d h) = term_only d refl (f.Left ∷ []) ∙ term_only h refl (f.Right left ∷ [])
