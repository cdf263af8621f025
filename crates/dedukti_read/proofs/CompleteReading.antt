-- What the grammar says is read token by token.
use Rattle.std.proofs.Common.{◌≡◌, ℕ, Bool, true, false, List, [], ◌∷◌, ◌++◌, Option, Some, None, refl, sym, ap, subst, ◌∙◌, append_assoc, append-nil}
use Rattle.dedukti_text.specs.Patterns.{pattern_names}
use Rattle.lp_term.specs.declared.Command.{Command}
use Rattle.lp_term.specs.declared.Lp.{Lp}
use Rattle.lp_term.specs.declared.Lp.TheVariants as lp
use Rattle.lp_read.specs.Scopes.{Scope}
use Rattle.dedukti_read.specs.declared.token.Token.{Token}
use Rattle.dedukti_read.specs.declared.token.Token.TheVariants as t
use Rattle.dedukti_read.specs.declared.state.Role.TheVariants as r
use Rattle.dedukti_read.specs.declared.state.Frame.{Frame}
use Rattle.dedukti_read.specs.declared.state.Frame.TheVariants as f
use Rattle.dedukti_read.specs.declared.state.Mode.TheVariants as m
use Rattle.dedukti_read.specs.Grammar.{IsTerm, Abstraction, Product, Applied, Arrow, IsApplication, OneAtom, Argument, IsAtom, Identifier, Sort, InBrackets, AreMore, NoMore, OneMore, AreNames, NoName, SomeNames, IsCommand, Constant, Declaration, Definition, Rule}
use Rattle.dedukti_read.specs.Machine.{are_same, collapsed, means, outside, place_of, run, said_of, step, wrapped}
use Rattle.dedukti_read.proofs.SameNames.{names_same}

-- a token that ends a term
abbrev is_ender : Token → Bool
is_ender t.CloseBracket = true
is_ender t.Stop = true
is_ender t.Defined = true
is_ender t.Rewrites = true
is_ender token = false

abbrev Ends : List Token → Type 0
Ends [] = ⊥
Ends (token ∷ tokens) = is_ender token ≡ true

-- no colon is next, so that a name before it is none that is bound
abbrev HasNoColon : List Token → Type 0
HasNoColon [] = Unit {0}
HasNoColon (t.Colon ∷ tokens) = ⊥
HasNoColon (token ∷ tokens) = Unit {0}

end_no_colon : (rest : List Token) → Ends rest → HasNoColon rest
end_no_colon [] ends = tt
end_no_colon (t.Colon ∷ rest) ends = absurd cc
end_no_colon (_ ∷ rest) ends = tt

atom_no_colon : {patterns : List (List ℕ)} {scope : Scope} {ts : List Token} {term : Lp} {rest : List Token} → IsAtom patterns scope ts term rest → HasNoColon ts
atom_no_colon (Identifier patterns scope name rest) = tt
atom_no_colon (Sort patterns scope rest) = tt
atom_no_colon (InBrackets patterns scope ts term rest h) = tt

name_goes : (name : List ℕ) (frames : List Frame) (scope : Scope) (patterns : List (List ℕ)) (rest : List Token) → HasNoColon rest
    → run (m.Begun name) (place_of frames scope patterns) rest ≡ run (m.Goes (means (place_of frames scope patterns) name)) (place_of frames scope patterns) rest
unfolding run step
name_goes name frames scope patterns [] h = refl
name_goes name frames scope patterns (t.Colon ∷ rest) h = absurd h
name_goes name frames scope patterns (_ ∷ rest) h = refl

-- where a body ends, the wider term ends
wrap_ends : (rest : List Token) → Ends rest → (frame : Frame) (body wider : Lp) → wrapped frame body ≡ Some wider → (frames : List Frame) (name : Option (List ℕ)) (scope : Scope) (patterns : List (List ℕ))
    → run (m.Goes body) (place_of (frame ∷ frames) (name ∷ scope) patterns) rest ≡ run (m.Goes wider) (place_of frames scope patterns) rest
unfolding run step collapsed
wrap_ends [] ends frame body wider e frames name scope patterns = absurd ends
wrap_ends (t.CloseBracket ∷ rest) ends frame body wider e frames name scope patterns = rw e refl
wrap_ends (t.Stop ∷ rest) ends frame body wider e frames name scope patterns = rw e refl
wrap_ends (t.Defined ∷ rest) ends frame body wider e frames name scope patterns = rw e refl
wrap_ends (t.Rewrites ∷ rest) ends frame body wider e frames name scope patterns = rw e refl
wrap_ends (_ ∷ rest) ends frame body wider e frames name scope patterns = absurd cc

mutual
  unfolding run step collapsed

  term_only : {patterns : List (List ℕ)} {scope : Scope} {ts : List Token} {term : Lp} {rest : List Token} → IsTerm patterns scope ts term rest → Ends rest → (frames : List Frame)
      → run m.Term (place_of frames scope patterns) ts ≡ run (m.Goes term) (place_of frames scope patterns) rest
  term_only (Abstraction patterns scope name ts domain next body rest d h) ends frames =
      annotation_only name d frames
      ∙ term_only h ends (f.Abstraction domain ∷ frames)
      ∙ wrap_ends rest ends (f.Abstraction domain) body (lp.Lam domain body) refl frames (Some name) scope patterns
  term_only (Product patterns scope name ts domain next body rest d h) ends frames =
      annotation_only name d frames
      ∙ term_only h ends (f.Product domain ∷ frames)
      ∙ wrap_ends rest ends (f.Product domain) body (lp.Pi domain body) refl frames (Some name) scope patterns
  term_only (Applied patterns scope ts term rest h) ends frames = application_only h (end_no_colon rest ends) frames
  term_only (Arrow patterns scope ts domain next body rest d h) ends frames =
      application_only d tt frames
      ∙ term_only h ends (f.Product domain ∷ frames)
      ∙ wrap_ends rest ends (f.Product domain) body (lp.Pi domain body) refl frames None scope patterns

  application_only : {patterns : List (List ℕ)} {scope : Scope} {ts : List Token} {term : Lp} {rest : List Token} → IsApplication patterns scope ts term rest → HasNoColon rest → (frames : List Frame)
      → run m.Term (place_of frames scope patterns) ts ≡ run (m.Goes term) (place_of frames scope patterns) rest
  application_only (OneAtom patterns scope ts term rest h) next frames = atom_first h next frames
  application_only (Argument patterns scope ts function next argument rest g h) behind frames = application_only g (atom_no_colon h) frames ∙ atom_next function h frames

  atom_first : {patterns : List (List ℕ)} {scope : Scope} {ts : List Token} {term : Lp} {rest : List Token} → IsAtom patterns scope ts term rest → HasNoColon rest → (frames : List Frame)
      → run m.Term (place_of frames scope patterns) ts ≡ run (m.Goes term) (place_of frames scope patterns) rest
  atom_first (Identifier patterns scope name rest) next frames = name_goes name frames scope patterns rest next
  atom_first (Sort patterns scope rest) next frames = refl
  atom_first (InBrackets patterns scope ts term rest h) next frames = term_only h refl (f.Bracket ∷ frames)

  atom_next : {patterns : List (List ℕ)} {scope : Scope} {ts : List Token} {term : Lp} {rest : List Token} (function : Lp) → IsAtom patterns scope ts term rest → (frames : List Frame)
      → run (m.Goes function) (place_of frames scope patterns) ts ≡ run (m.Goes (lp.App function term)) (place_of frames scope patterns) rest
  atom_next function (Identifier patterns scope name rest) frames = refl
  atom_next function (Sort patterns scope rest) frames = refl
  atom_next function (InBrackets patterns scope ts term rest h) frames = term_only h refl (f.Argument function ∷ frames)

  -- behind the colon of a name that is bound
  annotation_only : {patterns : List (List ℕ)} {scope : Scope} {ts : List Token} {term : Lp} {rest : List Token} (name : List ℕ) → IsApplication patterns scope ts term rest → (frames : List Frame)
      → run (m.Annotated name) (place_of frames scope patterns) ts ≡ run (m.Annotates name term) (place_of frames scope patterns) rest
  annotation_only name (OneAtom patterns scope ts term rest h) frames = annotation_first name h frames
  annotation_only name (Argument patterns scope ts function next argument rest g h) frames = annotation_only name g frames ∙ annotation_next name function h frames

  annotation_first : {patterns : List (List ℕ)} {scope : Scope} {ts : List Token} {term : Lp} {rest : List Token} (name : List ℕ) → IsAtom patterns scope ts term rest → (frames : List Frame)
      → run (m.Annotated name) (place_of frames scope patterns) ts ≡ run (m.Annotates name term) (place_of frames scope patterns) rest
  annotation_first name (Identifier patterns scope other rest) frames = refl
  annotation_first name (Sort patterns scope rest) frames = refl
  annotation_first name (InBrackets patterns scope ts term rest h) frames = term_only h refl (f.Annotation name ∷ frames)

  annotation_next : {patterns : List (List ℕ)} {scope : Scope} {ts : List Token} {term : Lp} {rest : List Token} (name : List ℕ) (function : Lp) → IsAtom patterns scope ts term rest → (frames : List Frame)
      → run (m.Annotates name function) (place_of frames scope patterns) ts ≡ run (m.Annotates name (lp.App function term)) (place_of frames scope patterns) rest
  annotation_next name function (Identifier patterns scope other rest) frames = refl
  annotation_next name function (Sort patterns scope rest) frames = refl
  annotation_next name function (InBrackets patterns scope ts term rest h) frames = term_only h refl (f.AnnotationArgument name function ∷ frames)

-- ---- the names before a rule

more_only : {ts : List Token} {names : List (List ℕ)} {rest : List Token} → AreMore ts names rest → (front : List (List ℕ))
    → run m.Listed (place_of [] [] front) ts ≡ run m.Term (place_of (f.Left ∷ []) [] (front ++ names)) rest
unfolding run step
more_only (NoMore rest) front = ap (λ (names : List (List ℕ)). run m.Term (place_of (f.Left ∷ []) [] names) rest) (sym (append-nil front))
more_only (OneMore name ts names rest h) front =
    more_only h (front ++ name ∷ []) ∙ ap (λ (names : List (List ℕ)). run m.Term (place_of (f.Left ∷ []) [] names) rest) (simp append_assoc)

names_only : {ts : List Token} {names : List (List ℕ)} {rest : List Token} → AreNames ts names rest
    → run m.First (place_of [] [] []) ts ≡ run m.Term (place_of (f.Left ∷ []) [] names) rest
unfolding run step
names_only (NoName rest) = refl
names_only (SomeNames name ts names rest h) = more_only h (name ∷ [])

-- the left side is followed by the right one
left_goes : (names : List (List ℕ)) (left : Lp) (next : List Token) → names ≡ pattern_names left
    → run (m.Goes left) (place_of (f.Left ∷ []) [] names) (t.Rewrites ∷ next) ≡ run m.Term (place_of (f.Right left ∷ []) [] names) next
unfolding run step collapsed
left_goes names left next e =
    let same : are_same names (pattern_names left) ≡ true = subst (λ (x : List (List ℕ)). are_same names x ≡ true) e (names_same names) in
    rw same refl

pub command_only : {ts : List Token} {command : Command} {rest : List Token} → IsCommand ts command rest → run m.Command outside ts ≡ Some (said_of command, rest)
unfolding run step collapsed
command_only (Constant name ts type rest h) = term_only h refl (f.Type r.Constant name ∷ [])
command_only (Declaration name ts type rest h) = term_only h refl (f.Type r.Symbol name ∷ [])
command_only (Definition name ts type next body rest d h) = term_only d refl (f.Type r.Symbol name ∷ []) ∙ term_only h refl (f.Definition name type ∷ [])
command_only (Rule list names ts left next right rest are same d h) =
    names_only are ∙ term_only d refl (f.Left ∷ []) ∙ left_goes names left next same ∙ term_only h refl (f.Right left ∷ [])
