-- What is read token by token is what the grammar says.
use Rattle.std.proofs.Common.{◌≡◌, ℕ, Bool, true, false, if◌then◌else◌, List, [], ◌∷◌, ◌++◌, Option, Some, None, ◌⊎◌, inl, inr, refl, sym, ap, subst, append_assoc, append-nil}
use Rattle.dedukti_text.specs.Patterns.{pattern_names}
use Rattle.lp_term.specs.declared.Lp.{Lp}
use Rattle.lp_term.specs.declared.Lp.TheVariants as lp
use Rattle.lp_read.specs.Scopes.{Scope, tail_of}
use Rattle.dedukti_read.specs.declared.token.Token.{Token}
use Rattle.dedukti_read.specs.declared.token.Token.TheVariants as t
use Rattle.dedukti_read.specs.declared.state.Role.{Role}
use Rattle.dedukti_read.specs.declared.state.Role.TheVariants as r
use Rattle.dedukti_read.specs.declared.state.Frame.{Frame}
use Rattle.dedukti_read.specs.declared.state.Frame.TheVariants as f
use Rattle.dedukti_read.specs.declared.state.Mode.{Mode}
use Rattle.dedukti_read.specs.declared.state.Mode.TheVariants as m
use Rattle.dedukti_read.specs.declared.state.Said.{Said}
use Rattle.dedukti_read.specs.declared.state.Said.TheVariants as said
use Rattle.dedukti_read.specs.declared.state.Turn.{Turn}
use Rattle.dedukti_read.specs.declared.state.Turn.TheVariants.{On, End}
use Rattle.dedukti_read.specs.declared.state.Place.{Place}
use Rattle.dedukti_read.specs.Grammar.{IsTerm, Abstraction, Product, Applied, Arrow, IsApplication, OneAtom, Argument, IsAtom, Identifier, Sort, InBrackets, AreMore, NoMore, OneMore, AreNames, NoName, SomeNames, IsCommand, Constant, Declaration, Definition, Rule}
use Rattle.dedukti_read.specs.Machine.{Ended, annotated, annotates, are_same, begun, bound_or, collapsed, command_of, ended, ended_by, ended_in, first, further, gone_on, listed, means, named, outside, place_of, run, started, staying, step, turned, typed}
use Rattle.dedukti_read.proofs.SameNames.{same_names}

some_is : {A : Type 0} {x y : A} → Some x ≡ Some y → x ≡ y
some_is e = cc

-- ---- terms that go on

-- an application of the first term goes on to the second
data Extends (patterns : List (List ℕ)) (scope : Scope) : Lp → List Token → Lp → List Token → Type 0 where
  Whole : (term : Lp) (ts : List Token) → Extends patterns scope term ts term ts
  Further : (term argument : Lp) (ts next : List Token) (wider : Lp) (rest : List Token) → IsAtom patterns scope ts argument next → Extends patterns scope (lp.App term argument) next wider rest → Extends patterns scope term ts wider rest

-- a term that begins with the first one
data Heads (patterns : List (List ℕ)) (scope : Scope) : Lp → List Token → Lp → List Token → Type 0 where
  AsItIs : (term : Lp) (ts : List Token) (wider : Lp) (rest : List Token) → Extends patterns scope term ts wider rest → Heads patterns scope term ts wider rest
  ToArrow : (term : Lp) (ts : List Token) (domain : Lp) (next : List Token) (body : Lp) (rest : List Token) → Extends patterns scope term ts domain (t.Arrow ∷ next) → IsTerm patterns (None ∷ scope) next body rest → Heads patterns scope term ts (lp.Pi domain body) rest

module _ (patterns : List (List ℕ)) (scope : Scope) where
  longer : {term argument : Lp} {ts next : List Token} {wider : Lp} {rest : List Token} → IsAtom patterns scope ts argument next → Heads patterns scope (lp.App term argument) next wider rest → Heads patterns scope term ts wider rest
  longer {term} {argument} {ts} {next} a (AsItIs _ _ wider rest h) = AsItIs term ts wider rest (Further term argument ts next wider rest a h)
  longer {term} {argument} {ts} {next} a (ToArrow _ _ domain more body rest h k) = ToArrow term ts domain more body rest (Further term argument ts next domain (t.Arrow ∷ more) a h) k

  extended : {ts : List Token} {term : Lp} {next : List Token} {wider : Lp} {rest : List Token} → IsApplication patterns scope ts term next → Extends patterns scope term next wider rest → IsApplication patterns scope ts wider rest
  extended h (Whole term next) = h
  extended {ts} h (Further term argument next more wider rest a k) = extended (Argument patterns scope ts term next argument more h a) k

  headed : {ts : List Token} {term : Lp} {next : List Token} {wider : Lp} {rest : List Token} → IsApplication patterns scope ts term next → Heads patterns scope term next wider rest → IsTerm patterns scope ts wider rest
  headed {ts} h (AsItIs _ _ wider rest k) = Applied patterns scope ts wider rest (extended h k)
  headed {ts} h (ToArrow _ _ domain next body rest k b) = Arrow patterns scope ts domain next body rest (extended h k) b

  begins : {ts : List Token} {term : Lp} {next : List Token} {wider : Lp} {rest : List Token} → IsAtom patterns scope ts term next → Heads patterns scope term next wider rest → IsTerm patterns scope ts wider rest
  begins {ts} {term} {next} a h = headed (OneAtom patterns scope ts term next a) h

-- ---- what the tokens must be, for a command to end as said before the rest

module _ (patterns : List (List ℕ)) where
  -- the annotation goes on to this mark, and then the body follows
  abbrev Bound : Token → (Lp → Lp → Lp) → (Lp → List Token → Type 0) → Scope → List ℕ → Lp → List Token → Type 0
  Bound mark make After scope name term ts =
      (domain : Lp) × (next : List Token) × (body : Lp) × (last : List Token) × Extends patterns scope term ts domain (mark ∷ next) × IsTerm patterns (Some name ∷ scope) next body last × After (make domain body) last

  -- more of the annotation of a name
  abbrev Binds : (Lp → List Token → Type 0) → Scope → List ℕ → Lp → List Token → Type 0
  Binds After scope name term ts = Bound t.Maps lp.Lam After scope name term ts ⊎ Bound t.Arrow lp.Pi After scope name term ts

  binds_longer : (After : Lp → List Token → Type 0) {scope : Scope} {name : List ℕ} {term argument : Lp} {ts next : List Token} → IsAtom patterns scope ts argument next → Binds After scope name (lp.App term argument) next → Binds After scope name term ts
  binds_longer After {scope} {name} {term} {argument} {ts} {next} a (inl (domain, more, body, last, h, k, after)) =
      inl (domain, more, body, last, Further term argument ts next domain (t.Maps ∷ more) a h, k, after)
  binds_longer After {scope} {name} {term} {argument} {ts} {next} a (inr (domain, more, body, last, h, k, after)) =
      inr (domain, more, body, last, Further term argument ts next domain (t.Arrow ∷ more) a h, k, after)

module _ (patterns : List (List ℕ)) (whole : Said) (rest : List Token) where
  -- a term in its frames, before the tokens
  abbrev Around : List Frame → Scope → Lp → List Token → Type 0
  Around [] scope term ts = ⊥
  Around (f.Bracket ∷ frames) scope term ts = (next : List Token) × (wider : Lp) × (more : List Token) × (ts ≡ t.CloseBracket ∷ next) × Heads patterns scope term next wider more × Around frames scope wider more
  Around (f.Argument function ∷ frames) scope term ts = (next : List Token) × (wider : Lp) × (more : List Token) × (ts ≡ t.CloseBracket ∷ next) × Heads patterns scope (lp.App function term) next wider more × Around frames scope wider more
  Around (f.Annotation name ∷ frames) scope term ts = (next : List Token) × (ts ≡ t.CloseBracket ∷ next) × Binds patterns (λ wider more. Around frames scope wider more) scope name term next
  Around (f.AnnotationArgument name function ∷ frames) scope term ts = (next : List Token) × (ts ≡ t.CloseBracket ∷ next) × Binds patterns (λ wider more. Around frames scope wider more) scope name (lp.App function term) next
  Around (f.Type r.Constant name ∷ frames) scope term ts = (ts ≡ t.Stop ∷ rest) × (whole ≡ said.Constant name term)
  Around (f.Type r.Symbol name ∷ frames) scope term ts =
      ((ts ≡ t.Stop ∷ rest) × (whole ≡ said.Symbol name term))
      ⊎ ((next : List Token) × (body : Lp) × (ts ≡ t.Defined ∷ next) × IsTerm patterns scope next body (t.Stop ∷ rest) × (whole ≡ said.Define name term body))
  Around (f.Abstraction domain ∷ frames) scope term ts = Around frames (tail_of scope) (lp.Lam domain term) ts
  Around (f.Product domain ∷ frames) scope term ts = Around frames (tail_of scope) (lp.Pi domain term) ts
  Around (f.Definition name type ∷ frames) scope term ts = (ts ≡ t.Stop ∷ rest) × (whole ≡ said.Define name type term)
  Around (f.Left ∷ frames) scope term ts = (next : List Token) × (right : Lp) × (ts ≡ t.Rewrites ∷ next) × (patterns ≡ pattern_names term) × IsTerm patterns scope next right (t.Stop ∷ rest) × (whole ≡ said.Rule term right)
  Around (f.Right left ∷ frames) scope term ts = (ts ≡ t.Stop ∷ rest) × (whole ≡ said.Rule left term)

module _ (whole : Said) (rest : List Token) where
  -- a term begins here, in these frames
  abbrev Begins : List Frame → Place → List Token → Type 0
  Begins frames place ts = (term : Lp) × (more : List Token) × IsTerm place.patterns place.scope ts term more × Around place.patterns whole rest frames place.scope term more

  -- the left side of a rule begins here, with these names more
  abbrev BeginsLeft : List (List ℕ) → Place → List Token → Type 0
  BeginsLeft names place ts = Begins (f.Left ∷ place.frames) (place_of place.frames place.scope (place.patterns ++ names)) ts

  abbrev BeginsNames : Place → List Token → Type 0
  BeginsNames place ts = (names : List (List ℕ)) × (next : List Token) × AreNames ts names next × BeginsLeft names place next

  -- a command begins here
  abbrev Starts : Place → List Token → Type 0
  Starts place ts =
      ((name : List ℕ) × (next : List Token) × (ts ≡ t.Name name ∷ t.Colon ∷ next) × Begins (f.Type r.Constant name ∷ place.frames) place next)
      ⊎ ((name : List ℕ) × (next : List Token) × (ts ≡ t.Def ∷ t.Name name ∷ t.Colon ∷ next) × Begins (f.Type r.Symbol name ∷ place.frames) place next)
      ⊎ ((next : List Token) × (ts ≡ t.OpenSquare ∷ next) × BeginsNames place next)

  -- what the tokens must be from here on
  abbrev Completes : Mode → Place → List Token → Type 0
  Completes m.Command place ts = Starts place ts
  Completes m.Named place ts = (name : List ℕ) × (next : List Token) × (ts ≡ t.Name name ∷ t.Colon ∷ next) × Begins (f.Type r.Symbol name ∷ place.frames) place next
  Completes (m.Colon role name) place ts = (next : List Token) × (ts ≡ t.Colon ∷ next) × Begins (f.Type role name ∷ place.frames) place next
  Completes m.First place ts = BeginsNames place ts
  Completes m.Listed place ts = (names : List (List ℕ)) × (next : List Token) × AreMore ts names next × BeginsLeft names place next
  Completes m.Further place ts = (name : List ℕ) × (names : List (List ℕ)) × (more : List Token) × (next : List Token) × (ts ≡ t.Name name ∷ more) × AreMore more names next × BeginsLeft (name ∷ names) place next
  Completes m.Term place ts = Begins place.frames place ts
  Completes (m.Begun name) place ts = Begins place.frames place (t.Name name ∷ ts)
  Completes (m.Goes term) place ts = (wider : Lp) × (more : List Token) × Heads place.patterns place.scope term ts wider more × Around place.patterns whole rest place.frames place.scope wider more
  Completes (m.Annotated name) place ts =
      (term : Lp) × (next : List Token) × IsAtom place.patterns place.scope ts term next
      × Binds place.patterns (λ wider more. Around place.patterns whole rest place.frames place.scope wider more) place.scope name term next
  Completes (m.Annotates name term) place ts = Binds place.patterns (λ wider more. Around place.patterns whole rest place.frames place.scope wider more) place.scope name term ts

  abbrev From : Option (Turn × Place) → List Token → Type 0
  From None ts = ⊥
  From (Some (On mode, place)) ts = Completes mode place ts
  From (Some (End other, place)) ts = (whole ≡ other) × (rest ≡ ts)

  -- ---- where a term ends

  around_close : (patterns : List (List ℕ)) (frames : List Frame) (scope : Scope) (term : Lp) (ts : List Token) → From (ended t.CloseBracket patterns (collapsed term frames scope)) ts → Around patterns whole rest frames scope term (t.CloseBracket ∷ ts)
  unfolding collapsed
  around_close patterns [] scope term ts h = h
  around_close patterns (f.Abstraction domain ∷ frames) scope term ts h = around_close patterns frames (tail_of scope) (lp.Lam domain term) ts h
  around_close patterns (f.Product domain ∷ frames) scope term ts h = around_close patterns frames (tail_of scope) (lp.Pi domain term) ts h
  around_close patterns (f.Bracket ∷ frames) scope term ts h = (ts, h.0, h.1, refl, h.2, h.3)
  around_close patterns (f.Argument function ∷ frames) scope term ts h = (ts, h.0, h.1, refl, h.2, h.3)
  around_close patterns (f.Annotation name ∷ frames) scope term ts h = (ts, refl, h)
  around_close patterns (f.AnnotationArgument name function ∷ frames) scope term ts h = (ts, refl, h)
  around_close patterns (_ ∷ frames) scope term ts h = absurd h

  around_stop : (patterns : List (List ℕ)) (frames : List Frame) (scope : Scope) (term : Lp) (ts : List Token) → From (ended t.Stop patterns (collapsed term frames scope)) ts → Around patterns whole rest frames scope term (t.Stop ∷ ts)
  unfolding collapsed
  around_stop patterns [] scope term ts h = h
  around_stop patterns (f.Abstraction domain ∷ frames) scope term ts h = around_stop patterns frames (tail_of scope) (lp.Lam domain term) ts h
  around_stop patterns (f.Product domain ∷ frames) scope term ts h = around_stop patterns frames (tail_of scope) (lp.Pi domain term) ts h
  around_stop patterns (f.Type r.Constant name ∷ frames) scope term ts h = (ap (λ (x : List Token). t.Stop ∷ x) (sym h.1), h.0)
  around_stop patterns (f.Type r.Symbol name ∷ frames) scope term ts h = inl (ap (λ (x : List Token). t.Stop ∷ x) (sym h.1), h.0)
  around_stop patterns (f.Definition name type ∷ frames) scope term ts h = (ap (λ (x : List Token). t.Stop ∷ x) (sym h.1), h.0)
  around_stop patterns (f.Right left ∷ frames) scope term ts h = (ap (λ (x : List Token). t.Stop ∷ x) (sym h.1), h.0)
  around_stop patterns (_ ∷ frames) scope term ts h = absurd h

  -- what ends a definition's body and a rule's right side
  last_stop : {patterns : List (List ℕ)} {scope : Scope} {ts : List Token} {term : Lp} {more : List Token} → IsTerm patterns scope ts term more → more ≡ t.Stop ∷ rest → IsTerm patterns scope ts term (t.Stop ∷ rest)
  last_stop {patterns} {scope} {ts} {term} h e = subst (IsTerm patterns scope ts term) e h

  around_defined : (patterns : List (List ℕ)) (frames : List Frame) (scope : Scope) (term : Lp) (ts : List Token) → From (ended t.Defined patterns (collapsed term frames scope)) ts → Around patterns whole rest frames scope term (t.Defined ∷ ts)
  unfolding collapsed
  around_defined patterns [] scope term ts h = h
  around_defined patterns (f.Abstraction domain ∷ frames) scope term ts h = around_defined patterns frames (tail_of scope) (lp.Lam domain term) ts h
  around_defined patterns (f.Product domain ∷ frames) scope term ts h = around_defined patterns frames (tail_of scope) (lp.Pi domain term) ts h
  around_defined patterns (f.Type r.Symbol name ∷ frames) scope term ts (body, more, is, (e, w)) = inr (ts, body, refl, last_stop is e, w)
  around_defined patterns (_ ∷ frames) scope term ts h = absurd h

  -- the left side is followed by the right one where the names are its pattern variables
  left_followed : (patterns : List (List ℕ)) (frames : List Frame) (scope : Scope) (term : Lp) (ts : List Token) (test : Bool) → (test ≡ true → patterns ≡ pattern_names term)
      → From (if test then Some (On m.Term, place_of (f.Right term ∷ frames) scope patterns) else None) ts → Around patterns whole rest (f.Left ∷ frames) scope term (t.Rewrites ∷ ts)
  left_followed patterns frames scope term ts true same (right, more, is, (e, w)) = (ts, right, refl, same refl, last_stop is e, w)
  left_followed patterns frames scope term ts false same h = absurd h

  around_rewrites : (patterns : List (List ℕ)) (frames : List Frame) (scope : Scope) (term : Lp) (ts : List Token) → From (ended t.Rewrites patterns (collapsed term frames scope)) ts → Around patterns whole rest frames scope term (t.Rewrites ∷ ts)
  unfolding collapsed
  around_rewrites patterns [] scope term ts h = h
  around_rewrites patterns (f.Abstraction domain ∷ frames) scope term ts h = around_rewrites patterns frames (tail_of scope) (lp.Lam domain term) ts h
  around_rewrites patterns (f.Product domain ∷ frames) scope term ts h = around_rewrites patterns frames (tail_of scope) (lp.Pi domain term) ts h
  around_rewrites patterns (f.Left ∷ frames) scope term ts h = left_followed patterns frames scope term ts (are_same patterns (pattern_names term)) (same_names patterns (pattern_names term)) h
  around_rewrites patterns (_ ∷ frames) scope term ts h = absurd h

  -- no other token ends a term
  never_ended : (token : Token) (patterns : List (List ℕ)) (term : Lp) (frames : List Frame) (scope : Scope) → ((frame : Frame) (one : Lp) (place : Place) → ended_by token frame one place ≡ None) → ended_in token term frames scope patterns ≡ None
  never_ended token patterns term [] scope none = refl
  never_ended token patterns term (frame ∷ frames) scope none = none frame term (place_of frames scope patterns)

  never : {A : Type 0} (token : Token) (patterns : List (List ℕ)) (here : Ended) (ts : List Token) → ((frame : Frame) (one : Lp) (place : Place) → ended_by token frame one place ≡ None) → From (ended token patterns here) ts → A
  never token patterns here ts none h = absurd (subst (λ (o : Option (Turn × Place)). From o ts) (never_ended token patterns here.term here.frames here.scope none) h)

  -- ---- one token

  atom_goes : (place : Place) {token : Token} {term argument : Lp} {ts : List Token} → IsAtom place.patterns place.scope (token ∷ ts) argument ts → Completes (m.Goes (lp.App term argument)) place ts → Completes (m.Goes term) place (token ∷ ts)
  atom_goes place a h = (h.0, h.1, longer place.patterns place.scope a h.2, h.3)

  atom_begins : (place : Place) {token : Token} {argument : Lp} {ts : List Token} → IsAtom place.patterns place.scope (token ∷ ts) argument ts → Completes (m.Goes argument) place ts → Completes m.Term place (token ∷ ts)
  atom_begins place a h = (h.0, h.1, begins place.patterns place.scope a h.2, h.3)

  ends_here : (place : Place) {token : Token} {term : Lp} {ts : List Token} → Around place.patterns whole rest place.frames place.scope term (token ∷ ts) → Completes (m.Goes term) place (token ∷ ts)
  ends_here place {token} {term} {ts} h = (term, token ∷ ts, AsItIs term (token ∷ ts) term (token ∷ ts) (Whole term (token ∷ ts)), h)

  begun_back : (place : Place) (token : Token) (ts : List Token) → From (begun token place) ts → Completes m.Term place (token ∷ ts)
  begun_back place t.OpenBracket ts (term, more, is, (next, wider, last, e, h, around)) = (
    wider,
    last,
    begins place.patterns place.scope (InBrackets place.patterns place.scope ts term next (subst (IsTerm place.patterns place.scope ts term) e is)) h,
    around,
  )
  begun_back place (t.Name name) ts h = h
  begun_back place t.Sort ts h = atom_begins place (Sort place.patterns place.scope ts) h
  begun_back place _ ts h = absurd h

  gone_back : (place : Place) (term : Lp) (token : Token) (ts : List Token) → From (gone_on term token place) ts → Completes (m.Goes term) place (token ∷ ts)
  gone_back place term t.Arrow ts (body, more, is, around) = (
    lp.Pi term body,
    more,
    ToArrow term (t.Arrow ∷ ts) term ts body more (Whole term (t.Arrow ∷ ts)) is,
    around,
  )
  gone_back place term t.OpenBracket ts (argument, more, is, (next, wider, last, e, h, around)) = (
    wider,
    last,
    longer place.patterns place.scope (InBrackets place.patterns place.scope ts argument next (subst (IsTerm place.patterns place.scope ts argument) e is)) h,
    around,
  )
  gone_back place term (t.Name name) ts h = atom_goes place (Identifier place.patterns place.scope name ts) h
  gone_back place term t.Sort ts h = atom_goes place (Sort place.patterns place.scope ts) h
  gone_back place term t.CloseBracket ts h = ends_here place (around_close place.patterns place.frames place.scope term ts h)
  gone_back place term t.Stop ts h = ends_here place (around_stop place.patterns place.frames place.scope term ts h)
  gone_back place term t.Defined ts h = ends_here place (around_defined place.patterns place.frames place.scope term ts h)
  gone_back place term t.Rewrites ts h = ends_here place (around_rewrites place.patterns place.frames place.scope term ts h)
  gone_back place term t.Def ts h = never t.Def place.patterns (collapsed term place.frames place.scope) ts (λ frame one there. refl) h
  gone_back place term t.OpenSquare ts h = never t.OpenSquare place.patterns (collapsed term place.frames place.scope) ts (λ frame one there. refl) h
  gone_back place term t.CloseSquare ts h = never t.CloseSquare place.patterns (collapsed term place.frames place.scope) ts (λ frame one there. refl) h
  gone_back place term t.Colon ts h = never t.Colon place.patterns (collapsed term place.frames place.scope) ts (λ frame one there. refl) h
  gone_back place term t.Comma ts h = never t.Comma place.patterns (collapsed term place.frames place.scope) ts (λ frame one there. refl) h
  gone_back place term t.Maps ts h = never t.Maps place.patterns (collapsed term place.frames place.scope) ts (λ frame one there. refl) h

  -- an identifier that isn't bound there
  name_begins : (place : Place) (name : List ℕ) (token : Token) (ts : List Token) → From (gone_on (means place name) token place) ts → Completes (m.Begun name) place (token ∷ ts)
  name_begins place name token ts h =
      let goes = gone_back place (means place name) token ts h in
      (goes.0, goes.1, begins place.patterns place.scope (Identifier place.patterns place.scope name (token ∷ ts)) goes.2, goes.3)

  bound_back : (place : Place) (name : List ℕ) (token : Token) (ts : List Token) → From (bound_or name token place) ts → Completes (m.Begun name) place (token ∷ ts)
  bound_back place name t.Colon ts (term, next, a, inl (domain, more, body, last, h, k, around)) = (
    lp.Lam domain body,
    last,
    Abstraction place.patterns place.scope name ts domain more body last (extended place.patterns place.scope (OneAtom place.patterns place.scope ts term next a) h) k,
    around,
  )
  bound_back place name t.Colon ts (term, next, a, inr (domain, more, body, last, h, k, around)) = (
    lp.Pi domain body,
    last,
    Product place.patterns place.scope name ts domain more body last (extended place.patterns place.scope (OneAtom place.patterns place.scope ts term next a) h) k,
    around,
  )
  bound_back place name t.Def ts h = name_begins place name t.Def ts h
  bound_back place name t.Sort ts h = name_begins place name t.Sort ts h
  bound_back place name t.OpenBracket ts h = name_begins place name t.OpenBracket ts h
  bound_back place name t.CloseBracket ts h = name_begins place name t.CloseBracket ts h
  bound_back place name t.OpenSquare ts h = name_begins place name t.OpenSquare ts h
  bound_back place name t.CloseSquare ts h = name_begins place name t.CloseSquare ts h
  bound_back place name t.Comma ts h = name_begins place name t.Comma ts h
  bound_back place name t.Stop ts h = name_begins place name t.Stop ts h
  bound_back place name t.Defined ts h = name_begins place name t.Defined ts h
  bound_back place name t.Arrow ts h = name_begins place name t.Arrow ts h
  bound_back place name t.Rewrites ts h = name_begins place name t.Rewrites ts h
  bound_back place name t.Maps ts h = name_begins place name t.Maps ts h
  bound_back place name (t.Name other) ts h = name_begins place name (t.Name other) ts h

  annotated_back : (place : Place) (name : List ℕ) (token : Token) (ts : List Token) → From (annotated name token place) ts → Completes (m.Annotated name) place (token ∷ ts)
  annotated_back place name (t.Name other) ts h = (means place other, ts, Identifier place.patterns place.scope other ts, h)
  annotated_back place name t.Sort ts h = (lp.Sort, ts, Sort place.patterns place.scope ts, h)
  annotated_back place name t.OpenBracket ts (term, more, is, (next, e, h)) =
      (term, next, InBrackets place.patterns place.scope ts term next (subst (IsTerm place.patterns place.scope ts term) e is), h)
  annotated_back place name _ ts h = absurd h

  annotates_back : (place : Place) (name : List ℕ) (term : Lp) (token : Token) (ts : List Token) → From (annotates name term token place) ts → Completes (m.Annotates name term) place (token ∷ ts)
  annotates_back place name term (t.Name other) ts h = binds_longer place.patterns (λ wider more. Around place.patterns whole rest place.frames place.scope wider more) (Identifier place.patterns place.scope other ts) h
  annotates_back place name term t.Sort ts h = binds_longer place.patterns (λ wider more. Around place.patterns whole rest place.frames place.scope wider more) (Sort place.patterns place.scope ts) h
  annotates_back place name term t.OpenBracket ts (argument, more, is, (next, e, h)) =
      binds_longer place.patterns (λ wider more. Around place.patterns whole rest place.frames place.scope wider more) (InBrackets place.patterns place.scope ts argument next (subst (IsTerm place.patterns place.scope ts argument) e is)) h
  annotates_back place name term t.Maps ts (body, last, is, around) = inl (term, ts, body, last, Whole term (t.Maps ∷ ts), is, around)
  annotates_back place name term t.Arrow ts (body, last, is, around) = inr (term, ts, body, last, Whole term (t.Arrow ∷ ts), is, around)
  annotates_back place name term _ ts h = absurd h

  named_back : (place : Place) (token : Token) (ts : List Token) → From (staying place (named token)) ts → Completes m.Named place (token ∷ ts)
  named_back place (t.Name name) ts (next, e, h) = (name, next, ap (λ (x : List Token). t.Name name ∷ x) e, h)
  named_back place _ ts h = absurd h

  typed_back : (place : Place) (role : Role) (name : List ℕ) (token : Token) (ts : List Token) → From (typed role name token place) ts → Completes (m.Colon role name) place (token ∷ ts)
  typed_back place role name t.Colon ts h = (ts, refl, h)
  typed_back place role name _ ts h = absurd h

  no_more : (place : Place) (ts : List Token) → Begins (f.Left ∷ place.frames) place ts → BeginsLeft [] place ts
  no_more place ts h = subst (λ (x : List (List ℕ)). Begins (f.Left ∷ place.frames) (place_of place.frames place.scope x) ts) (sym (append-nil place.patterns)) h

  one_more : (name : List ℕ) (names : List (List ℕ)) (place : Place) (ts : List Token) → BeginsLeft names (place_of place.frames place.scope (place.patterns ++ name ∷ [])) ts → BeginsLeft (name ∷ names) place ts
  one_more name names place ts h =
      let e : (place.patterns ++ name ∷ []) ++ names ≡ place.patterns ++ name ∷ names = simp append_assoc in
      subst (λ (x : List (List ℕ)). Begins (f.Left ∷ place.frames) (place_of place.frames place.scope x) ts) e h

  listed_back : (place : Place) (token : Token) (ts : List Token) → From (listed token place) ts → Completes m.Listed place (token ∷ ts)
  listed_back place t.Comma ts (name, names, more, next, e, are, h) =
      (name ∷ names, next, subst (λ (x : List Token). AreMore (t.Comma ∷ x) (name ∷ names) next) (sym e) (OneMore name more names next are), h)
  listed_back place t.CloseSquare ts h = ([], ts, NoMore ts, no_more place ts h)
  listed_back place _ ts h = absurd h

  further_back : (place : Place) (token : Token) (ts : List Token) → From (further token place) ts → Completes m.Further place (token ∷ ts)
  further_back place (t.Name name) ts (names, next, are, h) = (name, names, ts, next, refl, are, one_more name names place next h)
  further_back place _ ts h = absurd h

  first_back : (place : Place) (token : Token) (ts : List Token) → From (first token place) ts → Completes m.First place (token ∷ ts)
  first_back place t.CloseSquare ts h = ([], ts, NoName ts, no_more place ts h)
  first_back place (t.Name name) ts (names, next, are, h) = (name ∷ names, next, SomeNames name ts names next are, one_more name names place next h)
  first_back place _ ts h = absurd h

  started_back : (place : Place) (token : Token) (ts : List Token) → From (staying place (started token)) ts → Completes m.Command place (token ∷ ts)
  started_back place (t.Name name) ts (next, e, h) = inl (name, next, ap (λ (x : List Token). t.Name name ∷ x) e, h)
  started_back place t.Def ts (name, next, e, h) = inr (inl (name, next, ap (λ (x : List Token). t.Def ∷ x) e, h))
  started_back place t.OpenSquare ts h = inr (inr (ts, refl, h))
  started_back place _ ts h = absurd h

  back : (mode : Mode) (place : Place) (token : Token) (ts : List Token) → From (step mode token place) ts → Completes mode place (token ∷ ts)
  unfolding step
  back m.Command place token ts h = started_back place token ts h
  back m.Named place token ts h = named_back place token ts h
  back (m.Colon role name) place token ts h = typed_back place role name token ts h
  back m.First place token ts h = first_back place token ts h
  back m.Listed place token ts h = listed_back place token ts h
  back m.Further place token ts h = further_back place token ts h
  back m.Term place token ts h = begun_back place token ts h
  back (m.Begun name) place token ts h = bound_back place name token ts h
  back (m.Goes term) place token ts h = gone_back place term token ts h
  back (m.Annotated name) place token ts h = annotated_back place name token ts h
  back (m.Annotates name term) place token ts h = annotates_back place name term token ts h

  from_turn : (ts : List Token) → ((mode : Mode) (place : Place) → run mode place ts ≡ Some (whole, rest) → Completes mode place ts) → (o : Option (Turn × Place)) → turned (λ mode place. run mode place ts) ts o ≡ Some (whole, rest) → From o ts
  from_turn ts more None e = absurd (let x : Option (Said × List Token) = None in let f : x ≡ Some (whole, rest) = e in cc)
  from_turn ts more (Some (On mode, place)) e = more mode place e
  from_turn ts more (Some (End other, place)) e = (sym (ap (λ (x : Said × List Token). x.0) (some_is e)), sym (ap (λ (x : Said × List Token). x.1) (some_is e)))

  run_completes : (ts : List Token) (mode : Mode) (place : Place) → run mode place ts ≡ Some (whole, rest) → Completes mode place ts
  unfolding run
  run_completes [] mode place e = absurd (let x : Option (Said × List Token) = None in let f : x ≡ Some (whole, rest) = e in cc)
  run_completes (token ∷ ts) mode place e = back mode place token ts (from_turn ts (run_completes ts) (step mode token place) e)

-- ---- commands

said_constant : {ts : List Token} {name : List ℕ} {next : List Token} {whole : Said} {rest : List Token} → ts ≡ t.Name name ∷ t.Colon ∷ next → Begins whole rest (f.Type r.Constant name ∷ []) outside next → IsCommand ts (command_of whole) rest
said_constant {ts} {name} {next} {whole} {rest} e (type, more, is, (g, w)) =
    rw (e, w) (Constant name next type rest (subst (IsTerm [] [] next type) g is))

said_symbol : {ts : List Token} {name : List ℕ} {next : List Token} {whole : Said} {rest : List Token} → ts ≡ t.Def ∷ t.Name name ∷ t.Colon ∷ next → Begins whole rest (f.Type r.Symbol name ∷ []) outside next → IsCommand ts (command_of whole) rest
said_symbol {ts} {name} {next} {whole} {rest} e (type, more, is, inl (g, w)) =
    rw (e, w) (Declaration name next type rest (subst (IsTerm [] [] next type) g is))
said_symbol {ts} {name} {next} {whole} {rest} e (type, more, is, inr (after, body, g, k, w)) =
    rw (e, w) (Definition name next type after body rest (subst (IsTerm [] [] next type) g is) k)

started_so : {ts : List Token} {whole : Said} {rest : List Token} → Starts whole rest outside ts → IsCommand ts (command_of whole) rest
started_so (inl (name, next, e, h)) = said_constant e h
started_so (inr (inl (name, next, e, h))) = said_symbol e h
started_so {ts} {whole} {rest} (inr (inr (list, e, (names, next, are, (left, more, is, (after, right, g, same, k, w)))))) =
    rw (e, w) (Rule list names next left after right rest are same (subst (IsTerm names [] next left) g is) k)

pub command_sound : (ts : List Token) (whole : Said) (rest : List Token) → run m.Command outside ts ≡ Some (whole, rest) → IsCommand ts (command_of whole) rest
command_sound ts whole rest e = started_so (run_completes whole rest ts m.Command outside e)
