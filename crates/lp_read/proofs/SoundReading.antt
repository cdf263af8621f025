-- What is read token by token is what the grammar says.
use Rattle.std.proofs.Common.{◌≡◌, ℕ, Bool, true, false, cond, List, [], ◌∷◌, Option, Some, None, ◌⊎◌, inl, inr, refl, sym, ap, subst, ◌∙◌}
use Rattle.lp_term.specs.declared.Command.{Command}
use Rattle.lp_term.specs.declared.Lp.{Lp}
use Rattle.lp_term.specs.declared.Lp.TheVariants as lp
use Rattle.lp_read.specs.declared.token.Token.{Token}
use Rattle.lp_read.specs.declared.token.Token.TheVariants as t
use Rattle.lp_read.specs.declared.state.Binder.{Binder}
use Rattle.lp_read.specs.declared.state.Binder.TheVariants as b
use Rattle.lp_read.specs.declared.state.Role.{Role}
use Rattle.lp_read.specs.declared.state.Role.TheVariants as r
use Rattle.lp_read.specs.declared.state.Frame.{Frame}
use Rattle.lp_read.specs.declared.state.Frame.TheVariants as f
use Rattle.lp_read.specs.declared.state.Mode.{Mode}
use Rattle.lp_read.specs.declared.state.Mode.TheVariants as m
use Rattle.lp_read.specs.declared.state.Said.{Said}
use Rattle.lp_read.specs.declared.state.Said.TheVariants as said
use Rattle.lp_read.specs.declared.state.Turn.{Turn}
use Rattle.lp_read.specs.declared.state.Turn.TheVariants.{On, End}
use Rattle.lp_read.specs.declared.state.Place.{Place}
use Rattle.lp_read.specs.Grammar.{IsTerm, Abstraction, Product, Let, Applied, Arrow, IsApplication, OneAtom, Argument, IsAtom, Identifier, Pattern, Sort, InBrackets, IsCommand, Constant, Declaration, Definition, Rule}
use Rattle.lp_read.specs.Machine.{Ended, applied, atom_at, begun, collapsed, command_of, ended, ended_by, ended_in, entered, going, gone_on, keyword, named, opened, outside, place_of, run, started, staying, step, turned, typed}
use Rattle.lp_read.specs.Scopes.{Scope, meaning, tail_of}

some_is : {A : Type 0} {x y : A} → Some x ≡ Some y → x ≡ y
some_is e = cc

-- ---- terms that go on

-- an application of the first term goes on to the second
data Extends (patterns : Bool) (scope : Scope) : Lp → List Token → Lp → List Token → Type 0 where
  Whole : (term : Lp) (ts : List Token) → Extends patterns scope term ts term ts
  Further : (term argument : Lp) (ts next : List Token) (wider : Lp) (rest : List Token) → IsAtom patterns scope ts argument next → Extends patterns scope (lp.App term argument) next wider rest → Extends patterns scope term ts wider rest

-- a term that begins with the first one
data Heads (patterns : Bool) (scope : Scope) : Lp → List Token → Lp → List Token → Type 0 where
  AsItIs : (term : Lp) (ts : List Token) (wider : Lp) (rest : List Token) → Extends patterns scope term ts wider rest → Heads patterns scope term ts wider rest
  ToArrow : (term : Lp) (ts : List Token) (domain : Lp) (next : List Token) (body : Lp) (rest : List Token) → Extends patterns scope term ts domain (t.Arrow ∷ next) → IsTerm patterns (None ∷ scope) next body rest → Heads patterns scope term ts (lp.Pi domain body) rest

module _ (patterns : Bool) (scope : Scope) where
  further : {term argument : Lp} {ts next : List Token} {wider : Lp} {rest : List Token} → IsAtom patterns scope ts argument next → Heads patterns scope (lp.App term argument) next wider rest → Heads patterns scope term ts wider rest
  further {term} {argument} {ts} {next} a (AsItIs _ _ wider rest h) = AsItIs term ts wider rest (Further term argument ts next wider rest a h)
  further {term} {argument} {ts} {next} a (ToArrow _ _ domain more body rest h k) = ToArrow term ts domain more body rest (Further term argument ts next domain (t.Arrow ∷ more) a h) k

  extended : {ts : List Token} {term : Lp} {next : List Token} {wider : Lp} {rest : List Token} → IsApplication patterns scope ts term next → Extends patterns scope term next wider rest → IsApplication patterns scope ts wider rest
  extended h (Whole term next) = h
  extended {ts} h (Further term argument next more wider rest a k) = extended (Argument patterns scope ts term next argument more h a) k

  headed : {ts : List Token} {term : Lp} {next : List Token} {wider : Lp} {rest : List Token} → IsApplication patterns scope ts term next → Heads patterns scope term next wider rest → IsTerm patterns scope ts wider rest
  headed {ts} h (AsItIs _ _ wider rest k) = Applied patterns scope ts wider rest (extended h k)
  headed {ts} h (ToArrow _ _ domain next body rest k b) = Arrow patterns scope ts domain next body rest (extended h k) b

  begins : {ts : List Token} {term : Lp} {next : List Token} {wider : Lp} {rest : List Token} → IsAtom patterns scope ts term next → Heads patterns scope term next wider rest → IsTerm patterns scope ts wider rest
  begins {ts} {term} {next} a h = headed (OneAtom patterns scope ts term next a) h

-- ---- what the tokens must be, for a command to end as said before the rest

abbrev bound : Binder → Lp → Lp → Lp
bound b.Abstraction domain body = lp.Lam domain body
bound b.Product domain body = lp.Pi domain body

module _ (patterns : Bool) (whole : Said) (rest : List Token) where
  -- a term in its frames, before the tokens
  abbrev Around : List Frame → Scope → Lp → List Token → Type 0
  Around [] scope term ts = ⊥
  Around (f.Bracket ∷ frames) scope term ts = (next : List Token) × (wider : Lp) × (more : List Token) × (ts ≡ t.CloseBracket ∷ next) × Heads patterns scope term next wider more × Around frames scope wider more
  Around (f.Argument function ∷ frames) scope term ts = (next : List Token) × (wider : Lp) × (more : List Token) × (ts ≡ t.CloseBracket ∷ next) × Heads patterns scope (lp.App function term) next wider more × Around frames scope wider more
  Around (f.Type r.Constant name ∷ frames) scope term ts = (ts ≡ t.Semicolon ∷ rest) × (whole ≡ said.Constant name term)
  Around (f.Type r.Symbol name ∷ frames) scope term ts =
      ((ts ≡ t.Semicolon ∷ rest) × (whole ≡ said.Symbol name term))
      ⊎ ((next : List Token) × (body : Lp) × (ts ≡ t.Defined ∷ next) × IsTerm patterns scope next body (t.Semicolon ∷ rest) × (whole ≡ said.Define name term body))
  Around (f.Type r.Let name ∷ frames) scope term ts =
      (more : List Token) × (value : Lp) × (next : List Token) × (body : Lp) × (last : List Token) × (ts ≡ t.Defined ∷ more) × IsTerm patterns scope more value (t.In ∷ next) × IsTerm patterns (Some name ∷ scope) next body last × Around frames scope (lp.App (lp.Lam term body) value) last
  Around (f.Type (r.Binder binder) name ∷ frames) scope term ts =
      (next : List Token) × (body : Lp) × (last : List Token) × (ts ≡ t.CloseBracket ∷ t.Comma ∷ next) × IsTerm patterns (Some name ∷ scope) next body last × Around frames scope (bound binder term body) last
  Around (f.Value name type ∷ frames) scope term ts =
      (next : List Token) × (body : Lp) × (last : List Token) × (ts ≡ t.In ∷ next) × IsTerm patterns (Some name ∷ scope) next body last × Around frames scope (lp.App (lp.Lam type body) term) last
  Around (f.LetBody type value ∷ frames) scope term ts = Around frames (tail_of scope) (lp.App (lp.Lam type term) value) ts
  Around (f.Abstraction domain ∷ frames) scope term ts = Around frames (tail_of scope) (lp.Lam domain term) ts
  Around (f.Product domain ∷ frames) scope term ts = Around frames (tail_of scope) (lp.Pi domain term) ts
  Around (f.Definition name type ∷ frames) scope term ts = (ts ≡ t.Semicolon ∷ rest) × (whole ≡ said.Define name type term)
  Around (f.Left ∷ frames) scope term ts = (next : List Token) × (right : Lp) × (ts ≡ t.Rewrites ∷ next) × IsTerm patterns scope next right (t.Semicolon ∷ rest) × (whole ≡ said.Rule term right)
  Around (f.Right left ∷ frames) scope term ts = (ts ≡ t.Semicolon ∷ rest) × (whole ≡ said.Rule left term)

module _ (whole : Said) (rest : List Token) where
  -- a term begins here, in these frames
  abbrev Begins : List Frame → Place → List Token → Type 0
  Begins frames place ts = (term : Lp) × (more : List Token) × IsTerm place.patterns place.scope ts term more × Around place.patterns whole rest frames place.scope term more

  -- a command begins here
  abbrev Starts : Place → List Token → Type 0
  Starts place ts =
      ((name : List ℕ) × (next : List Token) × (ts ≡ t.Constant ∷ t.Symbol ∷ t.Name name ∷ t.Colon ∷ next) × Begins (f.Type r.Constant name ∷ place.frames) place next)
      ⊎ ((name : List ℕ) × (next : List Token) × (ts ≡ t.Symbol ∷ t.Name name ∷ t.Colon ∷ next) × Begins (f.Type r.Symbol name ∷ place.frames) place next)
      ⊎ ((next : List Token) × (ts ≡ t.Rule ∷ next) × (left : Lp) × (more : List Token) × IsTerm true place.scope next left more × Around true whole rest (f.Left ∷ place.frames) place.scope left more)

  -- what the tokens must be from here on
  abbrev Completes : Mode → Place → List Token → Type 0
  Completes m.Command place ts = Starts place ts
  Completes m.Keyword place ts = (name : List ℕ) × (next : List Token) × (ts ≡ t.Symbol ∷ t.Name name ∷ t.Colon ∷ next) × Begins (f.Type r.Constant name ∷ place.frames) place next
  Completes (m.Open binder) place ts = (name : List ℕ) × (next : List Token) × (ts ≡ t.OpenBracket ∷ t.Name name ∷ t.Colon ∷ next) × Begins (f.Type (r.Binder binder) name ∷ place.frames) place next
  Completes (m.Named role) place ts = (name : List ℕ) × (next : List Token) × (ts ≡ t.Name name ∷ t.Colon ∷ next) × Begins (f.Type role name ∷ place.frames) place next
  Completes (m.Colon role name) place ts = (next : List Token) × (ts ≡ t.Colon ∷ next) × Begins (f.Type role name ∷ place.frames) place next
  Completes (m.Comma binder name domain) place ts =
      (next : List Token) × (body : Lp) × (last : List Token) × (ts ≡ t.Comma ∷ next) × IsTerm place.patterns (Some name ∷ place.scope) next body last × Around place.patterns whole rest place.frames place.scope (bound binder domain body) last
  Completes m.Term place ts = Begins place.frames place ts
  Completes (m.Goes term) place ts = (wider : Lp) × (more : List Token) × Heads place.patterns place.scope term ts wider more × Around place.patterns whole rest place.frames place.scope wider more

  abbrev From : Option (Turn × Place) → List Token → Type 0
  From None ts = ⊥
  From (Some (On mode, place)) ts = Completes mode place ts
  From (Some (End other, place)) ts = (whole ≡ other) × (rest ≡ ts)

  -- ---- where a term ends

  around_close : (patterns : Bool) (frames : List Frame) (scope : Scope) (term : Lp) (ts : List Token) → From (ended t.CloseBracket patterns (collapsed term frames scope)) ts → Around patterns whole rest frames scope term (t.CloseBracket ∷ ts)
  unfolding collapsed
  around_close patterns [] scope term ts h = h
  around_close patterns (f.Abstraction domain ∷ frames) scope term ts h = around_close patterns frames (tail_of scope) (lp.Lam domain term) ts h
  around_close patterns (f.Product domain ∷ frames) scope term ts h = around_close patterns frames (tail_of scope) (lp.Pi domain term) ts h
  around_close patterns (f.LetBody type value ∷ frames) scope term ts h = around_close patterns frames (tail_of scope) (lp.App (lp.Lam type term) value) ts h
  around_close patterns (f.Bracket ∷ frames) scope term ts h = (ts, h.0, h.1, refl, h.2, h.3)
  around_close patterns (f.Argument function ∷ frames) scope term ts h = (ts, h.0, h.1, refl, h.2, h.3)
  around_close patterns (f.Type (r.Binder binder) name ∷ frames) scope term ts h = (h.0, h.1, h.2, ap (λ (x : List Token). t.CloseBracket ∷ x) h.3, h.4, h.5)
  around_close patterns (_ ∷ frames) scope term ts h = absurd h

  around_semicolon : (patterns : Bool) (frames : List Frame) (scope : Scope) (term : Lp) (ts : List Token) → From (ended t.Semicolon patterns (collapsed term frames scope)) ts → Around patterns whole rest frames scope term (t.Semicolon ∷ ts)
  unfolding collapsed
  around_semicolon patterns [] scope term ts h = h
  around_semicolon patterns (f.Abstraction domain ∷ frames) scope term ts h = around_semicolon patterns frames (tail_of scope) (lp.Lam domain term) ts h
  around_semicolon patterns (f.Product domain ∷ frames) scope term ts h = around_semicolon patterns frames (tail_of scope) (lp.Pi domain term) ts h
  around_semicolon patterns (f.LetBody type value ∷ frames) scope term ts h = around_semicolon patterns frames (tail_of scope) (lp.App (lp.Lam type term) value) ts h
  around_semicolon patterns (f.Type r.Constant name ∷ frames) scope term ts h = (ap (λ (x : List Token). t.Semicolon ∷ x) (sym h.1), h.0)
  around_semicolon patterns (f.Type r.Symbol name ∷ frames) scope term ts h = inl (ap (λ (x : List Token). t.Semicolon ∷ x) (sym h.1), h.0)
  around_semicolon patterns (f.Definition name type ∷ frames) scope term ts h = (ap (λ (x : List Token). t.Semicolon ∷ x) (sym h.1), h.0)
  around_semicolon patterns (f.Right left ∷ frames) scope term ts h = (ap (λ (x : List Token). t.Semicolon ∷ x) (sym h.1), h.0)
  around_semicolon patterns (_ ∷ frames) scope term ts h = absurd h

  -- what ends a definition's body and a rule's right side
  last_semicolon : {patterns : Bool} {scope : Scope} {ts : List Token} {term : Lp} {more : List Token} → IsTerm patterns scope ts term more → more ≡ t.Semicolon ∷ rest → IsTerm patterns scope ts term (t.Semicolon ∷ rest)
  last_semicolon {patterns} {scope} {ts} {term} h e = subst (IsTerm patterns scope ts term) e h

  around_defined : (patterns : Bool) (frames : List Frame) (scope : Scope) (term : Lp) (ts : List Token) → From (ended t.Defined patterns (collapsed term frames scope)) ts → Around patterns whole rest frames scope term (t.Defined ∷ ts)
  unfolding collapsed
  around_defined patterns [] scope term ts h = h
  around_defined patterns (f.Abstraction domain ∷ frames) scope term ts h = around_defined patterns frames (tail_of scope) (lp.Lam domain term) ts h
  around_defined patterns (f.Product domain ∷ frames) scope term ts h = around_defined patterns frames (tail_of scope) (lp.Pi domain term) ts h
  around_defined patterns (f.LetBody type value ∷ frames) scope term ts h = around_defined patterns frames (tail_of scope) (lp.App (lp.Lam type term) value) ts h
  around_defined patterns (f.Type r.Let name ∷ frames) scope term ts (value, more, is, (next, body, last, e, k, around)) =
      (ts, value, next, body, last, refl, subst (IsTerm patterns scope ts value) e is, k, around)
  around_defined patterns (f.Type r.Symbol name ∷ frames) scope term ts (body, more, is, (e, w)) = inr (ts, body, refl, last_semicolon is e, w)
  around_defined patterns (_ ∷ frames) scope term ts h = absurd h

  around_in : (patterns : Bool) (frames : List Frame) (scope : Scope) (term : Lp) (ts : List Token) → From (ended t.In patterns (collapsed term frames scope)) ts → Around patterns whole rest frames scope term (t.In ∷ ts)
  unfolding collapsed
  around_in patterns [] scope term ts h = h
  around_in patterns (f.Abstraction domain ∷ frames) scope term ts h = around_in patterns frames (tail_of scope) (lp.Lam domain term) ts h
  around_in patterns (f.Product domain ∷ frames) scope term ts h = around_in patterns frames (tail_of scope) (lp.Pi domain term) ts h
  around_in patterns (f.LetBody type value ∷ frames) scope term ts h = around_in patterns frames (tail_of scope) (lp.App (lp.Lam type term) value) ts h
  around_in patterns (f.Value name type ∷ frames) scope term ts h = (ts, h.0, h.1, refl, h.2, h.3)
  around_in patterns (_ ∷ frames) scope term ts h = absurd h

  around_rewrites : (patterns : Bool) (frames : List Frame) (scope : Scope) (term : Lp) (ts : List Token) → From (ended t.Rewrites patterns (collapsed term frames scope)) ts → Around patterns whole rest frames scope term (t.Rewrites ∷ ts)
  unfolding collapsed
  around_rewrites patterns [] scope term ts h = h
  around_rewrites patterns (f.Abstraction domain ∷ frames) scope term ts h = around_rewrites patterns frames (tail_of scope) (lp.Lam domain term) ts h
  around_rewrites patterns (f.Product domain ∷ frames) scope term ts h = around_rewrites patterns frames (tail_of scope) (lp.Pi domain term) ts h
  around_rewrites patterns (f.LetBody type value ∷ frames) scope term ts h = around_rewrites patterns frames (tail_of scope) (lp.App (lp.Lam type term) value) ts h
  around_rewrites patterns (f.Left ∷ frames) scope term ts (right, more, is, (e, w)) = (ts, right, refl, last_semicolon is e, w)
  around_rewrites patterns (_ ∷ frames) scope term ts h = absurd h

  -- no other token ends a term
  never_ended : (token : Token) (patterns : Bool) (term : Lp) (frames : List Frame) (scope : Scope) → ((frame : Frame) (one : Lp) (place : Place) → ended_by token frame one place ≡ None) → ended_in token term frames scope patterns ≡ None
  never_ended token patterns term [] scope none = refl
  never_ended token patterns term (frame ∷ frames) scope none = none frame term (place_of frames scope patterns)

  never : {A : Type 0} (token : Token) (patterns : Bool) (here : Ended) (ts : List Token) → ((frame : Frame) (one : Lp) (place : Place) → ended_by token frame one place ≡ None) → From (ended token patterns here) ts → A
  never token patterns here ts none h = absurd (subst (λ (o : Option (Turn × Place)). From o ts) (never_ended token patterns here.term here.frames here.scope none) h)

  -- ---- one token

  pattern_applied : (name : List ℕ) (term : Lp) (place : Place) (allowed : Bool) (ts : List Token) → From (applied term place (cond allowed (Some (lp.Pat name)) None)) ts
      → IsAtom allowed place.scope (t.Pattern name ∷ ts) (lp.Pat name) ts × Completes (m.Goes (lp.App term (lp.Pat name))) place ts
  pattern_applied name term place true ts h = (Pattern place.scope name ts, h)
  pattern_applied name term place false ts h = absurd h

  pattern_begins : (name : List ℕ) (place : Place) (allowed : Bool) (ts : List Token) → From (going place (cond allowed (Some (lp.Pat name)) None)) ts
      → IsAtom allowed place.scope (t.Pattern name ∷ ts) (lp.Pat name) ts × Completes (m.Goes (lp.Pat name)) place ts
  pattern_begins name place true ts h = (Pattern place.scope name ts, h)
  pattern_begins name place false ts h = absurd h

  atom_goes : (place : Place) {token : Token} {term argument : Lp} {ts : List Token} → IsAtom place.patterns place.scope (token ∷ ts) argument ts → Completes (m.Goes (lp.App term argument)) place ts → Completes (m.Goes term) place (token ∷ ts)
  atom_goes place a h = (h.0, h.1, further place.patterns place.scope a h.2, h.3)

  atom_begins : (place : Place) {token : Token} {argument : Lp} {ts : List Token} → IsAtom place.patterns place.scope (token ∷ ts) argument ts → Completes (m.Goes argument) place ts → Completes m.Term place (token ∷ ts)
  atom_begins place a h = (h.0, h.1, begins place.patterns place.scope a h.2, h.3)

  ends_here : (place : Place) {token : Token} {term : Lp} {ts : List Token} → Around place.patterns whole rest place.frames place.scope term (token ∷ ts) → Completes (m.Goes term) place (token ∷ ts)
  ends_here place {token} {term} {ts} h = (term, token ∷ ts, AsItIs term (token ∷ ts) term (token ∷ ts) (Whole term (token ∷ ts)), h)

  begun_back : (place : Place) (token : Token) (ts : List Token) → From (begun token place) ts → Completes m.Term place (token ∷ ts)
  begun_back place t.Lambda ts (name, next, e, (domain, more, d, (inner, body, last, g, k, around))) = (
    lp.Lam domain body,
    last,
    subst (λ (x : List Token). IsTerm place.patterns place.scope (t.Lambda ∷ x) (lp.Lam domain body) last) (sym e)
        (Abstraction place.patterns place.scope name next domain inner body last (subst (IsTerm place.patterns place.scope next domain) g d) k),
    around,
  )
  begun_back place t.Product ts (name, next, e, (domain, more, d, (inner, body, last, g, k, around))) = (
    lp.Pi domain body,
    last,
    subst (λ (x : List Token). IsTerm place.patterns place.scope (t.Product ∷ x) (lp.Pi domain body) last) (sym e)
        (Product place.patterns place.scope name next domain inner body last (subst (IsTerm place.patterns place.scope next domain) g d) k),
    around,
  )
  begun_back place t.Let ts (name, next, e, (type, more, d, (inner, value, after, body, last, g, v, k, around))) = (
    lp.App (lp.Lam type body) value,
    last,
    subst (λ (x : List Token). IsTerm place.patterns place.scope (t.Let ∷ x) (lp.App (lp.Lam type body) value) last) (sym e)
        (Let place.patterns place.scope name next type inner value after body last (subst (IsTerm place.patterns place.scope next type) g d) v k),
    around,
  )
  begun_back place t.OpenBracket ts (term, more, is, (next, wider, last, e, h, around)) = (
    wider,
    last,
    begins place.patterns place.scope (InBrackets place.patterns place.scope ts term next (subst (IsTerm place.patterns place.scope ts term) e is)) h,
    around,
  )
  begun_back place (t.Name name) ts h = atom_begins place (Identifier place.patterns place.scope name ts) h
  begun_back place (t.Pattern name) ts h = let p = pattern_begins name place place.patterns ts h in atom_begins place p.0 p.1
  begun_back place t.Sort ts h = atom_begins place (Sort place.patterns place.scope ts) h
  begun_back place _ ts h = absurd h

  gone_back : (place : Place) (term : Lp) (token : Token) (ts : List Token) → From (gone_on term token place) ts → Completes (m.Goes term) place (token ∷ ts)
  gone_back place term t.Arrow ts (body, more, is, around) = (
    lp.Pi term body,
    more,
    ToArrow term (t.Arrow ∷ ts) term ts body more (Whole term (t.Arrow ∷ ts)) is,
    around,
  )
  gone_back place term t.OpenBracket ts (argument, more, is, (next, wider, last, e, h, around)) = (
    wider,
    last,
    further place.patterns place.scope (InBrackets place.patterns place.scope ts argument next (subst (IsTerm place.patterns place.scope ts argument) e is)) h,
    around,
  )
  gone_back place term (t.Name name) ts h = atom_goes place (Identifier place.patterns place.scope name ts) h
  gone_back place term (t.Pattern name) ts h = let p = pattern_applied name term place place.patterns ts h in atom_goes place p.0 p.1
  gone_back place term t.Sort ts h = atom_goes place (Sort place.patterns place.scope ts) h
  gone_back place term t.CloseBracket ts h = ends_here place (around_close place.patterns place.frames place.scope term ts h)
  gone_back place term t.Semicolon ts h = ends_here place (around_semicolon place.patterns place.frames place.scope term ts h)
  gone_back place term t.Defined ts h = ends_here place (around_defined place.patterns place.frames place.scope term ts h)
  gone_back place term t.In ts h = ends_here place (around_in place.patterns place.frames place.scope term ts h)
  gone_back place term t.Rewrites ts h = ends_here place (around_rewrites place.patterns place.frames place.scope term ts h)
  gone_back place term t.Constant ts h = never t.Constant place.patterns (collapsed term place.frames place.scope) ts (λ frame one there. refl) h
  gone_back place term t.Symbol ts h = never t.Symbol place.patterns (collapsed term place.frames place.scope) ts (λ frame one there. refl) h
  gone_back place term t.Rule ts h = never t.Rule place.patterns (collapsed term place.frames place.scope) ts (λ frame one there. refl) h
  gone_back place term t.Let ts h = never t.Let place.patterns (collapsed term place.frames place.scope) ts (λ frame one there. refl) h
  gone_back place term t.Colon ts h = never t.Colon place.patterns (collapsed term place.frames place.scope) ts (λ frame one there. refl) h
  gone_back place term t.Comma ts h = never t.Comma place.patterns (collapsed term place.frames place.scope) ts (λ frame one there. refl) h
  gone_back place term t.Lambda ts h = never t.Lambda place.patterns (collapsed term place.frames place.scope) ts (λ frame one there. refl) h
  gone_back place term t.Product ts h = never t.Product place.patterns (collapsed term place.frames place.scope) ts (λ frame one there. refl) h

  keyword_back : (place : Place) (token : Token) (ts : List Token) → From (staying place (keyword token)) ts → Completes m.Keyword place (token ∷ ts)
  keyword_back place t.Symbol ts (name, next, e, h) = (name, next, ap (λ (x : List Token). t.Symbol ∷ x) e, h)
  keyword_back place _ ts h = absurd h

  opened_back : (place : Place) (binder : Binder) (token : Token) (ts : List Token) → From (staying place (opened binder token)) ts → Completes (m.Open binder) place (token ∷ ts)
  opened_back place binder t.OpenBracket ts (name, next, e, h) = (name, next, ap (λ (x : List Token). t.OpenBracket ∷ x) e, h)
  opened_back place binder _ ts h = absurd h

  named_back : (place : Place) (role : Role) (token : Token) (ts : List Token) → From (staying place (named role token)) ts → Completes (m.Named role) place (token ∷ ts)
  named_back place role (t.Name name) ts (next, e, h) = (name, next, ap (λ (x : List Token). t.Name name ∷ x) e, h)
  named_back place role _ ts h = absurd h

  typed_back : (place : Place) (role : Role) (name : List ℕ) (token : Token) (ts : List Token) → From (typed role name token place) ts → Completes (m.Colon role name) place (token ∷ ts)
  typed_back place role name t.Colon ts h = (ts, refl, h)
  typed_back place role name _ ts h = absurd h

  entered_back : (place : Place) (binder : Binder) (name : List ℕ) (domain : Lp) (token : Token) (ts : List Token) → From (entered binder name domain token place) ts → Completes (m.Comma binder name domain) place (token ∷ ts)
  entered_back place b.Abstraction name domain t.Comma ts (body, last, is, around) = (ts, body, last, refl, is, around)
  entered_back place b.Product name domain t.Comma ts (body, last, is, around) = (ts, body, last, refl, is, around)
  entered_back place binder name domain _ ts h = absurd h

  started_back : (place : Place) (token : Token) (ts : List Token) → From (started token place) ts → Completes m.Command place (token ∷ ts)
  started_back place t.Constant ts (name, next, e, h) = inl (name, next, ap (λ (x : List Token). t.Constant ∷ x) e, h)
  started_back place t.Symbol ts (name, next, e, h) = inr (inl (name, next, ap (λ (x : List Token). t.Symbol ∷ x) e, h))
  started_back place t.Rule ts (left, more, is, around) = inr (inr (ts, refl, left, more, is, around))
  started_back place _ ts h = absurd h

  back : (mode : Mode) (place : Place) (token : Token) (ts : List Token) → From (step mode token place) ts → Completes mode place (token ∷ ts)
  unfolding step
  back m.Command place token ts h = started_back place token ts h
  back m.Keyword place token ts h = keyword_back place token ts h
  back (m.Open binder) place token ts h = opened_back place binder token ts h
  back (m.Named role) place token ts h = named_back place role token ts h
  back (m.Colon role name) place token ts h = typed_back place role name token ts h
  back (m.Comma binder name domain) place token ts h = entered_back place binder name domain token ts h
  back m.Term place token ts h = begun_back place token ts h
  back (m.Goes term) place token ts h = gone_back place term token ts h

  from_turn : (ts : List Token) → ((mode : Mode) (place : Place) → run mode place ts ≡ Some (whole, rest) → Completes mode place ts) → (o : Option (Turn × Place)) → turned (λ mode place. run mode place ts) ts o ≡ Some (whole, rest) → From o ts
  from_turn ts more None e = absurd (let x : Option (Said × List Token) = None in let f : x ≡ Some (whole, rest) = e in cc)
  from_turn ts more (Some (On mode, place)) e = more mode place e
  from_turn ts more (Some (End other, place)) e = (sym (ap (λ (x : Said × List Token). x.0) (some_is e)), sym (ap (λ (x : Said × List Token). x.1) (some_is e)))

  run_completes : (ts : List Token) (mode : Mode) (place : Place) → run mode place ts ≡ Some (whole, rest) → Completes mode place ts
  unfolding run
  run_completes [] mode place e = absurd (let x : Option (Said × List Token) = None in let f : x ≡ Some (whole, rest) = e in cc)
  run_completes (token ∷ ts) mode place e = back mode place token ts (from_turn ts (run_completes ts) (step mode token place) e)

-- ---- commands

said_constant : {ts : List Token} {name : List ℕ} {next : List Token} {whole : Said} {rest : List Token} → ts ≡ t.Constant ∷ t.Symbol ∷ t.Name name ∷ t.Colon ∷ next → Begins whole rest (f.Type r.Constant name ∷ []) outside next → IsCommand ts (command_of whole) rest
said_constant {ts} {name} {next} {whole} {rest} e (type, more, is, (g, w)) =
    rw (e, w) (Constant name next type rest (subst (IsTerm false [] next type) g is))

said_symbol : {ts : List Token} {name : List ℕ} {next : List Token} {whole : Said} {rest : List Token} → ts ≡ t.Symbol ∷ t.Name name ∷ t.Colon ∷ next → Begins whole rest (f.Type r.Symbol name ∷ []) outside next → IsCommand ts (command_of whole) rest
said_symbol {ts} {name} {next} {whole} {rest} e (type, more, is, inl (g, w)) =
    rw (e, w) (Declaration name next type rest (subst (IsTerm false [] next type) g is))
said_symbol {ts} {name} {next} {whole} {rest} e (type, more, is, inr (after, body, g, k, w)) =
    rw (e, w) (Definition name next type after body rest (subst (IsTerm false [] next type) g is) k)

started_so : {ts : List Token} {whole : Said} {rest : List Token} → Starts whole rest outside ts → IsCommand ts (command_of whole) rest
started_so (inl (name, next, e, h)) = said_constant e h
started_so (inr (inl (name, next, e, h))) = said_symbol e h
started_so {ts} {whole} {rest} (inr (inr (next, e, left, more, is, (after, right, g, k, w)))) =
    rw (e, w) (Rule next left after right rest (subst (IsTerm true [] next left) g is) k)

pub command_sound : (ts : List Token) (whole : Said) (rest : List Token) → run m.Command outside ts ≡ Some (whole, rest) → IsCommand ts (command_of whole) rest
command_sound ts whole rest e = started_so (run_completes whole rest ts m.Command outside e)
