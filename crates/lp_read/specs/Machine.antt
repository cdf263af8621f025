-- A command read token by token, over a stack of what began and isn't over. Only private contracts cite this: the laws in
-- proofs/ say that it reads what the grammar says.
use Rattle.std.specs.Prelude.{◌≡◌, ℕ, Bool, true, false, List, [], ◌∷◌, Option, Some, None, Result, Ok, Err, if◌then◌else◌}
use Rattle.lp_term.specs.declared.Command.{Command}
use Rattle.lp_term.specs.declared.Command.TheVariants as command
use Rattle.lp_term.specs.declared.Lp.{Lp}
use Rattle.lp_term.specs.declared.Lp.TheVariants as lp
use Rattle.lp_read.specs.declared.token.Token.{Token}
use Rattle.lp_read.specs.declared.token.Token.TheVariants as t
use Rattle.lp_read.specs.declared.state.Binder.{Binder}
use Rattle.lp_read.specs.declared.state.Binder.TheVariants as b
use Rattle.lp_read.specs.declared.state.Role.{Role}
use Rattle.lp_read.specs.declared.state.Role.TheVariants as r
use Rattle.lp_read.specs.declared.state.Frame.{Frame}
use Rattle.lp_read.specs.declared.state.Frame.TheVariants as f
use Rattle.lp_read.specs.declared.state.Mode.{Mode}
use Rattle.lp_read.specs.declared.state.Mode.TheVariants as m
use Rattle.lp_read.specs.declared.state.Said.{Said}
use Rattle.lp_read.specs.declared.state.Said.TheVariants as said
use Rattle.lp_read.specs.declared.state.Turn.{Turn}
use Rattle.lp_read.specs.declared.state.Turn.TheVariants.{On, End}
use Rattle.lp_read.specs.declared.state.Place.{Place}
use Rattle.lp_read.specs.declared.state.Wrapped.{Wrapped}
use Rattle.lp_read.specs.declared.state.Wrapped.TheVariants.{Wider, Stays}
use Rattle.lp_read.specs.Scopes.{Scope, meaning, tail_of}

abbrev pub place_of : List Frame → Scope → Bool → Place
place_of frames scope patterns = record { frames = frames; scope = scope; patterns = patterns }

-- before a command
abbrev pub outside : Place
outside = place_of [] [] false

abbrev pub with_frame : Frame → Place → Place
with_frame frame place = place_of (frame ∷ place.frames) place.scope place.patterns

-- one binder further in
abbrev pub below : Frame → Option (List ℕ) → Place → Place
below frame name place = place_of (frame ∷ place.frames) (name ∷ place.scope) place.patterns

abbrev pub staying : Place → Option Turn → Option (Turn × Place)
staying place None = None
staying place (Some turn) = Some (turn, place)

abbrev pub going : Place → Option Lp → Option (Turn × Place)
going place None = None
going place (Some term) = Some (On (m.Goes term), place)

-- ---- where a term begins

abbrev pub atom_at : Token → Place → Option Lp
atom_at (t.Name name) place = Some (meaning place.scope name)
atom_at (t.Pattern name) place = if place.patterns then Some (lp.Pat name) else None
atom_at t.Sort place = Some lp.Sort
atom_at token place = None

abbrev pub begun : Token → Place → Option (Turn × Place)
begun t.Lambda place = Some (On (m.Open b.Abstraction), place)
begun t.Product place = Some (On (m.Open b.Product), place)
begun t.Let place = Some (On (m.Named r.Let), place)
begun t.OpenBracket place = Some (On m.Term, with_frame f.Bracket place)
begun token place = going place (atom_at token place)

-- ---- where a term ends

-- the term that ends where its body does
abbrev pub wrapped : Frame → Lp → Option Lp
wrapped (f.Abstraction domain) body = Some (lp.Lam domain body)
wrapped (f.Product domain) body = Some (lp.Pi domain body)
wrapped (f.LetBody type value) body = Some (lp.App (lp.Lam type body) value)
wrapped frame body = None

-- the widest term that ends here, and what is around it
pub record Ended : Type 0 where
  pub term : Lp
  pub frames : List Frame
  pub scope : Scope

abbrev pub collapsed_or : (Lp → Ended) → Ended → Option Lp → Ended
collapsed_or more here None = here
collapsed_or more here (Some term) = more term

unfoldable pub collapsed : Lp → List Frame → Scope → Ended
collapsed term [] scope = record { term = term; frames = []; scope = scope }
collapsed term (frame ∷ frames) scope = collapsed_or (λ wider. collapsed wider frames (tail_of scope)) (record { term = term; frames = frame ∷ frames; scope = scope }) (wrapped frame term)

-- a term in this frame, before the token
abbrev pub closed : Frame → Lp → Option Turn
closed f.Bracket term = Some (On (m.Goes term))
closed (f.Argument function) term = Some (On (m.Goes (lp.App function term)))
closed (f.Type (r.Binder binder) name) term = Some (On (m.Comma binder name term))
closed frame term = None

abbrev pub finished : Frame → Lp → Option Turn
finished (f.Type r.Constant name) term = Some (End (said.Constant name term))
finished (f.Type r.Symbol name) term = Some (End (said.Symbol name term))
finished (f.Definition name type) term = Some (End (said.Define name type term))
finished (f.Right left) term = Some (End (said.Rule left term))
finished frame term = None

abbrev pub defined : Frame → Lp → Place → Option (Turn × Place)
defined (f.Type r.Let name) term place = Some (On m.Term, with_frame (f.Value name term) place)
defined (f.Type r.Symbol name) term place = Some (On m.Term, with_frame (f.Definition name term) place)
defined frame term place = None

abbrev pub valued : Frame → Lp → Place → Option (Turn × Place)
valued (f.Value name type) term place = Some (On m.Term, below (f.LetBody type term) (Some name) place)
valued frame term place = None

abbrev pub rewritten : Frame → Lp → Place → Option (Turn × Place)
rewritten f.Left term place = Some (On m.Term, with_frame (f.Right term) place)
rewritten frame term place = None

abbrev pub ended_by : Token → Frame → Lp → Place → Option (Turn × Place)
ended_by t.CloseBracket frame term place = staying place (closed frame term)
ended_by t.Semicolon frame term place = staying place (finished frame term)
ended_by t.Defined frame term place = defined frame term place
ended_by t.In frame term place = valued frame term place
ended_by t.Rewrites frame term place = rewritten frame term place
ended_by token frame term place = None

abbrev pub ended_in : Token → Lp → List Frame → Scope → Bool → Option (Turn × Place)
ended_in token term [] scope patterns = None
ended_in token term (frame ∷ frames) scope patterns = ended_by token frame term (place_of frames scope patterns)

abbrev pub ended : Token → Bool → Ended → Option (Turn × Place)
ended token patterns here = ended_in token here.term here.frames here.scope patterns

-- ---- one token

abbrev pub applied : Lp → Place → Option Lp → Option (Turn × Place)
applied function place None = None
applied function place (Some argument) = Some (On (m.Goes (lp.App function argument)), place)

abbrev pub gone_on : Lp → Token → Place → Option (Turn × Place)
gone_on term t.Arrow place = Some (On m.Term, below (f.Product term) None place)
gone_on term t.OpenBracket place = Some (On m.Term, with_frame (f.Argument term) place)
gone_on term (t.Name name) place = applied term place (atom_at (t.Name name) place)
gone_on term (t.Pattern name) place = applied term place (atom_at (t.Pattern name) place)
gone_on term t.Sort place = applied term place (atom_at t.Sort place)
gone_on term token place = ended token place.patterns (collapsed term place.frames place.scope)

abbrev pub started : Token → Place → Option (Turn × Place)
started t.Constant place = Some (On m.Keyword, place)
started t.Symbol place = Some (On (m.Named r.Symbol), place)
started t.Rule place = Some (On m.Term, place_of (f.Left ∷ place.frames) place.scope true)
started token place = None

abbrev pub keyword : Token → Option Turn
keyword t.Symbol = Some (On (m.Named r.Constant))
keyword token = None

abbrev pub opened : Binder → Token → Option Turn
opened binder t.OpenBracket = Some (On (m.Named (r.Binder binder)))
opened binder token = None

abbrev pub named : Role → Token → Option Turn
named role (t.Name name) = Some (On (m.Colon role name))
named role token = None

abbrev pub typed : Role → List ℕ → Token → Place → Option (Turn × Place)
typed role name t.Colon place = Some (On m.Term, with_frame (f.Type role name) place)
typed role name token place = None

abbrev pub body_frame : Binder → Lp → Frame
body_frame b.Abstraction domain = f.Abstraction domain
body_frame b.Product domain = f.Product domain

abbrev pub entered : Binder → List ℕ → Lp → Token → Place → Option (Turn × Place)
entered binder name domain t.Comma place = Some (On m.Term, below (body_frame binder domain) (Some name) place)
entered binder name domain token place = None

unfoldable pub step : Mode → Token → Place → Option (Turn × Place)
step m.Command token place = started token place
step m.Keyword token place = staying place (keyword token)
step (m.Open binder) token place = staying place (opened binder token)
step (m.Named role) token place = staying place (named role token)
step (m.Colon role name) token place = typed role name token place
step (m.Comma binder name domain) token place = entered binder name domain token place
step m.Term token place = begun token place
step (m.Goes term) token place = gone_on term token place

-- ---- what code returned is what reading gives, unless memory ran out

abbrev pub GivesTurn : {E : Type 0} → Result (Option Turn) E → Place → Option (Turn × Place) → Type 0
GivesTurn (Ok None) place read = read ≡ None
GivesTurn (Ok (Some turn)) place read = read ≡ Some (turn, place)
GivesTurn (Err e) place read = Unit {0}

abbrev pub IsWrapped : Frame → Lp → Wrapped → Type 0
IsWrapped frame term (Wider wider) = wrapped frame term ≡ Some wider
IsWrapped frame term (Stays same whole) = (wrapped frame term ≡ None) × (same ≡ frame) × (whole ≡ term)

abbrev pub IsWidest : Ended → Place → Option (Frame × Lp) → Type 0
IsWidest here place None = here.frames ≡ []
IsWidest here place (Some (frame, term)) = here ≡ record { term = term; frames = frame ∷ place.frames; scope = place.scope }

-- ---- a command

-- what the turn leads to, and what is left there
abbrev pub turned : {Rest : Type 0} → (Mode → Place → Option (Said × Rest)) → Rest → Option (Turn × Place) → Option (Said × Rest)
turned more rest None = None
turned more rest (Some (On mode, place)) = more mode place
turned more rest (Some (End said, place)) = Some (said, rest)

unfoldable pub run : Mode → Place → List Token → Option (Said × List Token)
run mode place [] = None
run mode place (token ∷ tokens) = turned (λ next there. run next there tokens) tokens (step mode token place)

abbrev pub command_of : Said → Command
command_of (said.Constant name type) = command.Constant name type
command_of (said.Symbol name type) = command.Symbol name type
command_of (said.Define name type body) = command.Define name type body
command_of (said.Rule left right) = command.Rule left right

abbrev pub said_of : Command → Said
said_of (command.Constant name type) = said.Constant name type
said_of (command.Symbol name type) = said.Symbol name type
said_of (command.Define name type body) = said.Define name type body
said_of (command.Rule left right) = said.Rule left right
