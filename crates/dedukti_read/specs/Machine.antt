-- A command read token by token, over a stack of what began and isn't over. Only private contracts cite this: the laws in
-- proofs/ say that it reads what the grammar says.
use Rattle.std.specs.Prelude.{◌≡◌, ℕ, Bool, List, [], ◌∷◌, ◌++◌, Option, Some, None, Result, Ok, Err, if◌then◌else◌, nat_eq}
use Rattle.std.specs.Cmp.Lexicographic.{pointwise}
use Rattle.dedukti_text.specs.Patterns.{pattern_names}
use Rattle.lp_read.specs.Scopes.{Scope, tail_of}
use Rattle.lp_term.specs.declared.Command.{Command}
use Rattle.lp_term.specs.declared.Command.TheVariants as command
use Rattle.lp_term.specs.declared.Lp.{Lp}
use Rattle.lp_term.specs.declared.Lp.TheVariants as lp
use Rattle.dedukti_read.specs.declared.token.Token.{Token}
use Rattle.dedukti_read.specs.declared.token.Token.TheVariants as t
use Rattle.dedukti_read.specs.declared.state.Role.{Role}
use Rattle.dedukti_read.specs.declared.state.Role.TheVariants as r
use Rattle.dedukti_read.specs.declared.state.Frame.{Frame}
use Rattle.dedukti_read.specs.declared.state.Frame.TheVariants as f
use Rattle.dedukti_read.specs.declared.state.Mode.{Mode}
use Rattle.dedukti_read.specs.declared.state.Mode.TheVariants as m
use Rattle.dedukti_read.specs.declared.state.Said.{Said}
use Rattle.dedukti_read.specs.declared.state.Said.TheVariants as said
use Rattle.dedukti_read.specs.declared.state.Turn.{Turn}
use Rattle.dedukti_read.specs.declared.state.Turn.TheVariants.{On, End}
use Rattle.dedukti_read.specs.declared.state.Place.{Place}
use Rattle.dedukti_read.specs.declared.state.Wrapped.{Wrapped}
use Rattle.dedukti_read.specs.declared.state.Wrapped.TheVariants.{Wider, Stays}
use Rattle.dedukti_read.specs.Scopes.{meaning}

abbrev pub place_of : List Frame → Scope → List (List ℕ) → Place
place_of frames scope patterns = record { frames = frames; scope = scope; patterns = patterns }

-- before a command
abbrev pub outside : Place
outside = place_of [] [] []

abbrev pub with_frame : Frame → Place → Place
with_frame frame place = place_of (frame ∷ place.frames) place.scope place.patterns

-- one binder further in
abbrev pub below : Frame → Option (List ℕ) → Place → Place
below frame name place = place_of (frame ∷ place.frames) (name ∷ place.scope) place.patterns

abbrev pub with_pattern : List ℕ → Place → Place
with_pattern name place = place_of place.frames place.scope (place.patterns ++ name ∷ [])

abbrev pub staying : Place → Option Turn → Option (Turn × Place)
staying place None = None
staying place (Some turn) = Some (turn, place)

abbrev pub means : Place → List ℕ → Lp
means place name = meaning place.patterns place.scope name

-- ---- where a term ends

-- the term that ends where its body does
abbrev pub wrapped : Frame → Lp → Option Lp
wrapped (f.Abstraction domain) body = Some (lp.Lam domain body)
wrapped (f.Product domain) body = Some (lp.Pi domain body)
wrapped frame body = None

-- the widest term that ends here, and what is around it
pub record Ended : Type 0 where
  pub term : Lp
  pub frames : List Frame
  pub scope : Scope

abbrev pub collapsed_or : (Lp → Ended) → Ended → Option Lp → Ended
collapsed_or more here None = here
collapsed_or more here (Some term) = more term

unfoldable pub collapsed : Lp → List Frame → Scope → Ended
collapsed term [] scope = record { term = term; frames = []; scope = scope }
collapsed term (frame ∷ frames) scope = collapsed_or (λ wider. collapsed wider frames (tail_of scope)) (record { term = term; frames = frame ∷ frames; scope = scope }) (wrapped frame term)

-- a term in this frame, before the token
abbrev pub closed : Frame → Lp → Option Turn
closed f.Bracket term = Some (On (m.Goes term))
closed (f.Argument function) term = Some (On (m.Goes (lp.App function term)))
closed (f.Annotation name) term = Some (On (m.Annotates name term))
closed (f.AnnotationArgument name function) term = Some (On (m.Annotates name (lp.App function term)))
closed frame term = None

abbrev pub finished : Frame → Lp → Option Turn
finished (f.Type r.Constant name) term = Some (End (said.Constant name term))
finished (f.Type r.Symbol name) term = Some (End (said.Symbol name term))
finished (f.Definition name type) term = Some (End (said.Define name type term))
finished (f.Right left) term = Some (End (said.Rule left term))
finished frame term = None

abbrev pub defined : Frame → Lp → Place → Option (Turn × Place)
defined (f.Type r.Symbol name) term place = Some (On m.Term, with_frame (f.Definition name term) place)
defined frame term place = None

-- the names are these, in this order
abbrev pub are_same : List (List ℕ) → List (List ℕ) → Bool
are_same names others = pointwise (pointwise nat_eq) names others

abbrev pub rewritten : Frame → Lp → Place → Option (Turn × Place)
rewritten f.Left term place = if are_same place.patterns (pattern_names term) then Some (On m.Term, with_frame (f.Right term) place) else None
rewritten frame term place = None

abbrev pub ended_by : Token → Frame → Lp → Place → Option (Turn × Place)
ended_by t.CloseBracket frame term place = staying place (closed frame term)
ended_by t.Stop frame term place = staying place (finished frame term)
ended_by t.Defined frame term place = defined frame term place
ended_by t.Rewrites frame term place = rewritten frame term place
ended_by token frame term place = None

abbrev pub ended_in : Token → Lp → List Frame → Scope → List (List ℕ) → Option (Turn × Place)
ended_in token term [] scope patterns = None
ended_in token term (frame ∷ frames) scope patterns = ended_by token frame term (place_of frames scope patterns)

abbrev pub ended : Token → List (List ℕ) → Ended → Option (Turn × Place)
ended token patterns here = ended_in token here.term here.frames here.scope patterns

-- ---- one token

abbrev pub gone_on : Lp → Token → Place → Option (Turn × Place)
gone_on term t.Arrow place = Some (On m.Term, below (f.Product term) None place)
gone_on term t.OpenBracket place = Some (On m.Term, with_frame (f.Argument term) place)
gone_on term (t.Name name) place = Some (On (m.Goes (lp.App term (means place name))), place)
gone_on term t.Sort place = Some (On (m.Goes (lp.App term lp.Sort)), place)
gone_on term token place = ended token place.patterns (collapsed term place.frames place.scope)

-- where a term begins
abbrev pub begun : Token → Place → Option (Turn × Place)
begun (t.Name name) place = Some (On (m.Begun name), place)
begun t.Sort place = Some (On (m.Goes lp.Sort), place)
begun t.OpenBracket place = Some (On m.Term, with_frame f.Bracket place)
begun token place = None

-- behind the name that begins a term
abbrev pub bound_or : List ℕ → Token → Place → Option (Turn × Place)
bound_or name t.Colon place = Some (On (m.Annotated name), place)
bound_or name token place = gone_on (means place name) token place

abbrev pub annotated : List ℕ → Token → Place → Option (Turn × Place)
annotated name (t.Name other) place = Some (On (m.Annotates name (means place other)), place)
annotated name t.Sort place = Some (On (m.Annotates name lp.Sort), place)
annotated name t.OpenBracket place = Some (On m.Term, with_frame (f.Annotation name) place)
annotated name token place = None

abbrev pub annotates : List ℕ → Lp → Token → Place → Option (Turn × Place)
annotates name term (t.Name other) place = Some (On (m.Annotates name (lp.App term (means place other))), place)
annotates name term t.Sort place = Some (On (m.Annotates name (lp.App term lp.Sort)), place)
annotates name term t.OpenBracket place = Some (On m.Term, with_frame (f.AnnotationArgument name term) place)
annotates name term t.Maps place = Some (On m.Term, below (f.Abstraction term) (Some name) place)
annotates name term t.Arrow place = Some (On m.Term, below (f.Product term) (Some name) place)
annotates name term token place = None

abbrev pub started : Token → Option Turn
started t.Def = Some (On m.Named)
started (t.Name name) = Some (On (m.Colon r.Constant name))
started t.OpenSquare = Some (On m.First)
started token = None

abbrev pub named : Token → Option Turn
named (t.Name name) = Some (On (m.Colon r.Symbol name))
named token = None

abbrev pub typed : Role → List ℕ → Token → Place → Option (Turn × Place)
typed role name t.Colon place = Some (On m.Term, with_frame (f.Type role name) place)
typed role name token place = None

abbrev pub listed : Token → Place → Option (Turn × Place)
listed t.Comma place = Some (On m.Further, place)
listed t.CloseSquare place = Some (On m.Term, with_frame f.Left place)
listed token place = None

abbrev pub further : Token → Place → Option (Turn × Place)
further (t.Name name) place = Some (On m.Listed, with_pattern name place)
further token place = None

abbrev pub first : Token → Place → Option (Turn × Place)
first t.CloseSquare place = Some (On m.Term, with_frame f.Left place)
first token place = further token place

unfoldable pub step : Mode → Token → Place → Option (Turn × Place)
step m.Command token place = staying place (started token)
step m.Named token place = staying place (named token)
step (m.Colon role name) token place = typed role name token place
step m.First token place = first token place
step m.Listed token place = listed token place
step m.Further token place = further token place
step m.Term token place = begun token place
step (m.Begun name) token place = bound_or name token place
step (m.Goes term) token place = gone_on term token place
step (m.Annotated name) token place = annotated name token place
step (m.Annotates name term) token place = annotates name term token place

-- ---- what code returned is what reading gives, unless memory ran out

abbrev pub GivesTurn : {E : Type 0} → Result (Option Turn) E → Place → Option (Turn × Place) → Type 0
GivesTurn (Ok None) place read = read ≡ None
GivesTurn (Ok (Some turn)) place read = read ≡ Some (turn, place)
GivesTurn (Err e) place read = Unit {0}

abbrev pub IsWrapped : Frame → Lp → Wrapped → Type 0
IsWrapped frame term (Wider wider) = wrapped frame term ≡ Some wider
IsWrapped frame term (Stays same whole) = (wrapped frame term ≡ None) × (same ≡ frame) × (whole ≡ term)

abbrev pub IsWidest : Ended → Place → Option (Frame × Lp) → Type 0
IsWidest here place None = here.frames ≡ []
IsWidest here place (Some (frame, term)) = here ≡ record { term = term; frames = frame ∷ place.frames; scope = place.scope }

-- ---- a command

-- what the turn leads to, and what is left there
abbrev pub turned : {Rest : Type 0} → (Mode → Place → Option (Said × Rest)) → Rest → Option (Turn × Place) → Option (Said × Rest)
turned more rest None = None
turned more rest (Some (On mode, place)) = more mode place
turned more rest (Some (End said, place)) = Some (said, rest)

unfoldable pub run : Mode → Place → List Token → Option (Said × List Token)
run mode place [] = None
run mode place (token ∷ tokens) = turned (λ next there. run next there tokens) tokens (step mode token place)

abbrev pub command_of : Said → Command
command_of (said.Constant name type) = command.Constant name type
command_of (said.Symbol name type) = command.Symbol name type
command_of (said.Define name type body) = command.Define name type body
command_of (said.Rule left right) = command.Rule left right

abbrev pub said_of : Command → Said
said_of (command.Constant name type) = said.Constant name type
said_of (command.Symbol name type) = said.Symbol name type
said_of (command.Define name type body) = said.Define name type body
said_of (command.Rule left right) = said.Rule left right
