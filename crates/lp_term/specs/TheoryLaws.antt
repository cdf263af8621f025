-- What holds of the theory: its rules are the printed ones, typing keeps under substitution and weakening, and the
-- program's substitution and translation are those of the theory.
use Rattle.std.specs.Prelude.{◌≡◌, ℕ, List, ◌∷◌, length}
use Rattle.dk_syntax.specs.WellFormed.{IsClosed}
use Rattle.dk_syntax.specs.declared.Formula.{Formula}
use Rattle.lp_term.specs.LambdaPi.{Term, instantiate, rename, shift, substitute}
use Rattle.lp_term.specs.Conversion.{Convertible, Rewrites}
use Rattle.lp_term.specs.Typing.{Declaration, HasType}
use Rattle.lp_term.specs.Signature.{Extends, IsInstanceIn}
use Rattle.lp_term.specs.Scope.{Declared, VariablesBelow}
use Rattle.lp_term.specs.Prelude.{prelude}
use Rattle.lp_term.specs.Substitution.{lifted, raised, substituted}
use Rattle.lp_term.specs.Translation.{translated}
use Rattle.lp_term.specs.View.{term_of}
use Rattle.lp_term.specs.declared.lp.Lp.{Lp}

-- the nine rules of conversion are those of the prelude's commands, with any terms for their pattern variables
abbrev pub RulesAreOfPrelude : Type 0
RulesAreOfPrelude = (t u : Term) → (Rewrites t u → IsInstanceIn prelude t u) × (IsInstanceIn prelude t u → Rewrites t u)

-- what is convertible stays so under a substitution
abbrev pub ConversionSubstitutes : Type 0
ConversionSubstitutes = (t u : Term) (s : ℕ → Term) → Convertible t u → Convertible (substitute s t) (substitute s u)

-- a term keeps its type below one more binder
abbrev pub Weakens : Type 0
Weakens = (sig : List Declaration) (g : List Term) (t a b : Term) → Extends sig → HasType sig g t a → HasType sig (b ∷ g) (shift t) (shift a)

-- a term of the variable's type may stand for the variable that is bound last
abbrev pub Instantiates : Type 0
Instantiates = (sig : List Declaration) (g : List Term) (t u a b : Term) → Extends sig → HasType sig (b ∷ g) t a → HasType sig g u b → HasType sig g (instantiate t u) (instantiate a u)

-- a typed term has no variable beyond its context
abbrev pub TypedIsBelow : Type 0
TypedIsBelow = (sig : List Declaration) (g : List Term) (t a : Term) → HasType sig g t a → VariablesBelow (length g) t

-- each symbol of a typed term is declared
abbrev pub TypedIsDeclared : Type 0
TypedIsDeclared = (sig : List Declaration) (g : List Term) (t a : Term) → HasType sig g t a → Declared sig t

-- a term put for variable 0 is what the theory puts for it
abbrev pub SubstitutionIsTheory : Type 0
SubstitutionIsTheory = (t by : Lp) → term_of (substituted t by) ≡ instantiate (term_of t) (term_of by)

-- a raised term is a renamed one
abbrev pub LiftIsTheory : Type 0
LiftIsTheory = (up bound : ℕ) (t : Lp) → term_of (lifted up t bound) ≡ rename (raised up bound) (term_of t)

-- and by one from the first variable on it is the theory's shift
abbrev pub ShiftIsTheory : Type 0
ShiftIsTheory = (t : Lp) → term_of (lifted 1 t 0) ≡ shift (term_of t)

-- the translation of a closed formula has no free variable
abbrev pub TranslationIsClosed : Type 0
TranslationIsClosed = (f : Formula) → IsClosed f → VariablesBelow 0 (term_of (translated f))
