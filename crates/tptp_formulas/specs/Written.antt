-- What a text of each language may hold, and where it ends.
use Rattle.std.specs.Prelude.{Bool, true, false, ◌&&◌, if◌then◌else◌, List, [], ◌∷◌, IsTrue}
use Rattle.tptp_tokens.specs.declared.Token.{Token}
use Rattle.tptp_tokens.specs.declared.Token.TheVariants as t
use Rattle.tptp_formulas.specs.declared.body.Lang.{Lang}
use Rattle.tptp_formulas.specs.declared.body.Lang.TheVariants.{Cnf, Fof, Other}
use Rattle.tptp_formulas.specs.declared.raw.Link.TheVariants.{And, Or}
use Rattle.tptp_formulas.specs.declared.raw.Prefix.{Prefix}
use Rattle.tptp_formulas.specs.declared.raw.Prefix.TheVariants.{Not}
use Rattle.tptp_formulas.specs.declared.raw.Raw.{Raw, Raw-F, fold-Raw}
use Rattle.tptp_formulas.specs.declared.raw.Raw.TheOpen as raw
use Rattle.tptp_formulas.specs.declared.shape.Shape.{Shape}
use Rattle.tptp_formulas.specs.declared.shape.Shape.TheVariants as shape
use Rattle.tptp_formulas.specs.Grammar.{IsFormula}

-- the tokens do not go on with the formula before them: neither arguments nor a comparison, link or connective stand there
abbrev pub ends : List Token → Bool
ends (t.OpenRound ∷ ts) = false
ends (t.Equal ∷ ts) = false
ends (t.Unequal ∷ ts) = false
ends (t.And ∷ ts) = false
ends (t.Or ∷ ts) = false
ends (t.Implies ∷ ts) = false
ends (t.ImpliedBy ∷ ts) = false
ends (t.Iff ∷ ts) = false
ends (t.Differs ∷ ts) = false
ends (t.Nor ∷ ts) = false
ends (t.Nand ∷ ts) = false
ends ts = true

-- a shape that is built from atoms and negated atoms by `|` alone
abbrev pub clausal : Shape → Bool
clausal shape.Atom = true
clausal shape.Clause = true
clausal shape.Other = false

-- each of the shapes is so
abbrev pub all_clausal : List Shape → Bool
all_clausal [] = true
all_clausal (s ∷ rest) = clausal s && all_clausal rest

-- what a negation makes of a shape: an atom under it may stand in any number of brackets
abbrev pub negated : Shape → Shape
negated shape.Atom = shape.Clause
negated shape.Clause = shape.Other
negated shape.Other = shape.Other

-- what prefixes make of a shape; brackets, which have none, leave it
abbrev pub prefixed : List Prefix → Shape → Shape
prefixed [] s = s
prefixed (Not ∷ []) s = negated s
prefixed ps s = shape.Other

-- a formula's shape, from those of its parts
abbrev pub shape_at : Raw-F Shape → Shape
shape_at (raw.Atom name args) = shape.Atom
shape_at (raw.Dollar name args) = shape.Atom
shape_at (raw.Equation comparison a b) = shape.Atom
shape_at (raw.Unit ps inner) = prefixed ps inner
shape_at (raw.Binary connective a b) = shape.Other
shape_at (raw.Chain And first others) = shape.Other
shape_at (raw.Chain Or first others) = if clausal first && all_clausal others then shape.Clause else shape.Other

-- an atom in any number of brackets, or else what is built from atoms and negated atoms by `|` alone, where each formula
-- so built and each atom under `~` may stand in any number of brackets, or else any other formula
abbrev pub shape_of : Raw → Shape
shape_of = fold-Raw Shape shape_at

-- an `fof` text may hold each formula, a `cnf` text what is built from atoms and negated atoms by `|` alone,
-- and a text of another language none
abbrev pub fits : Lang → Raw → Bool
fits Fof f = true
fits Cnf f = clausal (shape_of f)
fits Other f = false

-- the tokens `before` are a formula of the language, and then the tokens `after`, which do not go on with it
pub record Written (lang : Lang) (before : List Token) (f : Raw) (after : List Token) : Type 0 where
  pub formula : IsFormula before f after
  pub ends : IsTrue (ends after)
  pub fits : IsTrue (fits lang f)
