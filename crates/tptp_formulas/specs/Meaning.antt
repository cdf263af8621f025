-- What a formula as it is written means: names become numbers of quantifiers, chains nest to the left, and free
-- variables are closed.
use Rattle.std.specs.Prelude.{ℕ, nat_lt, Bool, true, false, if◌then◌else◌, List, [], ◌∷◌, ◌++◌, length, map, Option, Some, None, nat_eq}
use Rattle.std.specs.Cmp.Lexicographic.{pointwise}
use Rattle.dk_syntax.specs.Depth.{formula_depth}
use Rattle.dk_syntax.specs.declared.Formula.{Formula}
use Rattle.dk_syntax.specs.declared.Formula.TheVariants as formula
use Rattle.dk_syntax.specs.declared.Kind.{Kind}
use Rattle.dk_syntax.specs.declared.Kind.TheVariants.{Function, Predicate}
use Rattle.dk_syntax.specs.declared.SymKey.{SymKey}
use Rattle.dk_syntax.specs.declared.Term.{Term}
use Rattle.dk_syntax.specs.declared.Term.TheVariants as term
use Rattle.tptp_formulas.specs.Outside.{is_true, outside_of}
use Rattle.tptp_formulas.specs.Scopes.{Names, each, free_names, names_of}
use Rattle.tptp_formulas.specs.declared.body.Body.{Body}
use Rattle.tptp_formulas.specs.declared.body.Body.TheVariants.{Outside, Plain}
use Rattle.tptp_formulas.specs.declared.body.OutsideKind.{OutsideKind}
use Rattle.tptp_formulas.specs.declared.raw.Connective.{Connective}
use Rattle.tptp_formulas.specs.declared.raw.Connective.TheVariants as connective
use Rattle.tptp_formulas.specs.declared.raw.Link.{Link}
use Rattle.tptp_formulas.specs.declared.raw.Link.TheVariants as link
use Rattle.tptp_formulas.specs.declared.raw.Prefix.{Prefix}
use Rattle.tptp_formulas.specs.declared.raw.Prefix.TheVariants.{Exists, ForAll, Not}
use Rattle.tptp_formulas.specs.declared.raw.Raw.{Raw, Raw-F, fold-Raw}
use Rattle.tptp_formulas.specs.declared.raw.Raw.TheOpen as raw
use Rattle.tptp_formulas.specs.declared.raw.RawTerm.{RawTerm, RawTerm-F, fold-RawTerm}
use Rattle.tptp_formulas.specs.declared.raw.RawTerm.TheOpen as raw_term

-- how many names stand behind the last one that is equal
abbrev pub number_or : Option ℕ → Bool → ℕ → Option ℕ
number_or (Some k) same n = Some k
number_or None true n = Some n
number_or None false n = None

-- how many quantifiers stand between a variable and the nearest one of its name
abbrev pub number : List ℕ → Names → Option ℕ
number name [] = None
number name (x ∷ xs) = number_or (number name xs) (pointwise nat_eq name x) (length xs)

abbrev pub symbol : List ℕ → ℕ → Kind → SymKey
symbol name arity kind = record { name = name; arity = arity; kind = kind }

abbrev pub variable : Option ℕ → Term
variable None = term.Any
variable (Some k) = term.Var k

-- a term where these names are bound, from its arguments. What has no meaning here, a variable that is not bound or a
-- term outside the profile, counts as Any; no body has it
abbrev pub term_at : RawTerm-F (Names → Term) → Names → Term
term_at (raw_term.Variable name) bound = variable (number name bound)
term_at (raw_term.Apply name args) bound = term.App (symbol name (length args) Function) (each bound args)
term_at (raw_term.Number name) bound = term.Any
term_at (raw_term.Distinct name) bound = term.Any
term_at (raw_term.Dollar name args) bound = term.Any

abbrev pub term_of : RawTerm → Names → Term
term_of = fold-RawTerm (Names → Term) term_at

-- two formulas with a link between them
abbrev pub linked : Link → Formula → Formula → Formula
linked link.And a b = formula.And a b
linked link.Or a b = formula.Or a b

-- a chain nests to the left
abbrev pub chained : Link → Formula → List Formula → Formula
chained l f [] = f
chained l f (g ∷ gs) = chained l (linked l f g) gs

-- two formulas with a connective between them
abbrev pub connected : Connective → Formula → Formula → Formula
connected connective.Implies a b = formula.Imp a b
connected connective.ImpliedBy a b = formula.Imp b a
connected connective.Iff a b = formula.Iff a b
connected connective.Differs a b = formula.Not (formula.Iff a b)
connected connective.Nor a b = formula.Not (formula.Or a b)
connected connective.Nand a b = formula.Not (formula.And a b)

-- a universal quantifier for each name
abbrev pub for_all : Names → Formula → Formula
for_all [] f = f
for_all (name ∷ names) f = formula.All (for_all names f)

-- an existential quantifier for each name
abbrev pub exists : Names → Formula → Formula
exists [] f = f
exists (name ∷ names) f = formula.Ex (exists names f)

-- the negations and quantifiers around a formula
abbrev pub wrapped : List Prefix → Formula → Formula
wrapped [] f = f
wrapped (Not ∷ ps) f = formula.Not (wrapped ps f)
wrapped (ForAll names ∷ ps) f = for_all names (wrapped ps f)
wrapped (Exists names ∷ ps) f = exists names (wrapped ps f)

-- `$true` or `$false`; no body has another dollar word
abbrev pub constant : List ℕ → Formula
constant name = if is_true name then formula.True else formula.False

-- a formula where these names are bound, from its parts; no body has an equation
abbrev pub formula_at : Raw-F (Names → Formula) → Names → Formula
formula_at (raw.Atom name args) bound = formula.Atom (symbol name (length args) Predicate) (each bound (map term_of args))
formula_at (raw.Dollar name args) bound = constant name
formula_at (raw.Equation comparison a b) bound = formula.False
formula_at (raw.Unit prefixes inner) bound = wrapped prefixes (inner (bound ++ names_of prefixes))
formula_at (raw.Binary c a b) bound = connected c (a bound) (b bound)
formula_at (raw.Chain l f fs) bound = chained l (f bound) (each bound fs)

-- the formula where these names are bound around it
abbrev pub formula_of : Raw → Names → Formula
formula_of = fold-Raw (Names → Formula) formula_at

-- the formula closed by universal quantifiers for its free variables, the first that occurs in the text outermost
abbrev pub closed_formula : Raw → Formula
closed_formula f = for_all (free_names f) (formula_of f (free_names f))

-- the kind of what is outside the profile, or else the closed formula
abbrev pub body_or : Option OutsideKind → Raw → Body
body_or None f = Plain (closed_formula f)
body_or (Some kind) f = Outside kind

abbrev pub body_of : Raw → Body
body_of f = body_or (outside_of f) f

-- a formula that is deeper than the limit of 1,000
abbrev pub too_deep : Body → Bool
too_deep (Plain f) = nat_lt 1000 (formula_depth f)
too_deep (Outside kind) = false
