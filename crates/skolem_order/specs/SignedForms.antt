-- Signed formulas as plain trees: each existential has its formula at hand, and vacuous quantifiers are kept.
use Rattle.std.specs.Prelude.{ℕ, suc, ◌+◌, Bool, true, false, not, cond}
use Rattle.dk_syntax.specs.declared.Formula.{Formula, Formula-F, fold-Formula}
use Rattle.dk_syntax.specs.declared.Formula.TheOpen as formula
use Rattle.dk_syntax.specs.declared.Formula.TheVariants.{All, And, Atom, Ex, False, Iff, Imp, Not, Or, True}
use Rattle.dk_syntax.specs.declared.Literal.{Literal}
use Rattle.normal_form.specs.Normal.{literal_of}
use Rattle.normal_form.specs.Occurrence.{in_formula}

-- True or False, a literal, an "and" where the mark is true and else an "or", a universal, an existential with its sign and
-- its formula, and a vacuous quantifier
pub data SignedForm : Type 0 where
  constant : Bool → SignedForm
  lit : Literal → SignedForm
  joined : Bool → SignedForm → SignedForm → SignedForm
  all : SignedForm → SignedForm
  ex : Bool → Formula → SignedForm → SignedForm
  vacuous : SignedForm → SignedForm

-- the form of an equivalence with a sign, from both forms of each side: in both cases one side with the other sign, or the
-- second side
abbrev pub second_half : Bool → (Bool → SignedForm) → (Bool → SignedForm) → SignedForm
second_half true a b = joined false (b false) (a true)
second_half false a b = joined false (a false) (b false)

abbrev pub equivalent : Bool → (Bool → SignedForm) → (Bool → SignedForm) → SignedForm
equivalent sign a b = joined true (joined false (a (not sign)) (b true)) (second_half sign a b)

-- the form of a quantifier, from its body's: a vacuous one where its variable doesn't occur, else a universal, or the
-- existential that is this formula with this sign
abbrev pub quantified : Bool → Bool → Bool → Formula → SignedForm → SignedForm
quantified occurs each sign f body = cond occurs (cond each (all body) (ex sign f body)) (vacuous body)

-- a formula with its two forms, true for the positive one, from those of its parts
abbrev pub signed_at : Formula-F (Formula × (Bool → SignedForm)) → Formula × (Bool → SignedForm)
signed_at formula.True = (True, λ sign. constant sign)
signed_at formula.False = (False, λ sign. constant (not sign))
signed_at (formula.Atom symbol args) = (Atom symbol args, λ sign. lit (literal_of sign symbol args))
signed_at (formula.Not a) = (Not a.0, λ sign. a.1 (not sign))
signed_at (formula.And a b) = (And a.0 b.0, λ sign. joined sign (a.1 sign) (b.1 sign))
signed_at (formula.Or a b) = (Or a.0 b.0, λ sign. joined (not sign) (a.1 sign) (b.1 sign))
signed_at (formula.Imp a b) = (Imp a.0 b.0, λ sign. joined (not sign) (a.1 (not sign)) (b.1 sign))
signed_at (formula.Iff a b) = (Iff a.0 b.0, λ sign. equivalent sign a.1 b.1)
signed_at (formula.All a) = (All a.0, λ sign. quantified (in_formula a.0 0) sign sign (All a.0) (a.1 sign))
signed_at (formula.Ex a) = (Ex a.0, λ sign. quantified (in_formula a.0 0) (not sign) sign (Ex a.0) (a.1 sign))

-- the form of the formula with the sign
unfoldable pub signed_form : Formula → Bool → SignedForm
signed_form f sign = (fold-Formula (Formula × (Bool → SignedForm)) signed_at f).1 sign

-- how many universals and existentials the form has; vacuous quantifiers aren't counted
abbrev pub alls : SignedForm → ℕ
alls (constant truth) = 0
alls (lit literal) = 0
alls (joined both a b) = alls a + alls b
alls (all a) = suc (alls a)
alls (ex sign f a) = alls a
alls (vacuous a) = alls a

abbrev pub exs : SignedForm → ℕ
exs (constant truth) = 0
exs (lit literal) = 0
exs (joined both a b) = exs a + exs b
exs (all a) = exs a
exs (ex sign f a) = suc (exs a)
exs (vacuous a) = exs a
