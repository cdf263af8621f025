-- What holds of each formula that is read.
use Rattle.std.specs.Prelude.{IsTrue}
use Rattle.dk_syntax.specs.WellFormed.{IsClosed, IsWellFormed, has_no_any}
use Rattle.dk_syntax.specs.declared.Formula.{Formula}
use Rattle.tptp_formulas.specs.declared.body.Body.{Body}
use Rattle.tptp_formulas.specs.declared.body.Body.TheVariants.{Outside, Plain}

-- the formula is closed and well-formed, and Any stands nowhere in it
pub record IsProper (f : Formula) : Type 0 where
  pub closed : IsClosed f
  pub well_formed : IsWellFormed f
  pub no_any : IsTrue (has_no_any f)

-- the property holds of the body's formula, where it has one
abbrev pub IfPlain : Body → (Formula → Type 0) → Type 0
IfPlain (Plain f) P = P f
IfPlain (Outside kind) P = Unit {0}
