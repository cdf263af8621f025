-- What the tokens of a printed formula are, as the grammar has it.
use Rattle.std.specs.Prelude.{ℕ, zero, suc, ◌+◌, ◌-◌, List, [], ◌∷◌, ◌++◌, map, codes}
use Rattle.dk_syntax.specs.declared.Formula.{Formula, Formula-F, fold-Formula}
use Rattle.dk_syntax.specs.declared.Formula.TheOpen as formula
use Rattle.dk_syntax.specs.declared.Term.{Term, Term-F, fold-Term}
use Rattle.dk_syntax.specs.declared.Term.TheOpen as term
use Rattle.tptp_formulas.specs.Scopes.{Names, each}
use Rattle.tptp_formulas.specs.declared.Connective.TheVariants as connective
use Rattle.tptp_formulas.specs.declared.Link.TheVariants as link
use Rattle.tptp_formulas.specs.declared.Prefix.{Prefix}
use Rattle.tptp_formulas.specs.declared.Prefix.TheVariants.{Exists, ForAll, Not}
use Rattle.tptp_formulas.specs.declared.Raw.{Raw}
use Rattle.tptp_formulas.specs.declared.Raw.TheVariants as raw
use Rattle.tptp_formulas.specs.declared.RawTerm.{RawTerm}
use Rattle.tptp_formulas.specs.declared.RawTerm.TheVariants as raw_term
use Rattle.tptp_text.specs.Printed.{variable_text}

-- the names of the quantifiers around a place, the nearest last
abbrev pub level_names : ℕ → Names
level_names zero = []
level_names (suc level) = level_names level ++ variable_text level ∷ []

abbrev pub term_form_at : Term-F (ℕ → RawTerm) → ℕ → RawTerm
term_form_at (term.Var number) level = raw_term.Variable (variable_text (level - 1 - number))
term_form_at (term.App symbol args) level = raw_term.Apply symbol.name (each level args)
term_form_at term.Any level = raw_term.Dollar (codes "$any") []

abbrev pub term_form : Term → ℕ → RawTerm
term_form = fold-Term (ℕ → RawTerm) term_form_at

-- the negations and quantifiers of a unit, and what stands behind them
pub record UnitParts : Type 0 where
  pub prefixes : List Prefix
  pub core : Raw

abbrev pub whole : UnitParts → Raw
whole parts = raw.Unit parts.prefixes parts.core

abbrev pub bare : Raw → UnitParts
bare core = record { prefixes = []; core = core }

abbrev pub behind : Prefix → UnitParts → UnitParts
behind prefix parts = record { prefixes = prefix ∷ parts.prefixes; core = parts.core }

abbrev pub parts_at : Formula-F (ℕ → UnitParts) → ℕ → UnitParts
parts_at formula.True level = bare (raw.Dollar (codes "$true") [])
parts_at formula.False level = bare (raw.Dollar (codes "$false") [])
parts_at (formula.Atom symbol args) level = bare (raw.Atom symbol.name (each level (map term_form args)))
parts_at (formula.Not a) level = behind Not (a level)
parts_at (formula.And a b) level = bare (raw.Chain link.And (whole (a level)) (whole (b level) ∷ []))
parts_at (formula.Or a b) level = bare (raw.Chain link.Or (whole (a level)) (whole (b level) ∷ []))
parts_at (formula.Imp a b) level = bare (raw.Binary connective.Implies (whole (a level)) (whole (b level)))
parts_at (formula.Iff a b) level = bare (raw.Binary connective.Iff (whole (a level)) (whole (b level)))
parts_at (formula.All a) level = behind (ForAll (variable_text level ∷ [])) (a (level + 1))
parts_at (formula.Ex a) level = behind (Exists (variable_text level ∷ [])) (a (level + 1))

abbrev pub parts_of : Formula → ℕ → UnitParts
parts_of = fold-Formula (ℕ → UnitParts) parts_at
