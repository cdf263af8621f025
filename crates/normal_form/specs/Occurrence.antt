-- Which variables occur in formulas and forms.
use Rattle.std.specs.Prelude.{◌≡◌, ℕ, ◌+◌, Bool, false, ◌||◌, map}
pub use Rattle.dk_syntax.specs.Terms.{any_true, has_variable}
use Rattle.dk_syntax.specs.declared.Formula.{Formula, Formula-F, fold-Formula}
use Rattle.dk_syntax.specs.declared.Formula.TheOpen as formula
use Rattle.normal_form.specs.declared.form.Nf.{Nf, Nf-F, fold-Nf}
use Rattle.normal_form.specs.declared.form.Nf.TheOpen as form

-- whether variable k occurs in a formula: under a quantifier its number is one greater
abbrev pub in_formula_at : Formula-F (ℕ → Bool) → ℕ → Bool
in_formula_at formula.True k = false
in_formula_at formula.False k = false
in_formula_at (formula.Atom symbol args) k = any_true (map (has_variable k) args)
in_formula_at (formula.Not a) k = a k
in_formula_at (formula.And a b) k = a k || b k
in_formula_at (formula.Or a b) k = a k || b k
in_formula_at (formula.Imp a b) k = a k || b k
in_formula_at (formula.Iff a b) k = a k || b k
in_formula_at (formula.All a) k = a (k + 1)
in_formula_at (formula.Ex a) k = a (k + 1)

-- variable k occurs in the formula
abbrev pub in_formula : Formula → ℕ → Bool
in_formula = fold-Formula (ℕ → Bool) in_formula_at

-- whether variable k occurs in a form: under a quantifier its number is one greater
abbrev pub in_form_at : Nf-F (ℕ → Bool) → ℕ → Bool
in_form_at form.True k = false
in_form_at form.False k = false
in_form_at (form.Lit literal) k = any_true (map (has_variable k) literal.args)
in_form_at (form.And a b) k = a k || b k
in_form_at (form.Or a b) k = a k || b k
in_form_at (form.All a) k = a (k + 1)
in_form_at (form.Ex a) k = a (k + 1)

-- variable k occurs in the form
abbrev pub in_form : Nf → ℕ → Bool
in_form = fold-Nf (ℕ → Bool) in_form_at

-- no variable is free in the form
abbrev pub IsClosedForm : Nf → Type 0
IsClosedForm a = (n : ℕ) → in_form a n ≡ false
