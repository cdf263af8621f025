-- The forms of signed formulas at each kind of formula.
use Rattle.std.proofs.Common.{◌≡◌, Bool, not, List, ap, ap₂, ◌∙◌, rules}
use Rattle.dk_syntax.proofs.FormulaLaws.{formula_induction}
use Rattle.dk_syntax.specs.declared.Formula.{All, And, Atom, Ex, False, Formula, Iff, Imp, Not, Or, True, fold-Formula, the_lemmas as of_formulas}
use Rattle.dk_syntax.specs.declared.SymKey.{SymKey}
use Rattle.dk_syntax.specs.declared.Term.{Term}
use Rattle.normal_form.specs.Normal.{literal_of}
use Rattle.normal_form.specs.Occurrence.{in_formula}
use Rattle.skolem_order.specs.SignedForms.{SignedForm, constant, equivalent, joined, lit, quantified, signed_at, signed_form}

-- the formula that is kept beside its forms
abbrev kept : Formula → Formula
kept f = (fold-Formula (Formula × (Bool → SignedForm)) signed_at f).0

kept-Not : (a : Formula) → kept (Not a) ≡ Not (kept a)
kept-Not a = search (rules, of_formulas)

kept-And : (a b : Formula) → kept (And a b) ≡ And (kept a) (kept b)
kept-And a b = search (rules, of_formulas)

kept-Or : (a b : Formula) → kept (Or a b) ≡ Or (kept a) (kept b)
kept-Or a b = search (rules, of_formulas)

kept-Imp : (a b : Formula) → kept (Imp a b) ≡ Imp (kept a) (kept b)
kept-Imp a b = search (rules, of_formulas)

kept-Iff : (a b : Formula) → kept (Iff a b) ≡ Iff (kept a) (kept b)
kept-Iff a b = search (rules, of_formulas)

kept-All : (a : Formula) → kept (All a) ≡ All (kept a)
kept-All a = search (rules, of_formulas)

kept-Ex : (a : Formula) → kept (Ex a) ≡ Ex (kept a)
kept-Ex a = search (rules, of_formulas)

pub formula_kept : (f : Formula) → kept f ≡ f
formula_kept = formula_induction (λ f. kept f ≡ f) (search (rules, of_formulas)) (search (rules, of_formulas)) (λ p args. search (rules, of_formulas))
    (λ a h. kept-Not a ∙ ap Not h) (λ a b h k. kept-And a b ∙ ap₂ And h k) (λ a b h k. kept-Or a b ∙ ap₂ Or h k) (λ a b h k. kept-Imp a b ∙ ap₂ Imp h k)
    (λ a b h k. kept-Iff a b ∙ ap₂ Iff h k) (λ a h. kept-All a ∙ ap All h) (λ a h. kept-Ex a ∙ ap Ex h)

pub form-True : (sign : Bool) → signed_form True sign ≡ constant sign
unfolding signed_form
form-True sign = search (rules, of_formulas)

pub form-False : (sign : Bool) → signed_form False sign ≡ constant (not sign)
unfolding signed_form
form-False sign = search (rules, of_formulas)

pub form-Atom : (p : SymKey) (args : List Term) (sign : Bool) → signed_form (Atom p args) sign ≡ lit (literal_of sign p args)
unfolding signed_form
form-Atom p args sign = search (rules, of_formulas)

pub form-Not : (a : Formula) (sign : Bool) → signed_form (Not a) sign ≡ signed_form a (not sign)
unfolding signed_form
form-Not a sign = search (rules, of_formulas)

pub form-And : (a b : Formula) (sign : Bool) → signed_form (And a b) sign ≡ joined sign (signed_form a sign) (signed_form b sign)
unfolding signed_form
form-And a b sign = search (rules, of_formulas)

pub form-Or : (a b : Formula) (sign : Bool) → signed_form (Or a b) sign ≡ joined (not sign) (signed_form a sign) (signed_form b sign)
unfolding signed_form
form-Or a b sign = search (rules, of_formulas)

pub form-Imp : (a b : Formula) (sign : Bool) → signed_form (Imp a b) sign ≡ joined (not sign) (signed_form a (not sign)) (signed_form b sign)
unfolding signed_form
form-Imp a b sign = search (rules, of_formulas)

pub form-Iff : (a b : Formula) (sign : Bool) → signed_form (Iff a b) sign ≡ equivalent sign (signed_form a) (signed_form b)
unfolding signed_form
form-Iff a b sign = search (rules, of_formulas)

pub form-All : (a : Formula) (sign : Bool) → signed_form (All a) sign ≡ quantified (in_formula a 0) sign sign (All a) (signed_form a sign)
unfolding signed_form
form-All a sign =
    let h : signed_form (All a) sign ≡ quantified (in_formula (kept a) 0) sign sign (All (kept a)) (signed_form a sign) = search (rules, of_formulas) in
    h ∙ ap (λ g. quantified (in_formula g 0) sign sign (All g) (signed_form a sign)) (formula_kept a)

pub form-Ex : (a : Formula) (sign : Bool) → signed_form (Ex a) sign ≡ quantified (in_formula a 0) (not sign) sign (Ex a) (signed_form a sign)
unfolding signed_form
form-Ex a sign =
    let h : signed_form (Ex a) sign ≡ quantified (in_formula (kept a) 0) (not sign) sign (Ex (kept a)) (signed_form a sign) = search (rules, of_formulas) in
    h ∙ ap (λ g. quantified (in_formula g 0) (not sign) sign (Ex g) (signed_form a sign)) (formula_kept a)
