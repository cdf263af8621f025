-- Below a vacuous quantifier of a formula's signed form the quantifier's variable isn't free.
use Rattle.std.proofs.Common.{◌≡◌, Bool, true, false, not, refl, sym, subst, ◌∙◌}
use Rattle.dk_syntax.proofs.FormulaLaws.{formula_induction}
use Rattle.dk_syntax.specs.declared.Formula.{Formula}
use Rattle.dk_syntax.specs.declared.Formula.TheVariants as formula
use Rattle.dk_syntax.specs.declared.Literal.{Literal}
use Rattle.normal_form.specs.Occurrence.{in_formula}
use Rattle.skolem_order.proofs.LabelLaws.{free_in, free_signed}
use Rattle.skolem_order.proofs.SignedLaws.{form-All, form-And, form-Atom, form-Ex, form-False, form-Iff, form-Imp, form-Not, form-Or, form-True}
use Rattle.skolem_order.specs.SignedForms.{SignedForm, all, constant, ex, joined, lit, quantified, second_half, signed_form, vacuous}

pub data IsTight : SignedForm → Type 0 where
  t_constant : (truth : Bool) → IsTight (constant truth)
  t_lit : (l : Literal) → IsTight (lit l)
  t_joined : (w : Bool) (a b : SignedForm) → IsTight a → IsTight b → IsTight (joined w a b)
  t_all : (a : SignedForm) → IsTight a → IsTight (all a)
  t_ex : (sign : Bool) (f : Formula) (a : SignedForm) → IsTight a → IsTight (ex sign f a)
  t_vacuous : (a : SignedForm) → free_in 0 a ≡ false → IsTight a → IsTight (vacuous a)

abbrev AreTight : Formula → Type 0
AreTight f = (sign : Bool) → IsTight (signed_form f sign)

as_form : (m n : SignedForm) → m ≡ n → IsTight n → IsTight m
as_form m n e h = subst IsTight (sym e) h

tight_quantified : (o each sign : Bool) (f : Formula) (n : SignedForm) → (o ≡ false → free_in 0 n ≡ false) → IsTight n → IsTight (quantified o each sign f n)
tight_quantified true true sign f n h l = t_all n l
tight_quantified true false sign f n h l = t_ex sign f n l
tight_quantified false each sign f n h l = t_vacuous n (h refl) l

tight_second : (sign : Bool) (a b : Formula) → AreTight a → AreTight b → IsTight (second_half sign (signed_form a) (signed_form b))
tight_second true a b h j = t_joined false _ _ (j false) (h true)
tight_second false a b h j = t_joined false _ _ (h false) (j false)

pub tight_formula : (f : Formula) → AreTight f
tight_formula = formula_induction AreTight
    (λ sign. as_form _ _ (form-True sign) (t_constant sign)) (λ sign. as_form _ _ (form-False sign) (t_constant (not sign)))
    (λ p args sign. as_form _ _ (form-Atom p args sign) (t_lit _)) (λ a h sign. as_form _ _ (form-Not a sign) (h (not sign)))
    (λ a b h j sign. as_form _ _ (form-And a b sign) (t_joined sign _ _ (h sign) (j sign)))
    (λ a b h j sign. as_form _ _ (form-Or a b sign) (t_joined (not sign) _ _ (h sign) (j sign)))
    (λ a b h j sign. as_form _ _ (form-Imp a b sign) (t_joined (not sign) _ _ (h (not sign)) (j sign)))
    (λ a b h j sign. as_form _ _ (form-Iff a b sign) (t_joined true _ _ (t_joined false _ _ (h (not sign)) (j true)) (tight_second sign a b h j)))
    (λ a h sign. as_form _ _ (form-All a sign) (tight_quantified (in_formula a 0) sign sign (formula.All a) (signed_form a sign) (λ e. free_signed a sign 0 ∙ e) (h sign)))
    (λ a h sign. as_form _ _ (form-Ex a sign) (tight_quantified (in_formula a 0) (not sign) sign (formula.Ex a) (signed_form a sign) (λ e. free_signed a sign 0 ∙ e) (h sign)))
