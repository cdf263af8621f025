-- What is free in a signed form and in the formulas at its existentials.
use Rattle.std.proofs.Common.{◌≡◌, ℕ, suc, Bool, true, false, not, ◌||◌, map, refl, sym, ap, ap₂, subst, ◌∙◌}
use Rattle.dk_syntax.proofs.FormulaLaws.{formula_induction}
use Rattle.dk_syntax.specs.Terms.{any_true, has_variable}
use Rattle.dk_syntax.specs.declared.Formula.{Formula}
use Rattle.dk_syntax.specs.declared.Formula.TheVariants as formula
use Rattle.dk_syntax.specs.declared.Literal.{Literal}
use Rattle.normal_form.proofs.FormulaEquations.{occurs-All, occurs-And, occurs-Atom, occurs-Ex, occurs-False, occurs-Iff, occurs-Imp, occurs-Not, occurs-Or, occurs-True}
use Rattle.normal_form.specs.Occurrence.{in_formula}
use Rattle.skolem_order.proofs.SignedLaws.{form-All, form-And, form-Atom, form-Ex, form-False, form-Iff, form-Imp, form-Not, form-Or, form-True}
use Rattle.skolem_order.specs.SignedForms.{SignedForm, all, constant, ex, joined, lit, quantified, second_half, signed_form, vacuous}

-- whether the variable is free in the form
abbrev pub free_in : ℕ → SignedForm → Bool
free_in k (constant truth) = false
free_in k (lit l) = any_true (map (has_variable k) l.args)
free_in k (joined both a b) = free_in k a || free_in k b
free_in k (all a) = free_in (suc k) a
free_in k (ex sign f a) = free_in (suc k) a
free_in k (vacuous a) = free_in (suc k) a

four : (a b : Bool) → ((a || b) || (b || a)) ≡ (a || b)
four true b = refl
four false true = refl
four false false = refl

twice : (a b : Bool) → ((a || b) || (a || b)) ≡ (a || b)
twice true b = refl
twice false true = refl
twice false false = refl

abbrev IsFree : Formula → Type 0
IsFree f = (sign : Bool) (k : ℕ) → free_in k (signed_form f sign) ≡ in_formula f k

both : (both : Bool) (m n : SignedForm) (a b : Formula) (k : ℕ) → free_in k m ≡ in_formula a k → free_in k n ≡ in_formula b k → free_in k (joined both m n) ≡ (in_formula a k || in_formula b k)
both w m n a b k h j = ap₂ (λ x y. x || y) h j

free_quantified : (o each sign : Bool) (f : Formula) (n : SignedForm) (k : ℕ) (t : Bool) → free_in (suc k) n ≡ t → free_in k (quantified o each sign f n) ≡ t
free_quantified true true sign f n k t h = h
free_quantified true false sign f n k t h = h
free_quantified false each sign f n k t h = h

of_form : (m n : SignedForm) (k : ℕ) → m ≡ n → free_in k m ≡ free_in k n
of_form m n k e = ap (free_in k) e

at_iff : (a b : Formula) → IsFree a → IsFree b → IsFree (formula.Iff a b)
at_iff a b h j true k =
    of_form _ _ k (form-Iff a b true)
    ∙ ap₂ (λ x y. x || y) (both false (signed_form a false) (signed_form b true) a b k (h false k) (j true k)) (both false (signed_form b false) (signed_form a true) b a k (j false k) (h true k))
    ∙ four (in_formula a k) (in_formula b k) ∙ sym (occurs-Iff k a b)
at_iff a b h j false k =
    of_form _ _ k (form-Iff a b false)
    ∙ ap₂ (λ x y. x || y) (both false (signed_form a true) (signed_form b true) a b k (h true k) (j true k)) (both false (signed_form a false) (signed_form b false) a b k (h false k) (j false k))
    ∙ twice (in_formula a k) (in_formula b k) ∙ sym (occurs-Iff k a b)

-- what is free in the form of a formula is what occurs in the formula
pub free_signed : (f : Formula) → IsFree f
free_signed = formula_induction IsFree
    (λ sign k. of_form _ _ k (form-True sign) ∙ sym (occurs-True k))
    (λ sign k. of_form _ _ k (form-False sign) ∙ sym (occurs-False k))
    (λ p args sign k. of_form _ _ k (form-Atom p args sign) ∙ sym (occurs-Atom k p args))
    (λ a h sign k. of_form _ _ k (form-Not a sign) ∙ h (not sign) k ∙ sym (occurs-Not k a))
    (λ a b h j sign k. of_form _ _ k (form-And a b sign) ∙ both sign (signed_form a sign) (signed_form b sign) a b k (h sign k) (j sign k) ∙ sym (occurs-And k a b))
    (λ a b h j sign k. of_form _ _ k (form-Or a b sign) ∙ both (not sign) (signed_form a sign) (signed_form b sign) a b k (h sign k) (j sign k) ∙ sym (occurs-Or k a b))
    (λ a b h j sign k. of_form _ _ k (form-Imp a b sign) ∙ both (not sign) (signed_form a (not sign)) (signed_form b sign) a b k (h (not sign) k) (j sign k) ∙ sym (occurs-Imp k a b))
    at_iff
    (λ a h sign k. of_form _ _ k (form-All a sign) ∙ free_quantified (in_formula a 0) sign sign (formula.All a) (signed_form a sign) k (in_formula a (suc k)) (h sign (suc k)) ∙ sym (occurs-All k a))
    (λ a h sign k. of_form _ _ k (form-Ex a sign) ∙ free_quantified (in_formula a 0) (not sign) sign (formula.Ex a) (signed_form a sign) k (in_formula a (suc k)) (h sign (suc k)) ∙ sym (occurs-Ex k a))

-- ---- labels

-- what occurs in the formula at an existential is free in the form below it
pub data Labelled : SignedForm → Type 0 where
  l_constant : (truth : Bool) → Labelled (constant truth)
  l_lit : (l : Literal) → Labelled (lit l)
  l_joined : (w : Bool) (a b : SignedForm) → Labelled a → Labelled b → Labelled (joined w a b)
  l_all : (a : SignedForm) → Labelled a → Labelled (all a)
  l_ex : (sign : Bool) (f : Formula) (a : SignedForm) → ((k : ℕ) → in_formula f k ≡ true → free_in (suc k) a ≡ true) → Labelled a → Labelled (ex sign f a)
  l_vacuous : (a : SignedForm) → Labelled a → Labelled (vacuous a)

abbrev AreLabelled : Formula → Type 0
AreLabelled f = (sign : Bool) → Labelled (signed_form f sign)

as_form : (m n : SignedForm) → m ≡ n → Labelled n → Labelled m
as_form m n e h = subst Labelled (sym e) h

labelled_quantified : (o each sign : Bool) (f : Formula) (n : SignedForm) → ((k : ℕ) → in_formula f k ≡ true → free_in (suc k) n ≡ true) → Labelled n → Labelled (quantified o each sign f n)
labelled_quantified true true sign f n h l = l_all n l
labelled_quantified true false sign f n h l = l_ex sign f n h l
labelled_quantified false each sign f n h l = l_vacuous n l

labelled_second : (sign : Bool) (a b : Formula) → AreLabelled a → AreLabelled b → Labelled (second_half sign (signed_form a) (signed_form b))
labelled_second true a b h j = l_joined false _ _ (j false) (h true)
labelled_second false a b h j = l_joined false _ _ (h false) (j false)

pub labelled_formula : (f : Formula) → AreLabelled f
labelled_formula = formula_induction AreLabelled
    (λ sign. as_form _ _ (form-True sign) (l_constant sign)) (λ sign. as_form _ _ (form-False sign) (l_constant (not sign)))
    (λ p args sign. as_form _ _ (form-Atom p args sign) (l_lit _)) (λ a h sign. as_form _ _ (form-Not a sign) (h (not sign)))
    (λ a b h j sign. as_form _ _ (form-And a b sign) (l_joined sign _ _ (h sign) (j sign)))
    (λ a b h j sign. as_form _ _ (form-Or a b sign) (l_joined (not sign) _ _ (h sign) (j sign)))
    (λ a b h j sign. as_form _ _ (form-Imp a b sign) (l_joined (not sign) _ _ (h (not sign)) (j sign)))
    (λ a b h j sign. as_form _ _ (form-Iff a b sign) (l_joined true _ _ (l_joined false _ _ (h (not sign)) (j true)) (labelled_second sign a b h j)))
    (λ a h sign. as_form _ _ (form-All a sign)
    (labelled_quantified (in_formula a 0) sign sign (formula.All a) (signed_form a sign) (λ k i. free_signed a sign (suc k) ∙ sym (occurs-All k a) ∙ i) (h sign)))
    (λ a h sign. as_form _ _ (form-Ex a sign)
    (labelled_quantified (in_formula a 0) (not sign) sign (formula.Ex a) (signed_form a sign) (λ k i. free_signed a sign (suc k) ∙ sym (occurs-Ex k a) ∙ i) (h sign)))
