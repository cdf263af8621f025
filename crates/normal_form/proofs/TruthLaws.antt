-- The normal form is true exactly where the signed formula is.
use Rattle.std.proofs.Common.{◌≡◌, ℕ, zero, inl, inr, Bool, true, false, not, ◌&&◌, ◌||◌, if◌then◌else◌, List, sym, ap, ap₂, ◌∙◌, subst}
use mathlib.Core.Path.{fun_ext}
use Rattle.dk_syntax.proofs.FormulaLaws.{formula_induction}
use Rattle.dk_syntax.specs.declared.Formula.{Formula}
use Rattle.dk_syntax.specs.declared.Formula.TheVariants as formula
use Rattle.dk_syntax.specs.declared.SymKey.{SymKey}
use Rattle.dk_syntax.specs.declared.Term.{Term}
use Rattle.normal_form.proofs.BoolLaws.{not_and, not_iff, not_imp, not_or, signed_not, test_cases}
use Rattle.normal_form.proofs.FormEquations.{truth-All, truth-And, truth-Ex, truth-False, truth-Lit, truth-Or, truth-True}
use Rattle.normal_form.proofs.FormulaEquations.{meaning-All, meaning-And, meaning-Atom, meaning-Ex, meaning-False, meaning-Iff, meaning-Imp, meaning-Not, meaning-Or, meaning-True, normal-All-false, normal-All-true, normal-And-false, normal-And-true, normal-Atom, normal-Ex-false, normal-Ex-true, normal-False-false, normal-False-true, normal-Iff-false, normal-Iff-true, normal-Imp-false, normal-Imp-true, normal-Not, normal-Or-false, normal-Or-true, normal-True-false, normal-True-true}
use Rattle.normal_form.proofs.LoweringLaws.{form_lowers}
use Rattle.normal_form.specs.Lowered.{lowered}
use Rattle.normal_form.specs.Normal.{all_of, ex_of, literal_of, normal_of}
use Rattle.normal_form.specs.Occurrence.{in_form}
use Rattle.normal_form.specs.Truth.{Interpretation, SameTruthOver, form_truth, signed, truth, with_value}
use Rattle.normal_form.specs.declared.form.Nf.{Nf}
use Rattle.normal_form.specs.declared.form.Nf.TheVariants as nf

-- a quantifier that is dropped is still one in meaning
pub truth-all_of : {D : Type 0} (i : Interpretation D) (e : ℕ → D) (a : Nf) → form_truth i (all_of a) e ≡ i.all (λ d. form_truth i a (with_value d e))
truth-all_of i e a = elim (test_cases (in_form a zero)) [
  | inl p ↦ ap (λ x. form_truth i (if x then nf.All a else lowered a zero) e) p ∙ truth-All i e a
  | inr p ↦
      ap (λ x. form_truth i (if x then nf.All a else lowered a zero) e) p
      ∙ sym (i.all_fixed (form_truth i (lowered a zero) e)) ∙ ap i.all (fun_ext (λ d. form_lowers i a zero d e p))
]

pub truth-ex_of : {D : Type 0} (i : Interpretation D) (e : ℕ → D) (a : Nf) → form_truth i (ex_of a) e ≡ i.ex (λ d. form_truth i a (with_value d e))
truth-ex_of i e a = elim (test_cases (in_form a zero)) [
  | inl p ↦ ap (λ x. form_truth i (if x then nf.Ex a else lowered a zero) e) p ∙ truth-Ex i e a
  | inr p ↦
      ap (λ x. form_truth i (if x then nf.Ex a else lowered a zero) e) p
      ∙ sym (i.ex_fixed (form_truth i (lowered a zero) e)) ∙ ap i.ex (fun_ext (λ d. form_lowers i a zero d e p))
]

-- the law for one formula, in one interpretation
abbrev pub Keeps : {D : Type 0} → Interpretation D → Formula → Type 0
Keeps {D = D} i f = (sign : Bool) (e : ℕ → D) → form_truth i (normal_of f sign) e ≡ signed sign (truth i f e)

module _ {D : Type 0} (i : Interpretation D) where
  -- the form may be read as the one that it is
  as_form : (a b : Nf) (e : ℕ → D) → a ≡ b → form_truth i a e ≡ form_truth i b e
  as_form a b e same = ap (λ form. form_truth i form e) same

  -- conjunctions, disjunctions and quantifiers of forms whose truth is known
  both : (e : ℕ → D) (a b : Nf) (x y : Bool) → form_truth i a e ≡ x → form_truth i b e ≡ y → form_truth i (nf.And a b) e ≡ x && y
  both e a b x y g h = truth-And i e a b ∙ ap₂ (λ u v. u && v) g h

  either : (e : ℕ → D) (a b : Nf) (x y : Bool) → form_truth i a e ≡ x → form_truth i b e ≡ y → form_truth i (nf.Or a b) e ≡ x || y
  either e a b x y g h = truth-Or i e a b ∙ ap₂ (λ u v. u || v) g h

  each_of : (e : ℕ → D) (a : Nf) (p : D → Bool) → ((d : D) → form_truth i a (with_value d e) ≡ p d) → form_truth i (all_of a) e ≡ i.all p
  each_of e a p h = truth-all_of i e a ∙ ap i.all (fun_ext h)

  some_of : (e : ℕ → D) (a : Nf) (p : D → Bool) → ((d : D) → form_truth i a (with_value d e) ≡ p d) → form_truth i (ex_of a) e ≡ i.ex p
  some_of e a p h = truth-ex_of i e a ∙ ap i.ex (fun_ext h)

  keeps-True : Keeps i formula.True
  keeps-True true e = as_form _ _ e normal-True-true ∙ truth-True i e ∙ sym (meaning-True i e)
  keeps-True false e = as_form _ _ e normal-True-false ∙ truth-False i e ∙ sym (ap not (meaning-True i e))

  keeps-False : Keeps i formula.False
  keeps-False true e = as_form _ _ e normal-False-true ∙ truth-False i e ∙ sym (meaning-False i e)
  keeps-False false e = as_form _ _ e normal-False-false ∙ truth-True i e ∙ sym (ap not (meaning-False i e))

  keeps-Atom : (s : SymKey) (args : List Term) → Keeps i (formula.Atom s args)
  keeps-Atom s args sign e = as_form _ _ e (normal-Atom s args sign) ∙ truth-Lit i e (literal_of sign s args) ∙ ap (signed sign) (sym (meaning-Atom i e s args))

  keeps-Not : (a : Formula) → Keeps i a → Keeps i (formula.Not a)
  keeps-Not a g sign e = as_form _ _ e (normal-Not a sign) ∙ g (not sign) e ∙ signed_not sign (truth i a e) ∙ ap (signed sign) (sym (meaning-Not i e a))

  keeps-And : (a b : Formula) → Keeps i a → Keeps i b → Keeps i (formula.And a b)
  keeps-And a b g h true e = as_form _ _ e (normal-And-true a b) ∙ both e _ _ _ _ (g true e) (h true e) ∙ sym (meaning-And i e a b)
  keeps-And a b g h false e = as_form _ _ e (normal-And-false a b) ∙ either e _ _ _ _ (g false e) (h false e) ∙ sym (ap not (meaning-And i e a b) ∙ not_and (truth i a e) (truth i b e))

  keeps-Or : (a b : Formula) → Keeps i a → Keeps i b → Keeps i (formula.Or a b)
  keeps-Or a b g h true e = as_form _ _ e (normal-Or-true a b) ∙ either e _ _ _ _ (g true e) (h true e) ∙ sym (meaning-Or i e a b)
  keeps-Or a b g h false e = as_form _ _ e (normal-Or-false a b) ∙ both e _ _ _ _ (g false e) (h false e) ∙ sym (ap not (meaning-Or i e a b) ∙ not_or (truth i a e) (truth i b e))

  keeps-Imp : (a b : Formula) → Keeps i a → Keeps i b → Keeps i (formula.Imp a b)
  keeps-Imp a b g h true e = as_form _ _ e (normal-Imp-true a b) ∙ either e _ _ _ _ (g false e) (h true e) ∙ sym (meaning-Imp i e a b)
  keeps-Imp a b g h false e = as_form _ _ e (normal-Imp-false a b) ∙ both e _ _ _ _ (g true e) (h false e) ∙ sym (ap not (meaning-Imp i e a b) ∙ not_imp (truth i a e) (truth i b e))

  keeps-Iff : (a b : Formula) → Keeps i a → Keeps i b → Keeps i (formula.Iff a b)
  keeps-Iff a b g h true e =
      as_form _ _ e (normal-Iff-true a b) ∙ both e _ _ _ _ (either e _ _ _ _ (g false e) (h true e)) (either e _ _ _ _ (h false e) (g true e))
      ∙ sym (meaning-Iff i e a b)
  keeps-Iff a b g h false e =
      as_form _ _ e (normal-Iff-false a b) ∙ both e _ _ _ _ (either e _ _ _ _ (g true e) (h true e)) (either e _ _ _ _ (g false e) (h false e))
      ∙ sym (ap not (meaning-Iff i e a b) ∙ not_iff (truth i a e) (truth i b e))

  keeps-All : (a : Formula) → Keeps i a → Keeps i (formula.All a)
  keeps-All a g true e =
      as_form _ _ e (normal-All-true a) ∙ each_of e (normal_of a true) (λ d. truth i a (with_value d e)) (λ d. g true (with_value d e)) ∙ sym (meaning-All i e a)
  keeps-All a g false e =
      as_form _ _ e (normal-All-false a) ∙ some_of e (normal_of a false) (λ d. not (truth i a (with_value d e))) (λ d. g false (with_value d e))
      ∙ sym (ap not (meaning-All i e a) ∙ i.not_all (λ d. truth i a (with_value d e)))

  keeps-Ex : (a : Formula) → Keeps i a → Keeps i (formula.Ex a)
  keeps-Ex a g true e =
      as_form _ _ e (normal-Ex-true a) ∙ some_of e (normal_of a true) (λ d. truth i a (with_value d e)) (λ d. g true (with_value d e)) ∙ sym (meaning-Ex i e a)
  keeps-Ex a g false e =
      as_form _ _ e (normal-Ex-false a) ∙ each_of e (normal_of a false) (λ d. not (truth i a (with_value d e))) (λ d. g false (with_value d e))
      ∙ sym (ap not (meaning-Ex i e a) ∙ i.not_ex (λ d. truth i a (with_value d e)))

  pub normal_keeps : (f : Formula) → Keeps i f
  normal_keeps = formula_induction (Keeps i) keeps-True keeps-False keeps-Atom keeps-Not keeps-And keeps-Or keeps-Imp keeps-Iff keeps-All keeps-Ex

-- a form that is the normal form is as true as the formula
pub same_truth : {D : Type 0} (f : Formula) (sign : Bool) (a : Nf) → a ≡ normal_of f sign → SameTruthOver D f sign a
same_truth {D = D} f sign a same = subst (SameTruthOver D f sign) (sym same) (λ i e. normal_keeps i f sign e)
