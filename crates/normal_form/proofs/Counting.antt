-- The nodes of a formula's normal forms and the variables in them, from the formula.
use Rattle.std.proofs.Common.{◌≡◌, ℕ, zero, suc, ◌+◌, inl, inr, Bool, true, false, not, ◌||◌, if◌then◌else◌, List, sym, ap, ap₂, ◌∙◌, arith}
use Rattle.std.proofs.lemmas.Grind.{common_steps}
use Rattle.dk_syntax.proofs.FormulaLaws.{formula_induction}
use Rattle.dk_syntax.specs.declared.Formula.{Formula, the_lemmas as of_formulas}
use Rattle.dk_syntax.specs.declared.Formula.TheVariants as formula
use Rattle.dk_syntax.specs.declared.SymKey.{SymKey}
use Rattle.dk_syntax.specs.declared.Term.{Term}
use Rattle.normal_form.proofs.BoolLaws.{or_again, or_twice, test_cases}
use Rattle.normal_form.proofs.FormEquations.{in-All, in-And, in-Ex, in-False, in-Lit, in-Or, in-True, nodes-All, nodes-Ex}
use Rattle.normal_form.proofs.FormulaEquations.{normal-All-false, normal-All-true, normal-And-false, normal-And-true, normal-Atom, normal-Ex-false, normal-Ex-true, normal-False-false, normal-False-true, normal-Iff-false, normal-Iff-true, normal-Imp-false, normal-Imp-true, normal-Not, normal-Or-false, normal-Or-true, normal-True-false, normal-True-true, occurs-All, occurs-And, occurs-Atom, occurs-Ex, occurs-False, occurs-Iff, occurs-Imp, occurs-Not, occurs-Or, occurs-True}
use Rattle.normal_form.proofs.LoweringLaws.{form_moves, nodes-lowered}
use Rattle.normal_form.specs.Lowered.{lowered}
use Rattle.normal_form.specs.Normal.{all_of, ex_of, literal_of, nodes_of, normal_of}
use Rattle.normal_form.specs.Occurrence.{in_form, in_formula}
use Rattle.normal_form.specs.declared.form.Nf.{Nf, the_lemmas as of_forms}
use Rattle.normal_form.specs.declared.form.Nf.TheVariants as nf

pub nodes-all_of : (a : Nf) → nodes_of (all_of a) ≡ (if in_form a zero then 1 + nodes_of a else nodes_of a)
nodes-all_of a = elim (test_cases (in_form a zero)) [
  | inl p ↦
      ap (λ x. nodes_of (if x then nf.All a else lowered a zero)) p ∙ nodes-All a
      ∙ sym (ap (λ x. if x then 1 + nodes_of a else nodes_of a) p)
  | inr p ↦
      ap (λ x. nodes_of (if x then nf.All a else lowered a zero)) p ∙ nodes-lowered a zero
      ∙ sym (ap (λ x. if x then 1 + nodes_of a else nodes_of a) p)
]

pub nodes-ex_of : (a : Nf) → nodes_of (ex_of a) ≡ (if in_form a zero then 1 + nodes_of a else nodes_of a)
nodes-ex_of a = elim (test_cases (in_form a zero)) [
  | inl p ↦
      ap (λ x. nodes_of (if x then nf.Ex a else lowered a zero)) p ∙ nodes-Ex a
      ∙ sym (ap (λ x. if x then 1 + nodes_of a else nodes_of a) p)
  | inr p ↦
      ap (λ x. nodes_of (if x then nf.Ex a else lowered a zero)) p ∙ nodes-lowered a zero
      ∙ sym (ap (λ x. if x then 1 + nodes_of a else nodes_of a) p)
]

pub in-all_of : (a : Nf) (k : ℕ) → in_form (all_of a) k ≡ in_form a (suc k)
in-all_of a k = elim (test_cases (in_form a zero)) [
  | inl p ↦ ap (λ x. in_form (if x then nf.All a else lowered a zero) k) p ∙ in-All k a
  | inr p ↦ ap (λ x. in_form (if x then nf.All a else lowered a zero) k) p ∙ form_moves a zero k (omega arith) p
]

pub in-ex_of : (a : Nf) (k : ℕ) → in_form (ex_of a) k ≡ in_form a (suc k)
in-ex_of a k = elim (test_cases (in_form a zero)) [
  | inl p ↦ ap (λ x. in_form (if x then nf.Ex a else lowered a zero) k) p ∙ in-Ex k a
  | inr p ↦ ap (λ x. in_form (if x then nf.Ex a else lowered a zero) k) p ∙ form_moves a zero k (omega arith) p
]

-- the variables of a formula are those of its normal forms
abbrev pub SameVariables : Formula → Type 0
SameVariables f = (sign : Bool) (k : ℕ) → in_form (normal_of f sign) k ≡ in_formula f k

as_form : (a b : Nf) (k : ℕ) → a ≡ b → in_form a k ≡ in_form b k
as_form a b k same = ap (λ form. in_form form k) same

in_both : (k : ℕ) (a b : Nf) (x y : Bool) → in_form a k ≡ x → in_form b k ≡ y → in_form (nf.And a b) k ≡ x || y
in_both k a b x y g h = in-And k a b ∙ ap₂ (λ u v. u || v) g h

in_either : (k : ℕ) (a b : Nf) (x y : Bool) → in_form a k ≡ x → in_form b k ≡ y → in_form (nf.Or a b) k ≡ x || y
in_either k a b x y g h = in-Or k a b ∙ ap₂ (λ u v. u || v) g h

same-True : SameVariables formula.True
same-True true k = as_form _ _ k normal-True-true ∙ in-True k ∙ sym (occurs-True k)
same-True false k = as_form _ _ k normal-True-false ∙ in-False k ∙ sym (occurs-True k)

same-False : SameVariables formula.False
same-False true k = as_form _ _ k normal-False-true ∙ in-False k ∙ sym (occurs-False k)
same-False false k = as_form _ _ k normal-False-false ∙ in-True k ∙ sym (occurs-False k)

same-Atom : (s : SymKey) (args : List Term) → SameVariables (formula.Atom s args)
same-Atom s args sign k = as_form _ _ k (normal-Atom s args sign) ∙ in-Lit k (literal_of sign s args) ∙ sym (occurs-Atom k s args)

same-Not : (a : Formula) → SameVariables a → SameVariables (formula.Not a)
same-Not a g sign k = as_form _ _ k (normal-Not a sign) ∙ g (not sign) k ∙ sym (occurs-Not k a)

same-And : (a b : Formula) → SameVariables a → SameVariables b → SameVariables (formula.And a b)
same-And a b g h true k = as_form _ _ k (normal-And-true a b) ∙ in_both k _ _ _ _ (g true k) (h true k) ∙ sym (occurs-And k a b)
same-And a b g h false k = as_form _ _ k (normal-And-false a b) ∙ in_either k _ _ _ _ (g false k) (h false k) ∙ sym (occurs-And k a b)

same-Or : (a b : Formula) → SameVariables a → SameVariables b → SameVariables (formula.Or a b)
same-Or a b g h true k = as_form _ _ k (normal-Or-true a b) ∙ in_either k _ _ _ _ (g true k) (h true k) ∙ sym (occurs-Or k a b)
same-Or a b g h false k = as_form _ _ k (normal-Or-false a b) ∙ in_both k _ _ _ _ (g false k) (h false k) ∙ sym (occurs-Or k a b)

same-Imp : (a b : Formula) → SameVariables a → SameVariables b → SameVariables (formula.Imp a b)
same-Imp a b g h true k = as_form _ _ k (normal-Imp-true a b) ∙ in_either k _ _ _ _ (g false k) (h true k) ∙ sym (occurs-Imp k a b)
same-Imp a b g h false k = as_form _ _ k (normal-Imp-false a b) ∙ in_both k _ _ _ _ (g true k) (h false k) ∙ sym (occurs-Imp k a b)

same-Iff : (a b : Formula) → SameVariables a → SameVariables b → SameVariables (formula.Iff a b)
same-Iff a b g h true k =
    as_form _ _ k (normal-Iff-true a b) ∙ in_both k _ _ _ _ (in_either k _ _ _ _ (g false k) (h true k)) (in_either k _ _ _ _ (h false k) (g true k))
    ∙ or_twice (in_formula a k) (in_formula b k) ∙ sym (occurs-Iff k a b)
same-Iff a b g h false k =
    as_form _ _ k (normal-Iff-false a b) ∙ in_both k _ _ _ _ (in_either k _ _ _ _ (g true k) (h true k)) (in_either k _ _ _ _ (g false k) (h false k))
    ∙ or_again (in_formula a k) (in_formula b k) ∙ sym (occurs-Iff k a b)

same-All : (a : Formula) → SameVariables a → SameVariables (formula.All a)
same-All a g true k = as_form _ _ k (normal-All-true a) ∙ in-all_of (normal_of a true) k ∙ g true (suc k) ∙ sym (occurs-All k a)
same-All a g false k = as_form _ _ k (normal-All-false a) ∙ in-ex_of (normal_of a false) k ∙ g false (suc k) ∙ sym (occurs-All k a)

same-Ex : (a : Formula) → SameVariables a → SameVariables (formula.Ex a)
same-Ex a g true k = as_form _ _ k (normal-Ex-true a) ∙ in-ex_of (normal_of a true) k ∙ g true (suc k) ∙ sym (occurs-Ex k a)
same-Ex a g false k = as_form _ _ k (normal-Ex-false a) ∙ in-all_of (normal_of a false) k ∙ g false (suc k) ∙ sym (occurs-Ex k a)

pub in-normal : (f : Formula) (sign : Bool) (k : ℕ) → in_form (normal_of f sign) k ≡ in_formula f k
in-normal = formula_induction SameVariables same-True same-False same-Atom same-Not same-And same-Or same-Imp same-Iff same-All same-Ex

pub ruleset count_steps = (common_steps, of_formulas, of_forms, nodes-all_of, nodes-ex_of, in-normal)
