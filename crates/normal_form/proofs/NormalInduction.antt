-- What the normal forms of a formula have, by induction over the formula.
use Rattle.std.proofs.Common.{◌≡◌, Bool, true, false, not, List, subst, sym}
use Rattle.dk_syntax.proofs.FormulaLaws.{formula_induction}
use Rattle.dk_syntax.specs.declared.Formula.{Formula}
use Rattle.dk_syntax.specs.declared.Formula.TheVariants as formula
use Rattle.dk_syntax.specs.declared.SymKey.{SymKey}
use Rattle.dk_syntax.specs.declared.Term.{Term}
use Rattle.normal_form.proofs.FormulaEquations.{normal-All-false, normal-All-true, normal-And-false, normal-And-true, normal-Atom, normal-Ex-false, normal-Ex-true, normal-False-false, normal-False-true, normal-Iff-false, normal-Iff-true, normal-Imp-false, normal-Imp-true, normal-Not, normal-Or-false, normal-Or-true, normal-True-false, normal-True-true}
use Rattle.normal_form.specs.Normal.{all_of, ex_of, literal_of, normal_of}
use Rattle.normal_form.specs.declared.form.Nf.{Nf}
use Rattle.normal_form.specs.declared.form.Nf.TheVariants as nf

-- of a formula with the property Q, whose parts have it
pub record Parts (Q : Formula → Type 0) : Type 0 where
  pub of_not : (a : Formula) → Q (formula.Not a) → Q a
  pub of_and : (a b : Formula) → Q (formula.And a b) → Q a × Q b
  pub of_or : (a b : Formula) → Q (formula.Or a b) → Q a × Q b
  pub of_imp : (a b : Formula) → Q (formula.Imp a b) → Q a × Q b
  pub of_iff : (a b : Formula) → Q (formula.Iff a b) → Q a × Q b
  pub of_all : (a : Formula) → Q (formula.All a) → Q a
  pub of_ex : (a : Formula) → Q (formula.Ex a) → Q a

-- a property of normal forms that forms of parts with it have
pub record Joins (P : Nf → Type 0) : Type 0 where
  pub at_true : P nf.True
  pub at_false : P nf.False
  pub at_and : (a b : Nf) → P a → P b → P (nf.And a b)
  pub at_or : (a b : Nf) → P a → P b → P (nf.Or a b)
  pub at_all : (a : Nf) → P a → P (all_of a)
  pub at_ex : (a : Nf) → P a → P (ex_of a)

module _ (Q : Formula → Type 0) (P : Nf → Type 0) (parts : Parts Q) (joins : Joins P)
    (at_atom : (symbol : SymKey) (args : List Term) (sign : Bool) → Q (formula.Atom symbol args) → P (nf.Lit (literal_of sign symbol args))) where
  at : (a b : Nf) → a ≡ b → P b → P a
  at a b e = subst P (sym e)

  abbrev HasForms : Formula → Type 0
  HasForms f = Q f → (sign : Bool) → P (normal_of f sign)

  two_signs : (f : Formula) → P (normal_of f true) → P (normal_of f false) → (sign : Bool) → P (normal_of f sign)
  two_signs f h k true = h
  two_signs f h k false = k

  pub normal_has : (f : Formula) → HasForms f
  normal_has = formula_induction HasForms
      (λ q. two_signs formula.True (at _ _ normal-True-true joins.at_true) (at _ _ normal-True-false joins.at_false))
      (λ q. two_signs formula.False (at _ _ normal-False-true joins.at_false) (at _ _ normal-False-false joins.at_true))
      (λ s args q sign. at _ _ (normal-Atom s args sign) (at_atom s args sign q))
      (λ a h q sign. at _ _ (normal-Not a sign) (h (parts.of_not a q) (not sign)))
      (λ a b h k q. let w = parts.of_and a b q in
      two_signs (formula.And a b) (at _ _ (normal-And-true a b) (joins.at_and _ _ (h w.0 true) (k w.1 true)))
      (at _ _ (normal-And-false a b) (joins.at_or _ _ (h w.0 false) (k w.1 false))))
      (λ a b h k q. let w = parts.of_or a b q in
      two_signs (formula.Or a b) (at _ _ (normal-Or-true a b) (joins.at_or _ _ (h w.0 true) (k w.1 true)))
      (at _ _ (normal-Or-false a b) (joins.at_and _ _ (h w.0 false) (k w.1 false))))
      (λ a b h k q. let w = parts.of_imp a b q in
      two_signs (formula.Imp a b) (at _ _ (normal-Imp-true a b) (joins.at_or _ _ (h w.0 false) (k w.1 true)))
      (at _ _ (normal-Imp-false a b) (joins.at_and _ _ (h w.0 true) (k w.1 false))))
      (λ a b h k q. let w = parts.of_iff a b q in
      two_signs (formula.Iff a b)
      (at _ _ (normal-Iff-true a b) (joins.at_and _ _ (joins.at_or _ _ (h w.0 false) (k w.1 true)) (joins.at_or _ _ (k w.1 false) (h w.0 true))))
      (at _ _ (normal-Iff-false a b) (joins.at_and _ _ (joins.at_or _ _ (h w.0 true) (k w.1 true)) (joins.at_or _ _ (h w.0 false) (k w.1 false)))))
      (λ a h q.
      two_signs (formula.All a) (at _ _ (normal-All-true a) (joins.at_all _ (h (parts.of_all a q) true))) (at _ _ (normal-All-false a) (joins.at_ex _ (h (parts.of_all a q) false))))
      (λ a h q.
      two_signs (formula.Ex a) (at _ _ (normal-Ex-true a) (joins.at_ex _ (h (parts.of_ex a q) true))) (at _ _ (normal-Ex-false a) (joins.at_all _ (h (parts.of_ex a q) false))))
