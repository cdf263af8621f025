-- The body of each existential of a signed formula is over a signature where the formula is.
use Rattle.std.proofs.Common.{◌≡◌, ◌+◌, ℕ, suc, nat_eq, Bool, true, false, not, List, ◌∷◌, cond, Option, None, Some, refl, sym, subst, ◌∙◌, rules}
use Rattle.std.proofs.lemmas.Option.{same_Some}
use Rattle.assemble.specs.Fitting.{body_of}
use Rattle.dk_syntax.proofs.FormulaLaws.{formula_induction}
use Rattle.dk_syntax.specs.declared.formula.Formula.{Formula, the_lemmas as of_formulas}
use Rattle.dk_syntax.specs.declared.formula.Formula.TheVariants.{All, And, Ex, False, Iff, Imp, Not, Or, True}
use Rattle.dk_syntax.specs.declared.clause.Literal.{Literal}
use Rattle.lp_term.specs.Typing.{Declaration}
use Rattle.nd_term.proofs.FormulaViews.{theory-All, theory-And, theory-Ex, theory-Iff, theory-Imp, theory-Not, theory-Or}
use Rattle.nd_term.specs.Formulas.{Formula as TheoryFormula, conjunction, disjunction, equivalence, existential, implication, negation, universal}
use Rattle.nd_term.specs.Symbols.{FormulaOver, over_conjunction, over_disjunction, over_equivalence, over_existential, over_implication, over_negation, over_universal}
use Rattle.nd_term.specs.Views.{theory_formula}
use Rattle.normal_form.specs.Normal.{literal_of}
use Rattle.normal_form.specs.Occurrence.{in_formula}
use Rattle.skolem_order.proofs.SignedLaws.{form-All, form-And, form-Atom, form-Ex, form-False, form-Iff, form-Imp, form-Not, form-Or, form-True}
use Rattle.skolem_order.specs.SignedForms.{SignedForm, all, alls, constant, equivalent, ex, exs, joined, lit, quantified, second_half, signed_form, vacuous}
use Rattle.skolem_order.specs.Spots.{Spot, first_of, found, spot}
use Rattle.skolem_order.specs.declared.walk.Around.{Around}
use Rattle.skolem_order.specs.declared.walk.Around.TheVariants.{Existential, Universal, Vacant}

body-All : (a : Formula) → body_of (All a) ≡ a
body-All a = search (rules, of_formulas)

body-Ex : (a : Formula) → body_of (Ex a) ≡ a
body-Ex a = search (rules, of_formulas)

module _ (sig : List Declaration) where
  abbrev Over : Formula → Type 0
  Over f = FormulaOver sig (theory_formula f)

  -- ---- the parts of a formula

  of_negation : {f : TheoryFormula} → FormulaOver sig (negation f) → FormulaOver sig f
  of_negation (over_negation h) = h

  of_conjunction : {f g : TheoryFormula} → FormulaOver sig (conjunction f g) → FormulaOver sig f × FormulaOver sig g
  of_conjunction (over_conjunction h k) = (h, k)

  of_disjunction : {f g : TheoryFormula} → FormulaOver sig (disjunction f g) → FormulaOver sig f × FormulaOver sig g
  of_disjunction (over_disjunction h k) = (h, k)

  of_implication : {f g : TheoryFormula} → FormulaOver sig (implication f g) → FormulaOver sig f × FormulaOver sig g
  of_implication (over_implication h k) = (h, k)

  of_equivalence : {f g : TheoryFormula} → FormulaOver sig (equivalence f g) → FormulaOver sig f × FormulaOver sig g
  of_equivalence (over_equivalence h k) = (h, k)

  of_universal : {f : TheoryFormula} → FormulaOver sig (universal f) → FormulaOver sig f
  of_universal (over_universal h) = h

  of_existential : {f : TheoryFormula} → FormulaOver sig (existential f) → FormulaOver sig f
  of_existential (over_existential h) = h

  -- ---- forms

  -- the bodies of the existentials in the form are over the signature
  abbrev HasBodies : SignedForm → Type 0
  HasBodies n = (h : List Around) (u e i : ℕ) (x : Spot) → found n h u e i ≡ Some x → Over (body_of x.formula)

  constant_bodies : (truth : Bool) → HasBodies (constant truth)
  constant_bodies truth h u e i x is = absurd cc

  lit_bodies : (l : Literal) → HasBodies (lit l)
  lit_bodies l h u e i x is = absurd cc

  joined_bodies : (both : Bool) (a b : SignedForm) → HasBodies a → HasBodies b → HasBodies (joined both a b)
  joined_bodies both a b p q h u e i x is =
      either (found a h u e i) (found b h (alls a + u) (exs a + e) i) refl refl is
    where
      either : (y z : Option Spot) → found a h u e i ≡ y → found b h (alls a + u) (exs a + e) i ≡ z → first_of y z ≡ Some x → Over (body_of x.formula)
      either None z k l m = q h (alls a + u) (exs a + e) i x (l ∙ m)
      either (Some y) z k l m = p h u e i x (k ∙ m)

  all_bodies : (a : SignedForm) → HasBodies a → HasBodies (all a)
  all_bodies a p h u e i x is = p (Universal u ∷ h) (suc u) e i x is

  vacuous_bodies : (a : SignedForm) → HasBodies a → HasBodies (vacuous a)
  vacuous_bodies a p h u e i x is = p (Vacant ∷ h) u e i x is

  ex_bodies : (sign : Bool) (f : Formula) (a : SignedForm) → Over (body_of f) → HasBodies a → HasBodies (ex sign f a)
  ex_bodies sign f a o p h u e i x is = by_test (nat_eq e i) is
    where
      by_test : (b : Bool) → cond b (Some (spot sign f h)) (found a (Existential e ∷ h) u (suc e) i) ≡ Some x → Over (body_of x.formula)
      by_test true k = subst (λ (y : Spot). Over (body_of y.formula)) (same_Some (spot sign f h) x k) o
      by_test false k = p (Existential e ∷ h) u (suc e) i x k

  quantified_bodies : (occurs each sign : Bool) (f : Formula) (a : SignedForm) → Over (body_of f) → HasBodies a → HasBodies (quantified occurs each sign f a)
  quantified_bodies false each sign f a o p = vacuous_bodies a p
  quantified_bodies true true sign f a o p = all_bodies a p
  quantified_bodies true false sign f a o p = ex_bodies sign f a o p

  second_bodies : (sign : Bool) (a b : Bool → SignedForm) → ((s : Bool) → HasBodies (a s)) → ((s : Bool) → HasBodies (b s)) → HasBodies (second_half sign a b)
  second_bodies true a b p q = joined_bodies false (b false) (a true) (q false) (p true)
  second_bodies false a b p q = joined_bodies false (a false) (b false) (p false) (q false)

  equivalent_bodies : (sign : Bool) (a b : Bool → SignedForm) → ((s : Bool) → HasBodies (a s)) → ((s : Bool) → HasBodies (b s)) → HasBodies (equivalent sign a b)
  equivalent_bodies sign a b p q =
      joined_bodies true (joined false (a (not sign)) (b true)) (second_half sign a b)
      (joined_bodies false (a (not sign)) (b true) (p (not sign)) (q true)) (second_bodies sign a b p q)

  -- ---- formulas

  abbrev FormulaHasBodies : Formula → Type 0
  FormulaHasBodies f = Over f → (sign : Bool) → HasBodies (signed_form f sign)

  moved : (n m : SignedForm) → n ≡ m → HasBodies m → HasBodies n
  moved n m e p = subst HasBodies (sym e) p

  pub spot_bodies : (f : Formula) → FormulaHasBodies f
  spot_bodies =
      formula_induction
      FormulaHasBodies
      (λ o sign. moved (signed_form True sign) (constant sign) (form-True sign) (constant_bodies sign))
      (λ o sign. moved (signed_form False sign) (constant (not sign)) (form-False sign) (constant_bodies (not sign)))
      (λ head args o sign. subst HasBodies (sym (form-Atom head args sign)) (lit_bodies (literal_of sign head args)))
      (λ a p o sign. let k = of_negation (subst (FormulaOver sig) (theory-Not a) o) in
      moved (signed_form (Not a) sign) (signed_form a (not sign)) (form-Not a sign) (p k (not sign)))
      (λ a b p q o sign. let k = of_conjunction (subst (FormulaOver sig) (theory-And a b) o) in
      moved (signed_form (And a b) sign) (joined sign (signed_form a sign) (signed_form b sign)) (form-And a b sign)
      (joined_bodies sign (signed_form a sign) (signed_form b sign) (p k.0 sign) (q k.1 sign)))
      (λ a b p q o sign. let k = of_disjunction (subst (FormulaOver sig) (theory-Or a b) o) in
      moved (signed_form (Or a b) sign) (joined (not sign) (signed_form a sign) (signed_form b sign)) (form-Or a b sign)
      (joined_bodies (not sign) (signed_form a sign) (signed_form b sign) (p k.0 sign) (q k.1 sign)))
      (λ a b p q o sign. let k = of_implication (subst (FormulaOver sig) (theory-Imp a b) o) in
      moved (signed_form (Imp a b) sign) (joined (not sign) (signed_form a (not sign)) (signed_form b sign)) (form-Imp a b sign)
      (joined_bodies (not sign) (signed_form a (not sign)) (signed_form b sign) (p k.0 (not sign)) (q k.1 sign)))
      (λ a b p q o sign. let k = of_equivalence (subst (FormulaOver sig) (theory-Iff a b) o) in
      moved (signed_form (Iff a b) sign) (equivalent sign (signed_form a) (signed_form b)) (form-Iff a b sign)
      (equivalent_bodies sign (signed_form a) (signed_form b) (p k.0) (q k.1)))
      (λ a p o sign. let k = of_universal (subst (FormulaOver sig) (theory-All a) o) in
      moved (signed_form (All a) sign) (quantified (in_formula a 0) sign sign (All a) (signed_form a sign)) (form-All a sign)
      (quantified_bodies (in_formula a 0) sign sign (All a) (signed_form a sign) (subst Over (sym (body-All a)) k) (p k sign)))
      (λ a p o sign. let k = of_existential (subst (FormulaOver sig) (theory-Ex a) o) in
      moved (signed_form (Ex a) sign) (quantified (in_formula a 0) (not sign) sign (Ex a) (signed_form a sign)) (form-Ex a sign)
      (quantified_bodies (in_formula a 0) (not sign) sign (Ex a) (signed_form a sign) (subst Over (sym (body-Ex a)) k) (p k sign)))
