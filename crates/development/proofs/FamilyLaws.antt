-- Origin formulas as they are built.
use Rattle.std.proofs.Common.{◌≡◌, ℕ, zero, suc, Bool, true, cond, List, [], ◌∷◌, map, get_or, Some, refl, sym, ap, ap₂, ◌∙◌, rules}
use Rattle.assemble.proofs.ViewLaws.{translated_same}
use Rattle.assemble.specs.Fitting.{body_of, eigenvariable_at, eigenvariable_from, eigenvariable_of, output_of, put_for, quantified_by, symbols_of}
use Rattle.dk_syntax.proofs.FormulaLaws.{formula_induction}
use Rattle.dk_syntax.specs.declared.Formula.{Formula, the_lemmas as of_formulas}
use Rattle.dk_syntax.specs.declared.Formula.TheVariants as formula
use Rattle.dk_syntax.specs.declared.SymKey.{SymKey}
use Rattle.dk_syntax.specs.declared.Term.{Any, App, Term, the_lemmas as of_terms}
use Rattle.expansion.specs.Rows.{term_at}
use Rattle.lp_term.specs.LambdaPi.{Term as TheoryTerm, shift, under_binder}
use Rattle.lp_term.specs.Names.{any_name}
use Rattle.nd_term.proofs.OutputSteps.{output-Any}
use Rattle.nd_term.specs.Eigenvariables.{origin_body}
use Rattle.nd_term.specs.Formulas.{ground_symbol}
use Rattle.nd_term.specs.Outputs.{output}
use Rattle.nd_term.specs.Spots.{value_of, values_of}
use Rattle.nd_term.specs.Translation.{translated, translated_ground}
use Rattle.nd_term.specs.Views.{theory_formula}
use Rattle.nd_term.specs.declared.values.Value.{Value}
use Rattle.normal_form.proofs.FormulaEquations.{occurs-All, occurs-Ex, occurs-False}
use Rattle.normal_form.specs.Occurrence.{in_formula}
use Rattle.plan.specs.declared.plan.Plan.{Plan}
use Rattle.skolem_order.specs.Origins.{args_of, origin_for, origin_of_term, spot_of}
use Rattle.skolem_order.specs.declared.origins.Origin.{Origin}

pub body-All : (a : Formula) → body_of (formula.All a) ≡ a
body-All a = search (rules, of_formulas)

pub body-Ex : (a : Formula) → body_of (formula.Ex a) ≡ a
body-Ex a = search (rules, of_formulas)

-- what occurs in the body occurs in the formula
abbrev Below : Formula → Type 0
Below f = (k : ℕ) → in_formula (body_of f) (suc k) ≡ true → in_formula f k ≡ true

none_below : (f : Formula) → body_of f ≡ formula.False → Below f
none_below f e k h = absurd (let q = sym h ∙ ap (λ g. in_formula g (suc k)) e ∙ occurs-False (suc k) in cc)

pub occurs_below : (f : Formula) → Below f
occurs_below = formula_induction Below
    (none_below formula.True (search (rules, of_formulas)))
    (none_below formula.False (search (rules, of_formulas)))
    (λ p args. none_below (formula.Atom p args) (search (rules, of_formulas)))
    (λ a h. none_below (formula.Not a) (search (rules, of_formulas)))
    (λ a b h j. none_below (formula.And a b) (search (rules, of_formulas)))
    (λ a b h j. none_below (formula.Or a b) (search (rules, of_formulas)))
    (λ a b h j. none_below (formula.Imp a b) (search (rules, of_formulas)))
    (λ a b h j. none_below (formula.Iff a b) (search (rules, of_formulas)))
    (λ a h k i. occurs-All k a ∙ ap (λ g. in_formula g (suc k)) (sym (body-All a)) ∙ i)
    (λ a h k i. occurs-Ex k a ∙ ap (λ g. in_formula g (suc k)) (sym (body-Ex a)) ∙ i)

-- the values are the terms as they are in proof terms
values_are : (values : List Value) (n : ℕ) → values_of values n ≡ get_or (map value_of values) n (ground_symbol any_name)
values_are [] n = none n
  where
    none : (n : ℕ) → ground_symbol any_name ≡ get_or [] n (ground_symbol any_name)
    none zero = refl
    none (suc n) = refl
values_are (one ∷ rest) zero = refl
values_are (one ∷ rest) (suc n) = values_are rest n

outputs_at : (symbols : List SymKey) (order terms : List Term) (n : ℕ)
    → get_or (map (output symbols order) terms) n (ground_symbol any_name) ≡ output symbols order (term_at terms n)
outputs_at symbols order [] n = none n
  where
    none : (n : ℕ) → get_or [] n (ground_symbol any_name) ≡ output symbols order (get_or [] n Any)
    none zero = sym (output-Any symbols order)
    none (suc n) = sym (output-Any symbols order)
outputs_at symbols order (t ∷ rest) zero = refl
outputs_at symbols order (t ∷ rest) (suc n) = outputs_at symbols order rest n

-- the body with the terms of the quantifiers around it
pub origin_is : (plan : Plan) (x : ℕ → TheoryTerm) (f : Formula) (terms : List Term) (values : List Value) (b : Bool)
    → map value_of values ≡ map (output (symbols_of plan.origins.list) plan.order) terms
    → translated (under_binder (λ n. translated_ground x (values_of values n))) (theory_formula (body_of f))
    ≡ origin_body x (quantified_by plan.origins.list plan.order b f terms)
origin_is plan x f terms values b e =
    translated_same (body_of f) (under_binder (λ n. translated_ground x (values_of values n)))
    (under_binder (λ n. translated_ground x (put_for plan.origins.list plan.order f terms n))) agree
  where
    put : (n : ℕ) → in_formula f n ≡ true → values_of values n ≡ put_for plan.origins.list plan.order f terms n
    put n h =
        values_are values n ∙ ap (λ l. get_or l n (ground_symbol any_name)) e ∙ outputs_at (symbols_of plan.origins.list) plan.order terms n
        ∙ ap (λ t. cond t (output_of plan.origins.list plan.order (term_at terms n)) (ground_symbol any_name)) (sym h)

    agree : (k : ℕ) → in_formula (body_of f) k ≡ true
        → under_binder (λ n. translated_ground x (values_of values n)) k ≡ under_binder (λ n. translated_ground x (put_for plan.origins.list plan.order f terms n)) k
    agree zero i = refl
    agree (suc k) i = ap (λ u. shift (translated_ground x u)) (put k (occurs_below f k i))

args_App : (f : SymKey) (args : List Term) → args_of (App f args) ≡ args
args_App f args = search (rules, of_terms)

origin_App : (origins : List Origin) (f : SymKey) (args : List Term) → origin_of_term origins (App f args) ≡ origin_for origins f
origin_App origins f args = search (rules, of_terms)

-- the eigenvariable of a term whose head has an origin
pub eigenvariable_is : (origins : List Origin) (order : List Term) (f : SymKey) (args : List Term) (t : Term) (origin : Origin) → t ≡ App f args → origin_for origins f ≡ Some origin
    → eigenvariable_of origins order t ≡ eigenvariable_at origins order args origin (spot_of origin)
eigenvariable_is origins order f args t origin e h =
    ap (eigenvariable_of origins order) e ∙ ap₂ (eigenvariable_from origins order) (args_App f args) (origin_App origins f args ∙ h)
