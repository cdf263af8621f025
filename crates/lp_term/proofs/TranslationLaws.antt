-- Translations at each kind of term and formula, their views, and that those of closed formulas have no free variable.
use Rattle.std.proofs.Common.{◌≡◌, ◌+◌, ◌<◌, ℕ, suc, true, ◌&&◌, nat_lt, Bool, false, List, [], ◌∷◌, map, refl, sym, ap, ap₂, subst, ◌∙◌, rules, add-one}
use Rattle.std.proofs.lemmas.Bool.{and_parts}
use Rattle.std.proofs.lemmas.Bool.Decides.{Decides-ltb}
use Rattle.dk_syntax.specs.WellFormed.{IsClosed, all_true, closed_under, term_closed_under}
use Rattle.dk_syntax.specs.declared.Formula.{Formula, the_lemmas as of_formulas}
use Rattle.dk_syntax.specs.declared.Formula.TheVariants.{True, False, Atom, Not, And, Or, Imp, Iff, All, Ex}
use Rattle.dk_syntax.specs.declared.SymKey.{SymKey}
use Rattle.dk_syntax.specs.declared.Term.{Term, the_lemmas as of_terms}
use Rattle.dk_syntax.specs.declared.Term.TheVariants as term
use Rattle.dk_syntax.proofs.FormulaLaws.{formula_induction}
use Rattle.dk_syntax.proofs.ListLaws.{ForEach, for_each}
use Rattle.dk_syntax.proofs.TermLaws.{term_induction}
use Rattle.dk_syntax.proofs.WellFormedLaws.{closed-All, closed-And, closed-App, closed-Atom, closed-Ex, closed-Iff, closed-Imp, closed-Not, closed-Or, closed-Var}
use Rattle.lp_term.specs.Connectives.{individuals, neg, proof_of}
use Rattle.lp_term.specs.Identifiers.{identifier_of}
use Rattle.lp_term.specs.LambdaPi.{Term as TheoryTerm, app, con, lam}
use Rattle.lp_term.specs.Names.{all_name, and_name, any_name, bot_name, ex_name, i_name, iff_name, imp_name, not_name, or_name, prf_name, top_name}
use Rattle.lp_term.specs.Scope.{VariablesBelow, below_app, below_con, below_lam, below_var}
use Rattle.lp_term.specs.Terms as program
use Rattle.lp_term.specs.Translation.{apply_each, connected, quantified, translated, translated_term}
use Rattle.lp_term.specs.View.{term_of}
use Rattle.lp_term.specs.declared.lp.Lp.{Lp}
use Rattle.lp_term.specs.declared.lp.Lp.TheVariants.{Sym, Var, App, Lam}
use Rattle.lp_term.proofs.ViewLaws.{view_App, view_Lam, view_Sym, view_Var}

-- ---- the definitions at each kind of term and formula

pub translated-Var : (n : ℕ) → translated_term (term.Var n) ≡ Var n
translated-Var n = search (rules, of_terms)

pub translated-App : (head : SymKey) (args : List Term) → translated_term (term.App head args) ≡ apply_each (Sym (identifier_of head)) (map translated_term args)
translated-App head args = search (rules, of_terms)

pub translated-Any : translated_term term.Any ≡ Sym any_name
translated-Any = search (rules, of_terms)

pub translated-True : translated True ≡ Sym top_name
translated-True = search (rules, of_formulas)

pub translated-False : translated False ≡ Sym bot_name
translated-False = search (rules, of_formulas)

pub translated-Atom : (head : SymKey) (args : List Term) → translated (Atom head args) ≡ apply_each (Sym (identifier_of head)) (map translated_term args)
translated-Atom head args = search (rules, of_formulas)

pub translated-Not : (a : Formula) → translated (Not a) ≡ program.negation_of (translated a)
translated-Not a = search (rules, of_formulas)

pub translated-And : (a b : Formula) → translated (And a b) ≡ connected and_name (translated a) (translated b)
translated-And a b = search (rules, of_formulas)

pub translated-Or : (a b : Formula) → translated (Or a b) ≡ connected or_name (translated a) (translated b)
translated-Or a b = search (rules, of_formulas)

pub translated-Imp : (a b : Formula) → translated (Imp a b) ≡ connected imp_name (translated a) (translated b)
translated-Imp a b = search (rules, of_formulas)

pub translated-Iff : (a b : Formula) → translated (Iff a b) ≡ connected iff_name (translated a) (translated b)
translated-Iff a b = search (rules, of_formulas)

pub translated-All : (a : Formula) → translated (All a) ≡ quantified all_name (translated a)
translated-All a = search (rules, of_formulas)

pub translated-Ex : (a : Formula) → translated (Ex a) ≡ quantified ex_name (translated a)
translated-Ex a = search (rules, of_formulas)

-- ---- views

pub view_connected : (name : List ℕ) (p q : Lp) → term_of (connected name p q) ≡ app (app (con name) (term_of p)) (term_of q)
view_connected name p q =
    view_App (App (Sym name) p) q ∙ ap (λ t. app t (term_of q)) (view_App (Sym name) p ∙ ap (λ t. app t (term_of p)) (view_Sym name))

pub view_quantified : (name : List ℕ) (p : Lp) → term_of (quantified name p) ≡ app (con name) (lam individuals (term_of p))
view_quantified name p =
    view_App (Sym name) (Lam program.individuals p)
    ∙ ap₂ app (view_Sym name) (view_Lam program.individuals p ∙ ap (λ a. lam a (term_of p)) (view_Sym i_name))

pub view_negation : (p : Lp) → term_of (program.negation_of p) ≡ neg (term_of p)
view_negation p = view_App (Sym not_name) p ∙ ap (λ t. app t (term_of p)) (view_Sym not_name)

pub view_proof : (p : Lp) → term_of (program.proof_of p) ≡ proof_of (term_of p)
view_proof p = view_App (Sym prf_name) p ∙ ap (λ t. app t (term_of p)) (view_Sym prf_name)

-- ---- closed formulas

-- the view of the term has no variable from the level on
abbrev IsBelow : ℕ → Lp → Type 0
IsBelow level t = VariablesBelow level (term_of t)

below_symbol : (level : ℕ) (name : List ℕ) → IsBelow level (Sym name)
below_symbol level name = subst (VariablesBelow level) (sym (view_Sym name)) (below_con level name)

below_apply : (level : ℕ) (t u : Lp) → IsBelow level t → IsBelow level u → IsBelow level (App t u)
below_apply level t u h k = subst (VariablesBelow level) (sym (view_App t u)) (below_app h k)

below_connected : (level : ℕ) (name : List ℕ) (p q : Lp) → IsBelow level p → IsBelow level q → IsBelow level (connected name p q)
below_connected level name p q h k = below_apply level (App (Sym name) p) q (below_apply level (Sym name) p (below_symbol level name) h) k

below_quantified : (level : ℕ) (name : List ℕ) (p : Lp) → IsBelow (level + 1) p → IsBelow level (quantified name p)
below_quantified level name p h =
    let inner = subst (λ n. VariablesBelow n (term_of p)) (add-one level) h in
    subst (VariablesBelow level) (sym (view_quantified name p)) (below_app (below_con level name) (below_lam (below_con level i_name) inner))

module _ (level : ℕ) where
  abbrev TermBelow : Term → Type 0
  TermBelow t = term_closed_under level t ≡ true → IsBelow level (translated_term t)

  below_each : (args : List Term) (t : Lp) → ForEach TermBelow args → all_true (map (term_closed_under level) args) ≡ true → IsBelow level t → IsBelow level (apply_each t (map translated_term args))
  below_each [] t known closed h = h
  below_each (a ∷ rest) t known closed h =
      let parts = and_parts (term_closed_under level a) (all_true (map (term_closed_under level) rest)) closed in
      below_each rest (App t (translated_term a)) known.1 parts.1 (below_apply level t (translated_term a) h (known.0 parts.0))

  term_below : (t : Term) → TermBelow t
  term_below =
      term_induction
      TermBelow
      (λ n closed. subst (IsBelow level) (sym (translated-Var n)) (subst (VariablesBelow level) (sym (view_Var n)) (below_var level n ((Decides-ltb n level).0 (sym (closed-Var n level) ∙ closed)))))
      (λ head args known closed. subst (IsBelow level) (sym (translated-App head args)) (below_each args (Sym (identifier_of head)) known (sym (closed-App head args level) ∙ closed) (below_symbol level (identifier_of head))))
      (λ closed. subst (IsBelow level) (sym translated-Any) (below_symbol level any_name))

abbrev FormulaBelow : Formula → Type 0
FormulaBelow f = (level : ℕ) → closed_under f level ≡ true → IsBelow level (translated f)

below_two : (name : List ℕ) (a b f : Formula) → translated f ≡ connected name (translated a) (translated b)
    → ((level : ℕ) → closed_under f level ≡ (closed_under a level && closed_under b level)) → FormulaBelow a → FormulaBelow b → FormulaBelow f
below_two name a b f e c h k level closed =
    let parts = and_parts (closed_under a level) (closed_under b level) (sym (c level) ∙ closed) in
    subst (IsBelow level) (sym e) (below_connected level name (translated a) (translated b) (h level parts.0) (k level parts.1))

pub translated_below : (f : Formula) → FormulaBelow f
translated_below =
    formula_induction
    FormulaBelow
    (λ level closed. subst (IsBelow level) (sym translated-True) (below_symbol level top_name))
    (λ level closed. subst (IsBelow level) (sym translated-False) (below_symbol level bot_name))
    (λ head args level closed. subst (IsBelow level) (sym (translated-Atom head args)) (below_each level args (Sym (identifier_of head)) (for_each (TermBelow level) (term_below level) args) (sym (closed-Atom head args level) ∙ closed) (below_symbol level (identifier_of head))))
    (λ a h level closed. subst (IsBelow level) (sym (translated-Not a)) (below_apply level (Sym not_name) (translated a) (below_symbol level not_name) (h level (sym (closed-Not a level) ∙ closed))))
    (λ a b h k. below_two and_name a b (And a b) (translated-And a b) (closed-And a b) h k)
    (λ a b h k. below_two or_name a b (Or a b) (translated-Or a b) (closed-Or a b) h k)
    (λ a b h k. below_two imp_name a b (Imp a b) (translated-Imp a b) (closed-Imp a b) h k)
    (λ a b h k. below_two iff_name a b (Iff a b) (translated-Iff a b) (closed-Iff a b) h k)
    (λ a h level closed. subst (IsBelow level) (sym (translated-All a)) (below_quantified level all_name (translated a) (h (level + 1) (sym (closed-All a level) ∙ closed))))
    (λ a h level closed. subst (IsBelow level) (sym (translated-Ex a)) (below_quantified level ex_name (translated a) (h (level + 1) (sym (closed-Ex a level) ∙ closed))))

-- the translation of a closed formula has no free variable
pub closed_translation : (f : Formula) → IsClosed f → VariablesBelow 0 (term_of (translated f))
closed_translation f closed = translated_below f 0 closed
