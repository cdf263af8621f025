-- Translations of terms and formulas are those of the theory.
use Rattle.std.proofs.Common.{◌≡◌, ◌<◌, ℕ, zero, suc, List, [], ◌∷◌, map, refl, sym, ap, ap₂, ◌∙◌, rules, arith}
use Rattle.dk_syntax.specs.WellFormed.{IsClosed}
use Rattle.dk_syntax.specs.declared.Formula.{Formula, the_lemmas as of_formulas}
use Rattle.dk_syntax.specs.declared.Formula.TheVariants.{True, False, Atom, Not, And, Or, Imp, Iff, All, Ex}
use Rattle.dk_syntax.specs.declared.SymKey.{SymKey}
use Rattle.dk_syntax.specs.declared.Term.{Term, the_lemmas as of_terms}
use Rattle.dk_syntax.specs.declared.Term.TheVariants as term
use Rattle.dk_syntax.proofs.FormulaLaws.{formula_induction}
use Rattle.dk_syntax.proofs.ListLaws.{ForEach, for_each}
use Rattle.dk_syntax.proofs.TermLaws.{term_induction}
use Rattle.lp_term.specs.Identifiers.{identifier_of}
use Rattle.lp_term.specs.Names.{all_name, and_name, any_name, bot_name, ex_name, iff_name, imp_name, or_name, top_name}
use Rattle.lp_term.specs.Connectives.{all, and, ex, iff, imp, individuals, neg, or}
use Rattle.lp_term.specs.LambdaPi.{Term as TheoryTerm, app, con, lam, substitute, under_binder, var}
use Rattle.lp_term.specs.Translation.{apply_each, translated, translated_term}
use Rattle.lp_term.specs.View.{term_of}
use Rattle.lp_term.specs.declared.Lp.{Lp}
use Rattle.lp_term.specs.declared.Lp.TheVariants.{Sym, App}
use Rattle.lp_term.proofs.ScopeLaws.{below_same}
use Rattle.lp_term.proofs.SubstitutionLaws.{ext}
use Rattle.lp_term.proofs.TranslationLaws.{closed_translation, translated-All, translated-And, translated-Any, translated-App, translated-Atom, translated-Ex, translated-False, translated-Iff, translated-Imp, translated-Not, translated-Or, translated-True, translated-Var, view_connected, view_negation, view_quantified}
use Rattle.lp_term.proofs.ViewLaws.{view_App, view_Sym, view_Var}
use Rattle.nd_term.specs.Formulas.{FormulaTerm, applied, atomic, bound, conjunction, disjunction, equivalence, existential, falsity, implication, negation, symbol, truth, universal}
use Rattle.nd_term.specs.Translation.{sentence, translated as theory_translated, translated_term as theory_translated_term}
use Rattle.nd_term.specs.Views.{applied_each, theory_formula, theory_term}
use Rattle.nd_term.proofs.TranslationLaws.{translated_substitute}

-- ---- the definitions at each kind of term and formula

pub theory-Var : (n : ℕ) → theory_term (term.Var n) ≡ bound n
theory-Var n = search (rules, of_terms)

pub theory-App : (head : SymKey) (args : List Term) → theory_term (term.App head args) ≡ applied_each (symbol (identifier_of head)) (map theory_term args)
theory-App head args = search (rules, of_terms)

pub theory-Any : theory_term term.Any ≡ symbol any_name
theory-Any = search (rules, of_terms)

pub theory-True : theory_formula True ≡ truth
theory-True = search (rules, of_formulas)

pub theory-False : theory_formula False ≡ falsity
theory-False = search (rules, of_formulas)

pub theory-Atom : (head : SymKey) (args : List Term) → theory_formula (Atom head args) ≡ atomic (applied_each (symbol (identifier_of head)) (map theory_term args))
theory-Atom head args = search (rules, of_formulas)

pub theory-Not : (a : Formula) → theory_formula (Not a) ≡ negation (theory_formula a)
theory-Not a = search (rules, of_formulas)

pub theory-And : (a b : Formula) → theory_formula (And a b) ≡ conjunction (theory_formula a) (theory_formula b)
theory-And a b = search (rules, of_formulas)

pub theory-Or : (a b : Formula) → theory_formula (Or a b) ≡ disjunction (theory_formula a) (theory_formula b)
theory-Or a b = search (rules, of_formulas)

pub theory-Imp : (a b : Formula) → theory_formula (Imp a b) ≡ implication (theory_formula a) (theory_formula b)
theory-Imp a b = search (rules, of_formulas)

pub theory-Iff : (a b : Formula) → theory_formula (Iff a b) ≡ equivalence (theory_formula a) (theory_formula b)
theory-Iff a b = search (rules, of_formulas)

pub theory-All : (a : Formula) → theory_formula (All a) ≡ universal (theory_formula a)
theory-All a = search (rules, of_formulas)

pub theory-Ex : (a : Formula) → theory_formula (Ex a) ≡ existential (theory_formula a)
theory-Ex a = search (rules, of_formulas)

-- ---- terms

-- each variable as it is
abbrev as_it_is : ℕ → TheoryTerm
as_it_is n = var n

abbrev TermIs : Term → Type 0
TermIs t = term_of (translated_term t) ≡ theory_translated_term as_it_is (theory_term t)

applied_view : (args : List Term) (t : Lp) (h : FormulaTerm) → ForEach TermIs args → term_of t ≡ theory_translated_term as_it_is h
    → term_of (apply_each t (map translated_term args)) ≡ theory_translated_term as_it_is (applied_each h (map theory_term args))
applied_view [] t h same e = e
applied_view (a ∷ rest) t h same e =
    applied_view rest (App t (translated_term a)) (applied h (theory_term a)) same.1 (view_App t (translated_term a) ∙ ap₂ app e same.0)

view_term : (t : Term) → TermIs t
view_term =
    term_induction
    TermIs
    (λ n. ap term_of (translated-Var n) ∙ view_Var n ∙ sym (ap (theory_translated_term as_it_is) (theory-Var n)))
    (λ head args same. ap term_of (translated-App head args) ∙ applied_view args (Sym (identifier_of head)) (symbol (identifier_of head)) same (view_Sym (identifier_of head))
    ∙ sym (ap (theory_translated_term as_it_is) (theory-App head args)))
    (ap term_of translated-Any ∙ view_Sym any_name ∙ sym (ap (theory_translated_term as_it_is) theory-Any))

-- ---- formulas

as_it_is_under : (n : ℕ) → as_it_is n ≡ under_binder as_it_is n
as_it_is_under zero = refl
as_it_is_under (suc n) = refl

abbrev FormulaIs : Formula → Type 0
FormulaIs f = term_of (translated f) ≡ theory_translated as_it_is (theory_formula f)

body_under : (a : Formula) → FormulaIs a → term_of (translated a) ≡ theory_translated (under_binder as_it_is) (theory_formula a)
body_under a h = h ∙ ap (λ v. theory_translated v (theory_formula a)) (ext as_it_is_under)

-- a translation is the theory's, its variables being as they are
pub view_formula : (f : Formula) → FormulaIs f
view_formula =
    formula_induction
    FormulaIs
    (ap term_of translated-True ∙ view_Sym top_name ∙ sym (ap (theory_translated as_it_is) theory-True))
    (ap term_of translated-False ∙ view_Sym bot_name ∙ sym (ap (theory_translated as_it_is) theory-False))
    (λ head args. ap term_of (translated-Atom head args)
    ∙ applied_view args (Sym (identifier_of head)) (symbol (identifier_of head)) (for_each TermIs view_term args) (view_Sym (identifier_of head))
    ∙ sym (ap (theory_translated as_it_is) (theory-Atom head args)))
    (λ a h. ap term_of (translated-Not a) ∙ view_negation (translated a) ∙ ap neg h ∙ sym (ap (theory_translated as_it_is) (theory-Not a)))
    (λ a b h k. ap term_of (translated-And a b) ∙ view_connected and_name (translated a) (translated b) ∙ ap₂ and h k ∙ sym (ap (theory_translated as_it_is) (theory-And a b)))
    (λ a b h k. ap term_of (translated-Or a b) ∙ view_connected or_name (translated a) (translated b) ∙ ap₂ or h k ∙ sym (ap (theory_translated as_it_is) (theory-Or a b)))
    (λ a b h k. ap term_of (translated-Imp a b) ∙ view_connected imp_name (translated a) (translated b) ∙ ap₂ imp h k ∙ sym (ap (theory_translated as_it_is) (theory-Imp a b)))
    (λ a b h k. ap term_of (translated-Iff a b) ∙ view_connected iff_name (translated a) (translated b) ∙ ap₂ iff h k ∙ sym (ap (theory_translated as_it_is) (theory-Iff a b)))
    (λ a h. ap term_of (translated-All a) ∙ view_quantified all_name (translated a) ∙ ap (λ b. all (lam individuals b)) (body_under a h) ∙ sym (ap (theory_translated as_it_is) (theory-All a)))
    (λ a h. ap term_of (translated-Ex a) ∙ view_quantified ex_name (translated a) ∙ ap (λ b. ex (lam individuals b)) (body_under a h) ∙ sym (ap (theory_translated as_it_is) (theory-Ex a)))

-- ---- closed formulas

-- the translation of a closed formula
pub closed_sentence : (f : Formula) → IsClosed f → term_of (translated f) ≡ sentence (theory_formula f)
closed_sentence f closed =
    let any : ℕ → TheoryTerm = λ n. con any_name in
    sym (below_same any (λ k l. absurd (omega (arith, l))) (closed_translation f closed))
    ∙ ap (substitute any) (view_formula f)
    ∙ translated_substitute any as_it_is (theory_formula f)
