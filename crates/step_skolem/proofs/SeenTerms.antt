-- What stands in a term's instance at the first place of a variable.
use Rattle.std.proofs.Common.{◌≡◌, ◌-◌, ℕ, nat_eq, Bool, true, ◌||◌, List, [], ◌∷◌, map, Option, None, refl, ap, ap₂, ◌∙◌, rules}
use Rattle.std.specs.Prelude.{nat_le, nat_lt}
use Rattle.std.proofs.lemmas.Grind.{common_steps}
use Rattle.dk_syntax.specs.Lists.{all_true}
use Rattle.dk_syntax.specs.declared.SymKey.{SymKey}
use Rattle.dk_syntax.specs.declared.term.Term.{Term, the_lemmas as of_terms}
use Rattle.dk_syntax.specs.declared.term.Term.TheVariants.{Any, App, Var}
use Rattle.normal_form.proofs.FormLaws.{form-All, form-And, form-Ex, form-False, form-Lit, form-Or, form-True}
use Rattle.step_skolem.specs.Searching.{applied_in, args_of, covers_term, seen_first, seen_term, seen_terms, some_if, variable_of, variables_of, applied_if}

-- ---- the definitions at each kind of term

pub seen-Var : (k j : ℕ) (there : Term) → seen_term k (Var j) there ≡ some_if (nat_eq j k) there
seen-Var k j there = search (rules, of_terms)

pub seen-App : (k : ℕ) (f : SymKey) (args : List Term) (there : Term) → seen_term k (App f args) there ≡ seen_terms k args (args_of there)
seen-App k f args there = search (rules, of_terms)

pub seen-Any : (k : ℕ) (there : Term) → seen_term k Any there ≡ None
seen-Any k there = search (rules, of_terms)

pub args-Var : (j : ℕ) → args_of (Var j) ≡ []
args-Var j = search (rules, of_terms)

pub args-App : (f : SymKey) (args : List Term) → args_of (App f args) ≡ args
args-App f args = search (rules, of_terms)

pub args-Any : args_of Any ≡ []
args-Any = search (rules, of_terms)

pub seen_nowhere : (looks : List (Term → Option Term)) → seen_first looks [] ≡ None
seen_nowhere [] = refl
seen_nowhere (look ∷ looks) = refl

-- an application has no places in a term that is none
pub seen_beside_variable : (k : ℕ) (t there : Term) (f : SymKey) (args : List Term) (j : ℕ) → t ≡ App f args → there ≡ Var j → seen_term k t there ≡ None
seen_beside_variable k t there f args j e i =
    ap₂ (seen_term k) e i ∙ seen-App k f args (Var j) ∙ ap (seen_terms k args) (args-Var j) ∙ seen_nowhere (map (seen_term k) args)

pub seen_beside_any : (k : ℕ) (t there : Term) (f : SymKey) (args : List Term) → t ≡ App f args → there ≡ Any → seen_term k t there ≡ None
seen_beside_any k t there f args e i = ap₂ (seen_term k) e i ∙ seen-App k f args Any ∙ ap (seen_terms k args) args-Any ∙ seen_nowhere (map (seen_term k) args)

pub variable-Var : (between y : ℕ) → variable_of between (Var y) ≡ some_if (nat_le between y) (y - between)
variable-Var between y = search (rules, of_terms)

pub variable-App : (between : ℕ) (f : SymKey) (args : List Term) → variable_of between (App f args) ≡ None
variable-App between f args = search (rules, of_terms)

pub variable-Any : (between : ℕ) → variable_of between Any ≡ None
variable-Any between = search (rules, of_terms)

pub applied-Var : (between y : ℕ) → applied_in between (Var y) ≡ None
applied-Var between y = search (rules, of_terms)

pub applied-App : (between : ℕ) (f : SymKey) (args : List Term) → applied_in between (App f args) ≡ applied_if f (variables_of between args)
applied-App between f args = search (rules, of_terms)

pub applied-Any : (between : ℕ) → applied_in between Any ≡ None
applied-Any between = search (rules, of_terms)

pub covers-Var : (p : ℕ → Bool) (bound k : ℕ) → covers_term p bound (Var k) ≡ (nat_lt k bound || p (k - bound))
covers-Var p bound k = search (rules, of_terms)

pub covers-App : (p : ℕ → Bool) (bound : ℕ) (f : SymKey) (args : List Term) → covers_term p bound (App f args) ≡ all_true (map (covers_term p bound) args)
covers-App p bound f args = search (rules, of_terms)

pub covers-Any : (p : ℕ → Bool) (bound : ℕ) → covers_term p bound Any ≡ true
covers-Any p bound = search (rules, of_terms)

pub ruleset seen_steps = (common_steps, seen-Var, seen-App, seen-Any, args-Var, args-App, args-Any, seen_nowhere, variable-Var, variable-App, variable-Any, applied-Var, applied-App, applied-Any, covers-Var, covers-App, covers-Any, form-All, form-And, form-Ex, form-False, form-Lit, form-Or, form-True)
