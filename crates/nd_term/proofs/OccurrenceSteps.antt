-- Whether a variable occurs, in each kind of term and formula.
use Rattle.std.proofs.Common.{◌≡◌, ℕ, Bool, true, false, ◌||◌, List, [], ◌∷◌, map, refl, ap, sym, ◌∙◌}
use Rattle.std.proofs.lemmas.Grind.{common_steps}
use Rattle.dk_syntax.specs.Lists.{any_true}
use Rattle.dk_syntax.specs.declared.Term.{Term}
use Rattle.nd_term.specs.Formulas.{FormulaTerm, applied, symbol}
use Rattle.nd_term.specs.Reading.{occurs_term}
use Rattle.nd_term.specs.Views.{applied_each, theory_term}
use Rattle.nd_term.proofs.FormulaViews.{theory-All, theory-And, theory-Any, theory-App, theory-Atom, theory-Ex, theory-False, theory-Iff, theory-Imp, theory-Not, theory-Or, theory-True, theory-Var}

or_last : (a : Bool) → a ≡ (a || false)
or_last true = refl
or_last false = refl

or_three : (a b c : Bool) → ((a || b) || c) ≡ (a || (b || c))
or_three true b c = refl
or_three false b c = refl

occurs_each : (k : ℕ) (h : FormulaTerm) (args : List Term) → occurs_term k (applied_each h (map theory_term args)) ≡ (occurs_term k h || any_true (map (λ t. occurs_term k (theory_term t)) args))
occurs_each k h [] = or_last (occurs_term k h)
occurs_each k h (t ∷ rest) = occurs_each k (applied h (theory_term t)) rest ∙ or_three (occurs_term k h) (occurs_term k (theory_term t)) (any_true (map (λ u. occurs_term k (theory_term u)) rest))

-- the variable occurs in an application where it occurs in an argument
pub occurs_applied : (k : ℕ) (x : List ℕ) (args : List Term) → occurs_term k (applied_each (symbol x) (map theory_term args)) ≡ any_true (map (λ t. occurs_term k (theory_term t)) args)
occurs_applied k x args = occurs_each k (symbol x) args

pub ruleset occurrence_steps = (common_steps, occurs_applied, theory-All, theory-And, theory-Any, theory-App, theory-Atom, theory-Ex, theory-False, theory-Iff, theory-Imp, theory-Not, theory-Or, theory-True, theory-Var)
