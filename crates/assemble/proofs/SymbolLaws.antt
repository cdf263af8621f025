-- The symbols of a problem's formulas are declared, and its well-formed formulas are over them.
use Rattle.std.proofs.Common.{◌≡◌, ℕ, Bool, true, false, ◌||◌, if◌then◌else◌, List, [], ◌∷◌, ◌++◌, map, Option, Some, None, refl, sym, ap, subst}
use Rattle.std.specs.List.{list_any}
use Rattle.dk_syntax.specs.Lists.{Every, every_cons, every_nil}
use Rattle.dk_syntax.specs.Problems.{HasItsSymbols, formula_of, formulas_of}
use Rattle.dk_syntax.specs.Symbols.{formula_occurrences, joined, same_symbol, with_symbol, with_symbols}
use Rattle.dk_syntax.specs.WellFormed.{IsWellFormed}
use Rattle.dk_syntax.specs.declared.Formula.{Formula}
use Rattle.dk_syntax.specs.declared.Named.{Named}
use Rattle.dk_syntax.specs.declared.Problem.{Problem}
use Rattle.dk_syntax.specs.declared.SymKey.{SymKey}
use Rattle.dk_syntax.proofs.SymbolLaws.{symbols_same}
use Rattle.lp_term.specs.Identifiers.{identifier_of}
use Rattle.lp_term.specs.LambdaPi.{Term}
use Rattle.lp_term.specs.Signature.{prelude_declarations}
use Rattle.lp_term.specs.Typing.{Declaration, Declares, declared_here, declared_later}
use Rattle.nd_term.specs.Symbols.{FormulaOver, function_type, over_falsity}
use Rattle.nd_term.specs.Views.{DeclaresSymbol, theory_formula}
use Rattle.nd_term.proofs.ListLaws.{every_along, every_parts}
use Rattle.nd_term.proofs.OverLaws.{formula_over}
use Rattle.assemble.specs.Problem.{declaration_of, declarations_of, gives_proposition, problem_signature, result_type, theory_conclusion, theory_formulas, theory_symbol}
use Rattle.assemble.proofs.ProblemLaws.{signature_extends}
use Rattle.assemble.proofs.SignatureViews.{view_symbol_type}

-- ---- what symbols declare

-- the type that a symbol is declared with
abbrev pub type_of_symbol : SymKey → Term
type_of_symbol one = function_type one.arity (result_type (gives_proposition one.kind))

-- the symbol is declared by these
abbrev pub IsIn : List SymKey → SymKey → Type 0
IsIn symbols one = Declares (declarations_of (map theory_symbol symbols)) (identifier_of one) (type_of_symbol one)

first_in : (one : SymKey) (rest : List SymKey) → IsIn (one ∷ rest) one
first_in one rest = declared_here _ _

last_in : (seen : List SymKey) (one : SymKey) → IsIn (seen ++ one ∷ []) one
last_in [] one = first_in one []
last_in (other ∷ seen) one = declared_later _ (last_in seen one)

declares_left : {l : List Declaration} {s : List ℕ} {a : Term} (m : List Declaration) → Declares l s a → Declares (l ++ m) s a
declares_left m (declared_here l d) = declared_here (l ++ m) d
declares_left m (declared_later d h) = declared_later d (declares_left m h)

declarations_more : (seen others : List SymKey) → declarations_of (map theory_symbol (seen ++ others)) ≡ declarations_of (map theory_symbol seen) ++ declarations_of (map theory_symbol others)
declarations_more [] others = refl
declarations_more (one ∷ seen) others = ap (λ l. declaration_of (theory_symbol one) ∷ l) (declarations_more seen others)

still_in : (seen : List SymKey) (next one : SymKey) → IsIn seen one → IsIn (seen ++ next ∷ []) one
still_in seen next one h =
    subst (λ l. Declares l (identifier_of one) (type_of_symbol one)) (sym (declarations_more seen (next ∷ []))) (declares_left (declarations_of (map theory_symbol (next ∷ []))) h)

found_first : (b : Bool) (other one : SymKey) (seen : List SymKey) → same_symbol one other ≡ b → (b || list_any (same_symbol one) seen) ≡ true
    → (list_any (same_symbol one) seen ≡ true → IsIn seen one) → IsIn (other ∷ seen) one
found_first true other one seen e h more = subst (λ s. IsIn (other ∷ seen) s) (sym (symbols_same one other e)) (first_in other seen)
found_first false other one seen e h more = declared_later _ (more h)

found_in : (seen : List SymKey) (one : SymKey) → list_any (same_symbol one) seen ≡ true → IsIn seen one
found_in [] one h = absurd cc
found_in (other ∷ seen) one h = found_first (same_symbol one other) other one seen refl h (λ k. found_in seen one k)

added_keeps : (b : Bool) (seen : List SymKey) (next one : SymKey) → IsIn seen one → IsIn (if b then seen else seen ++ next ∷ []) one
added_keeps true seen next one h = h
added_keeps false seen next one h = still_in seen next one h

added_in : (b : Bool) (seen : List SymKey) (one : SymKey) → list_any (same_symbol one) seen ≡ b → IsIn (if b then seen else seen ++ one ∷ []) one
added_in true seen one e = found_in seen one e
added_in false seen one e = last_in seen one

symbols_keep : (seen list : List SymKey) (one : SymKey) → IsIn seen one → IsIn (with_symbols seen list) one
symbols_keep seen [] one h = h
symbols_keep seen (next ∷ rest) one h =
    symbols_keep (with_symbol seen next) rest one (added_keeps (list_any (same_symbol next) seen) seen next one h)

-- each occurrence is declared
pub symbols_in : (seen list : List SymKey) → Every (IsIn (with_symbols seen list)) list
symbols_in seen [] = every_nil
symbols_in seen (next ∷ rest) =
    every_cons (symbols_keep (with_symbol seen next) rest next (added_in (list_any (same_symbol next) seen) seen next refl)) (symbols_in (with_symbol seen next) rest)

-- ---- in a signature with the prelude

pub after_prelude : {m : List Declaration} {s : List ℕ} {a : Term} (l : List Declaration) → Declares m s a → Declares (l ++ m) s a
after_prelude [] h = h
after_prelude (d ∷ l) h = declared_later d (after_prelude l h)

declares_symbol : (symbols : List SymKey) (one : SymKey) → IsIn symbols one → DeclaresSymbol (problem_signature symbols) one
declares_symbol symbols one h = subst (Declares (problem_signature symbols) (identifier_of one)) (sym (view_symbol_type one)) (after_prelude prelude_declarations h)

-- ---- the formulas of a problem

-- the symbols that occur in the formulas are declared by these
abbrev pub AreDeclared : List SymKey → List Formula → Type 0
AreDeclared symbols formulas = Every (λ f. Every (IsIn symbols) (formula_occurrences f)) formulas

formulas_declared : (symbols : List SymKey) (formulas : List Formula) → Every (IsIn symbols) (joined (map formula_occurrences formulas)) → AreDeclared symbols formulas
formulas_declared symbols [] all = every_nil
formulas_declared symbols (f ∷ rest) all =
    let parts = every_parts (formula_occurrences f) (joined (map formula_occurrences rest)) all in every_cons parts.0 (formulas_declared symbols rest parts.1)

pub problem_declared : (problem : Problem) → HasItsSymbols problem → AreDeclared problem.symbols (formulas_of problem)
problem_declared problem e =
    let occurrences = joined (map formula_occurrences (formulas_of problem)) in
    formulas_declared problem.symbols (formulas_of problem)
    (subst (λ symbols. Every (IsIn symbols) occurrences) (sym e) (symbols_in [] occurrences))

module _ (symbols : List SymKey) where
  one_over : (f : Formula) → IsWellFormed f → Every (IsIn symbols) (formula_occurrences f) → FormulaOver (problem_signature symbols) (theory_formula f)
  one_over f formed declared =
      formula_over (problem_signature symbols) (signature_extends (map theory_symbol symbols)) f formed (every_along (declares_symbol symbols) declared)

  all_over : (formulas : List Formula) → Every IsWellFormed formulas → AreDeclared symbols formulas → Every (λ f. FormulaOver (problem_signature symbols) (theory_formula f)) formulas
  all_over [] every_nil every_nil = every_nil
  all_over (f ∷ rest) (every_cons i is) (every_cons j js) = every_cons (one_over f i j) (all_over rest is js)

  hypotheses_are : (hypotheses : List Named) → Every (λ f. FormulaOver (problem_signature symbols) (theory_formula f)) (map (λ named. named.formula) hypotheses)
      → Every (λ f. FormulaOver (problem_signature symbols) f) (theory_formulas hypotheses)
  hypotheses_are [] every_nil = every_nil
  hypotheses_are (h ∷ rest) (every_cons i is) = every_cons i (hypotheses_are rest is)

  conclusion_is : (conjecture : Option Named) → Every (λ f. FormulaOver (problem_signature symbols) (theory_formula f)) (formula_of conjecture)
      → FormulaOver (problem_signature symbols) (theory_conclusion conjecture)
  conclusion_is None every_nil = over_falsity
  conclusion_is (Some named) (every_cons i is) = i

-- the formulas of a problem are over its symbols
pub problem_over : (problem : Problem) → Every IsWellFormed (formulas_of problem) → HasItsSymbols problem
    → Every (λ f. FormulaOver (problem_signature problem.symbols) f) (theory_formulas problem.hyps) × FormulaOver (problem_signature problem.symbols) (theory_conclusion problem.conjecture)
problem_over problem formed has =
    let symbols = problem.symbols in
    let all = all_over symbols (formulas_of problem) formed (problem_declared problem has) in
    let parts = every_parts (map (λ named. named.formula) problem.hyps) (formula_of problem.conjecture) all in
    (hypotheses_are symbols problem.hyps parts.0, conclusion_is symbols problem.conjecture parts.1)
