-- The leaves of origins are formulas of the problem, over its signature.
use Rattle.std.proofs.Common.{ℕ, Bool, List, [], ◌∷◌, map, Option, Some, None, subst, ⊎_elim, inl, inr}
use Rattle.std.specs.List.{Contains}
use Rattle.assemble.proofs.SymbolLaws.{problem_over}
use Rattle.assemble.specs.Problem.{problem_signature, theory_conclusion, theory_formulas}
use Rattle.assemble.specs.ProblemLaws.{IsProper}
use Rattle.dk_syntax.specs.Lists.{Every, every_cons, every_nil}
use Rattle.dk_syntax.specs.Problems.{formula_of, formulas_of}
use Rattle.dk_syntax.specs.declared.Named.{Named}
use Rattle.dk_syntax.specs.declared.Problem.{Problem}
use Rattle.dk_syntax.specs.declared.formula.Formula.{Formula}
use Rattle.lp_term.specs.Typing.{Declaration}
use Rattle.nd_term.specs.Symbols.{FormulaOver}
use Rattle.nd_term.specs.Views.{theory_formula}
use Rattle.plan.proofs.LeafSymbols.{leaf_in_problem}
use Rattle.plan.proofs.Membership.{Among, among, among_either}
use Rattle.plan.proofs.OriginLaws.{from_origin}
use Rattle.plan.proofs.StepMaps.{verdict_of}
use Rattle.plan.specs.Laws.{AreRightSteps, judged_of}
use Rattle.plan.specs.Maps.{HasLeaf, IsMapOf, to_form, to_image}
use Rattle.plan.specs.Origins.{AreOrigins}
use Rattle.skolem_order.specs.declared.origins.Origin.{Origin}
use Rattle.step_check.specs.Steps.{Case}
use Rattle.step_check.specs.declared.verdict.Verdict.{Verdict}
use Rattle.step_skolem.specs.declared.map.SkEntry.{SkEntry}

module _ (sig : List Declaration) where
  abbrev Over : Formula → Type 0
  Over f = FormulaOver sig (theory_formula f)

  one_over : (hypotheses : List Named) → Every (FormulaOver sig) (theory_formulas hypotheses) → (f : Formula) → Among (map (λ (named : Named). named.formula) hypotheses) f → Over f
  one_over [] every_nil f m = absurd m
  one_over (h ∷ rest) (every_cons i is) f (inl e) = subst Over e i
  one_over (h ∷ rest) (every_cons i is) f (inr m) = one_over rest is f m

  conjecture_over : (conjecture : Option Named) → FormulaOver sig (theory_conclusion conjecture) → (f : Formula) → Among (formula_of conjecture) f → Over f
  conjecture_over None over f m = absurd m
  conjecture_over (Some named) over f (inl e) = subst Over e over
  conjecture_over (Some named) over f (inr m) = absurd m

-- a formula of the problem is over its signature
pub formula_known : (problem : Problem) → IsProper problem → (f : Formula) → Among (formulas_of problem) f → FormulaOver (problem_signature problem.symbols) (theory_formula f)
formula_known problem proper f m =
    let sig = problem_signature problem.symbols in
    let all = problem_over problem proper.formed proper.symbols in
    ⊎_elim (λ i. one_over sig problem.hyps all.0 f i) (λ i. conjecture_over sig problem.conjecture all.1 f i)
    (among_either (map (λ (named : Named). named.formula) problem.hyps) (formula_of problem.conjecture) f m)

module _ (case : Case) (list : List Verdict) (s : AreRightSteps case list) where
  leaf_known : {i : ℕ} {f : Formula} {sign : Bool} → HasLeaf (judged_of case list) i f sign → Among (formulas_of case.problem) f
  leaf_known leaf =
      subst (λ f. Among (formulas_of case.problem) f) leaf.formula
      (leaf_in_problem case (verdict_of case list s.are s.right s.acyclic leaf.base leaf.verdict leaf.here) leaf.leaf leaf.step leaf.stands)

  -- the leaf of a map is a formula of the problem
  pub map_known : {i : ℕ} {f : Formula} {sign : Bool} {entries : List SkEntry} → IsMapOf (judged_of case list) i f sign entries → Among (formulas_of case.problem) f
  map_known (to_form a) = leaf_known a.leaf
  map_known (to_image a) = leaf_known a.leaf

  -- the leaf of an origin is over the problem's signature
  pub origin_leaf_over : IsProper case.problem → (origins : List Origin) → AreOrigins (judged_of case list) origins → (o : Origin) → Contains origins o
      → FormulaOver (problem_signature case.problem.symbols) (theory_formula o.leaf)
  origin_leaf_over proper origins os o c =
      formula_known case.problem proper o.leaf (map_known (from_origin (judged_of case list) 0 list origins os o (among origins o c)).origin.maps)
