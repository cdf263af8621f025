-- The text of each derived step as a problem: that its formula follows from its parents' formulas.
use Rattle.std.specs.Prelude.{ℕ, suc, Bool, true, false, List, [], ◌∷◌, ◌++◌, codes, decimal, Option, None, Some}
use Rattle.std.specs.List.{flat_map}
use Rattle.derivation_graph.specs.Graphs.{parents_in}
use Rattle.dk_syntax.specs.declared.Formula.{Formula}
use Rattle.dk_syntax.specs.declared.Formula.TheVariants.{Not}
use Rattle.step_check.specs.Steps.{step_in}
use Rattle.tptp_text.specs.Printed.{printed_item, printed_item_name}
use Rattle.tstp_trace.specs.declared.step.Step.{Step}
use Rattle.tstp_trace.specs.declared.step.StepSource.{StepSource}
use Rattle.tstp_trace.specs.declared.step.StepSource.TheVariants.{Leaf, Derived}

-- what a parent gives: its formula, or the negation for a step that negates the conjecture
abbrev pub premise_of : Bool → Formula → Formula
premise_of true formula = Not formula
premise_of false formula = formula

-- a parent as an axiom, and nothing where there is no such step
abbrev pub axiom_text : Bool → Option Step → List ℕ
axiom_text cth None = []
axiom_text cth (Some parent) = printed_item parent.name (codes "axiom") (premise_of cth parent.formula)

-- the parents with these numbers as axioms, in order
abbrev pub axioms_text : List Step → Bool → List ℕ → List ℕ
axioms_text steps cth parents = flat_map (λ parent. axiom_text cth (step_in steps parent)) parents

-- `% step NUMBER NAME`
abbrev pub heading_text : ℕ → List ℕ → List ℕ
heading_text number name = codes "% step " ++ decimal number ++ codes " " ++ printed_item_name name

-- a step that isn't claimed to follow from its parent
abbrev pub skolem_text : ℕ → Step → List ℕ
skolem_text number step = heading_text number step.name ++ codes ": skolem\n"

-- the parents as axioms and the step as the conjecture
abbrev pub consequence_text : List Step → Bool → List ℕ → ℕ → Step → List ℕ
consequence_text steps cth parents number step =
    heading_text number step.name ++ codes "\n" ++ axioms_text steps cth parents ++ printed_item step.name (codes "conjecture") step.formula

-- the text of a derived step from its parents' numbers; a Skolem step has one line, also where it is a negation
abbrev pub derived_text : List Step → Bool → Bool → List ℕ → ℕ → Step → List ℕ
derived_text steps cth true parents number step = skolem_text number step
derived_text steps cth false parents number step = consequence_text steps cth parents number step

-- the same by where the step comes from; a leaf has no text
abbrev pub text_from : StepSource → List Step → List ℕ → ℕ → Step → List ℕ
text_from (Leaf name) steps parents number step = []
text_from (Derived cth esa names) steps parents number step = derived_text steps cth esa parents number step

module _ (steps : List Step) (rows : List (List ℕ)) where
  -- the text of a step, which has that number
  abbrev pub problem_text : ℕ → Step → List ℕ
  problem_text number step = text_from step.source steps (parents_in rows number) number step

  -- the same, and nothing where there is no such step
  abbrev pub problem_at : ℕ → Option Step → List ℕ
  problem_at number None = []
  problem_at number (Some step) = problem_text number step

  -- the text of the step with that number
  abbrev pub problem_of : ℕ → List ℕ
  problem_of number = problem_at number (step_in steps number)

  -- the texts of these steps in order, the first of which has that number
  abbrev pub problems_from : ℕ → List Step → List ℕ
  problems_from number [] = []
  problems_from number (step ∷ more) = problem_text number step ++ problems_from (suc number) more

  -- the texts of all derived steps, in order
  abbrev pub problems_of : List ℕ
  problems_of = problems_from 1 steps
