-- A plan for files that were read is a proper one.
use Rattle.std.proofs.Common.{ℕ, List, [], ◌∷◌}
use Rattle.std.specs.List.{AllByRecursion}
use Rattle.std.proofs.lemmas.List.Elements.{recursion_from_All}
use Rattle.assemble.specs.ProblemLaws.{IsProper}
use Rattle.dk_syntax.specs.Lists.{Every, every_cons, every_nil}
use Rattle.dk_syntax.specs.Problems.{formulas_of}
use Rattle.dk_syntax.specs.WellFormed.{IsClosed, IsWellFormed}
use Rattle.dk_syntax.specs.declared.Problem.{Problem}
use Rattle.plan.specs.Plans.{IsPlan}
use Rattle.plan.specs.declared.plan.Plan.{Plan}
use Rattle.plan_typing.specs.Laws.{IsProperPlan}
use Rattle.tptp_text.specs.ProperItems.{IsProper as IsProperFormula}
use Rattle.tstp_trace.specs.declared.Trace.{Trace}
use Rattle.dk_cli.specs.Steps.{AreRead}

every_of : {A : Type 0} (P Q : A → Type 0) → ((a : A) → P a → Q a) → (list : List A) → AllByRecursion P list → Every Q list
every_of P Q each [] all = every_nil
every_of P Q each (a ∷ list) (here, all) = every_cons (each a here) (every_of P Q each list all)

module _ (problem : Problem) (trace : Trace) (read : AreRead problem trace) where
  each : AllByRecursion IsProperFormula (formulas_of problem)
  each = recursion_from_All IsProperFormula (formulas_of problem) read.proper

  is_proper : IsProper problem
  is_proper = record {
    closed = every_of IsProperFormula IsClosed (λ f is. is.closed) (formulas_of problem) each;
    formed = every_of IsProperFormula IsWellFormed (λ f is. is.well_formed) (formulas_of problem) each;
    symbols = read.symbols;
  }

  pub proper_plan : (limit : ℕ) (plan : Plan) → IsPlan problem trace limit plan → IsProperPlan problem trace limit plan
  proper_plan limit plan is = record {
    proper = is_proper;
    names = read.items;
    formed = read.formed;
    plan_is = is;
  }
