-- A derivation has one development, and what no conversion refuses.
use Rattle.std.proofs.Common.{◌≡◌, ℕ, List, Ok, sym, ◌∙◌, ap, subst}
use Rattle.std.specs.declared.result.Result.{Result}
use Rattle.derivation_graph.specs.Graphs.{HasNoCycle}
use Rattle.dk_syntax.specs.Problems.{HasItsSymbols}
use Rattle.plan.proofs.OnePlan.{plans_are_one}
use Rattle.plan.specs.Laws.{AreWellFormed}
use Rattle.plan.specs.declared.plan.Plan.{Plan}
use Rattle.plan_symbols.specs.Laws.{RootsAreWellFormed}
use Rattle.dk_cli.specs.Conversion.{IsDeveloped, IsWritten}
use Rattle.dk_cli.specs.Planning.{IsPlanOf}
use Rattle.dk_cli.specs.Syntaxes.{text_in}
use Rattle.dk_cli.specs.declared.syntax.Syntax.{Syntax}
use Rattle.dk_cli.specs.declared.derivation.Derivation.{Derivation}
use Rattle.dk_cli.specs.declared.refusal.Refusal.{Refusal}
use Rattle.dk_cli.specs.declared.refusal.Refusal.TheVariants.{Memory}
use Rattle.dk_cli.proofs.DerivationLaws.{IsLater}
use Rattle.dk_cli.proofs.OneBody.{one_development}
use Rattle.dk_cli.proofs.PlanningLaws.{plan_found, plan_later, plan_refuses}
use Rattle.dk_cli.proofs.StageLaws.{IsOne, Only, one_of_refusing, only_follows}

pub written_later : (syntax : Syntax) (d : Derivation) (plan : Plan) (answer : Result (List ℕ) Refusal) → IsWritten syntax d plan answer → Only IsLater answer
written_later syntax d plan answer (development, is, printed, same) = subst (Only IsLater) (sym same) tt

pub developed_later : (syntax : Syntax) (d : Derivation) (limit : ℕ) (answer : Result (List ℕ) Refusal) → IsDeveloped syntax limit d answer → Only IsLater answer
developed_later syntax d limit = only_follows IsLater (IsPlanOf limit d) (IsWritten syntax d) (plan_later limit d) (written_later syntax d)

module _ (roots : RootsAreWellFormed) (syntax : Syntax) (limit : ℕ) (d : Derivation) (acyclic : HasNoCycle d.graph.parents) (symbols : HasItsSymbols d.problem) (formed : AreWellFormed d.trace.steps) where
  pub written_same : (x y : Plan) → IsPlanOf limit d (Ok x) → IsPlanOf limit d (Ok y) → (one other : Result (List ℕ) Refusal) → IsWritten syntax d x one → IsWritten syntax d y other → one ≡ other
  written_same x y found another one other (made, is, printed, same) (remade, is_also, reprinted, same_also) =
      let h = plan_found limit d x found in
      let alike = plans_are_one d.problem d.trace limit x y h (plan_found limit d y another) in
      let order = alike.order formed (roots d.problem d.trace limit x h symbols formed) in
      same ∙ ap (λ development. Ok (text_in syntax development)) (one_development d.problem d.trace x y alike order made remade is is_also) ∙ sym same_also

  pub one_developed : IsOne Memory (IsDeveloped syntax limit d)
  one_developed = one_of_refusing (IsPlanOf limit d) (IsWritten syntax d) (plan_refuses limit d acyclic) (λ x y found another one other h k not_one not_other. written_same x y found another one other h k)
