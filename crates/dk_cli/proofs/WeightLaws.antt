-- The weight of a derivation's instances: one answer, and what it can be.
use Rattle.std.proofs.Common.{◌≡◌, ℕ, List, Ok, Err, sym, ◌∙◌, ap, subst}
use Rattle.std.specs.declared.result.Result.{Result}
use Rattle.derivation_graph.specs.Graphs.{HasNoCycle}
use Rattle.ground_instances.specs.declared.instance.Instance.{Instance}
use Rattle.ground_instances.specs.declared.instance.PullFault.{PullFault}
use Rattle.ground_instances.specs.declared.instance.PullFault.TheVariants as pull_fault
use Rattle.plan.proofs.OnePull.{pull_answers_are_one}
use Rattle.plan.specs.Laws.{AreRightSteps}
use Rattle.step_check.specs.Steps.{case_of}
use Rattle.step_check.specs.declared.verdict.Verdicts.{Verdicts}
use Rattle.dk_cli.specs.Judging.{IsJudged}
use Rattle.dk_cli.specs.Weight.{IsWeighed, weight_told}
use Rattle.dk_cli.specs.declared.derivation.Derivation.{Derivation}
use Rattle.dk_cli.specs.declared.refusal.Refusal.{Refusal}
use Rattle.dk_cli.specs.declared.refusal.Refusal.TheVariants as refusal
use Rattle.dk_cli.proofs.DerivationLaws.{IsLater}
use Rattle.dk_cli.proofs.JudgingLaws.{judged_right}
use Rattle.dk_cli.proofs.StageLaws.{IsOne, Only}

module _ (d : Derivation) (acyclic : HasNoCycle d.graph.parents) (limit root : ℕ) (verdicts : Verdicts) (judged : IsJudged d (Ok verdicts)) where
  pub one_weighed : IsOne refusal.Memory (IsWeighed d limit root verdicts)
  one_weighed one other (found, h, e) (another, k, f) not_one not_other =
      let found_right = judged_right d verdicts judged in
      let right : AreRightSteps (case_of d.problem d.trace d.graph) verdicts.list = record { are = found_right.are; right = found_right.right; acyclic = acyclic } in
      let same : found ≡ another =
      pull_answers_are_one (case_of d.problem d.trace d.graph) verdicts.list right root limit found another h k
      (λ lacks. not_one (e ∙ ap weight_told lacks)) (λ lacks. not_other (f ∙ ap weight_told lacks)) in
      e ∙ ap weight_told same ∙ sym f

told_later : (found : Result (List Instance) PullFault) → Only IsLater (weight_told found)
told_later (Ok instances) = tt
told_later (Err (pull_fault.OverWeight limit)) = tt
told_later (Err (pull_fault.OverWide step)) = tt
told_later (Err pull_fault.Memory) = tt

pub weighed_later : (d : Derivation) (limit root : ℕ) (verdicts : Verdicts) (answer : Result Unit Refusal) → IsWeighed d limit root verdicts answer → Only IsLater answer
weighed_later d limit root verdicts answer (found, h, e) = subst (Only IsLater) (sym e) (told_later found)
