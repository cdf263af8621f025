-- The verdicts on the steps of a derivation, and the first step that is wrong or over a limit.
use Rattle.std.specs.Prelude.{◌≡◌, ◌-◌, List, Ok, Err, None, Some, slice_get}
use Rattle.std.specs.declared.result.Result.{Result}
use Rattle.step_check.specs.Freshness.{AreVerdicts, IsFirstBad}
use Rattle.step_check.specs.Steps.{case_of}
use Rattle.step_check.specs.declared.verdict.Verdict.{Verdict}
use Rattle.step_check.specs.declared.verdict.Verdict.TheVariants as verdict
use Rattle.step_check.specs.declared.verdict.Verdicts.{Verdicts}
use Rattle.dk_cli.specs.Stages.{Follows}
use Rattle.dk_cli.specs.declared.derivation.Derivation.{Derivation}
use Rattle.dk_cli.specs.declared.refusal.Refusal.{Refusal}
use Rattle.dk_cli.specs.declared.refusal.Refusal.TheVariants.{Step}
use Rattle.dk_cli.specs.declared.refusal.StepFault.TheVariants.{Wrong, Over}

-- These are the verdicts on the steps, in order.
abbrev pub HasVerdicts : Derivation → List Verdict → Type 0
HasVerdicts d verdicts = AreVerdicts (case_of d.problem d.trace d.graph) verdicts

-- No step is bad, or this is the first that is.
abbrev pub AreRight : List Verdict → Result Unit Refusal → Type 0
AreRight verdicts (Ok nothing) = IsFirstBad verdicts None
AreRight verdicts (Err (Step step (Wrong reason))) = IsFirstBad verdicts (Some step) × (slice_get verdicts (step - 1) ≡ Some (verdict.Wrong reason))
AreRight verdicts (Err (Step step (Over limit))) = IsFirstBad verdicts (Some step) × (slice_get verdicts (step - 1) ≡ Some (verdict.Over limit))
AreRight verdicts (Err other) = ⊥

-- The derivation's verdicts where no step is bad, or the first that is.
abbrev pub IsJudged : Derivation → Result Verdicts Refusal → Type 0
IsJudged d answer = (verdicts : Verdicts) × HasVerdicts d verdicts.list × Follows (AreRight verdicts.list) (λ nothing end. end ≡ Ok verdicts) answer
