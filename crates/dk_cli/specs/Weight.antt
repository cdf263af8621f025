-- Whether the instances that the root needs are within the limits.
use Rattle.std.specs.Prelude.{◌≡◌, ℕ, List, Ok, Err}
use Rattle.std.specs.declared.result.Result.{Result}
use Rattle.ground_instances.specs.Instances.{IsPullAnswer}
use Rattle.ground_instances.specs.Keys.{judged_by}
use Rattle.ground_instances.specs.declared.instance.Instance.{Instance}
use Rattle.ground_instances.specs.declared.instance.PullFault.{PullFault}
use Rattle.ground_instances.specs.declared.instance.PullFault.TheVariants as pull_fault
use Rattle.step_check.specs.declared.verdict.Verdicts.{Verdicts}
use Rattle.dk_cli.specs.declared.derivation.Derivation.{Derivation}
use Rattle.dk_cli.specs.declared.refusal.Refusal.{Refusal}
use Rattle.dk_cli.specs.declared.refusal.Refusal.TheVariants as refusal

-- The instances themselves are not handed on.
abbrev pub weight_told : Result (List Instance) PullFault → Result Unit Refusal
weight_told (Ok instances) = Ok tt
weight_told (Err (pull_fault.OverWeight limit)) = Err (refusal.OverWeight limit)
weight_told (Err (pull_fault.OverWide step)) = Err (refusal.OverWide step)
weight_told (Err pull_fault.Memory) = Err refusal.Memory

-- The instances that the root needs, as the verdicts tell, weigh no more than the limit, and none of them is too wide; or
-- they weigh more, or this is the step of the first that is too wide.
abbrev pub IsWeighed : Derivation → ℕ → ℕ → Verdicts → Result Unit Refusal → Type 0
IsWeighed d limit root verdicts answer =
    (found : Result (List Instance) PullFault) × IsPullAnswer (judged_by d.trace d.graph verdicts) root limit found × (answer ≡ weight_told found)
