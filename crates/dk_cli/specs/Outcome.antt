-- What the files of a command give: its text, or the first refusal. It does not depend on the number of workers, which
-- is no part of a command.
use Rattle.std.specs.Prelude.{◌≡◌, ◌≢◌, ℕ, List, Ok, Err}
use Rattle.std.specs.declared.option.Option.{Option}
use Rattle.std.specs.declared.result.Result.{Result}
use Rattle.words.specs.Usage.{usage_text}
use Rattle.dk_cli.specs.Commands.{Command, check, convert, expansion, extract, generate, help, steps}
use Rattle.dk_cli.specs.Checking.{IsCheckedAt}
use Rattle.dk_cli.specs.Conversion.{IsDeveloped}
use Rattle.dk_cli.specs.Derivations.{IsDerivationAt}
use Rattle.dk_cli.specs.Expansion.{IsExpanded}
use Rattle.dk_cli.specs.Extraction.{IsExtracted}
use Rattle.dk_cli.specs.Generation.{IsGenerated}
use Rattle.dk_cli.specs.Stages.{Follows}
use Rattle.dk_cli.specs.StepReport.{IsReported}
use Rattle.dk_cli.specs.declared.refusal.Refusal.{Refusal}
use Rattle.dk_cli.specs.declared.refusal.Refusal.TheVariants.{Memory}

-- What the files give to the command.
abbrev pub IsGiven : Command → (List ℕ → Option (List ℕ)) → Result (List ℕ) Refusal → Type 0
IsGiven (convert syntax names limit) files answer = Follows (IsDerivationAt names files) (IsDeveloped syntax limit) answer
IsGiven (steps names) files answer = Follows (IsDerivationAt names files) IsReported answer
IsGiven (extract names) files answer = Follows (IsDerivationAt names files) IsExtracted answer
IsGiven (expansion names limit) files answer = Follows (IsDerivationAt names files) (IsExpanded limit) answer
IsGiven (check syntax name) files answer = IsCheckedAt syntax name files answer
IsGiven (generate number) files answer = IsGenerated number answer
IsGiven help files answer = answer ≡ Ok usage_text

-- The outcome of a command: what the files give where there is memory.
pub record IsOutcome (command : Command) (files : List ℕ → Option (List ℕ)) (answer : Result (List ℕ) Refusal) : Type 0 where
  pub given : IsGiven command files answer
  pub memory : answer ≢ Err Memory
