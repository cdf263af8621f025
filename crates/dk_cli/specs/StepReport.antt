-- What `steps` writes of a derivation: the lines of its verdicts, also where steps are wrong.
use Rattle.std.specs.Prelude.{◌≡◌, ℕ, List, Ok, None, Some}
use Rattle.std.specs.declared.result.Result.{Result}
use Rattle.std.specs.Io.KnownBytes.{Appends}
use Rattle.dk_io.specs.Outside.{Told}
use Rattle.extract.specs.StepLines.{lines_of}
use Rattle.step_check.specs.declared.verdict.Verdict.{Verdict}
use Rattle.words.specs.Commands.{Names}
use Rattle.dk_cli.specs.Delivery.{Change}
use Rattle.dk_cli.specs.Derivations.{IsDerivationAt}
use Rattle.dk_cli.specs.Judging.{HasVerdicts}
use Rattle.dk_cli.specs.declared.derivation.Derivation.{Derivation}
use Rattle.dk_cli.specs.declared.refusal.Refusal.{Refusal}

abbrev pub IsReported : Derivation → Result (List ℕ) Refusal → Type 0
IsReported d answer = (verdicts : List Verdict) × HasVerdicts d verdicts × (answer ≡ Ok (lines_of d.trace.steps verdicts))

-- Where the inputs tell their bytes, the sink has the lines of the verdicts on the steps of the two files' derivation more.
abbrev pub WritesLines : Told → Names → Change → Type 0
WritesLines None names out = Unit {0}
WritesLines (Some files) names out = (d : Derivation) × IsDerivationAt names files (Ok d)
    × ((verdicts : List Verdict) × HasVerdicts d verdicts × Appends out.old out.new (lines_of d.trace.steps verdicts))
