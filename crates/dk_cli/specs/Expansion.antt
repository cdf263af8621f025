-- What `expansion` writes of a derivation: the report on the plan that its proof is made from.
use Rattle.std.specs.Prelude.{◌≡◌, ℕ, List, Ok, None, Some}
use Rattle.std.specs.declared.result.Result.{Result}
use Rattle.std.specs.Io.KnownBytes.{Appends}
use Rattle.dk_io.specs.Outside.{Told}
use Rattle.extract.specs.ExpansionReport.{report_text}
use Rattle.plan.specs.Plans.{IsPlan}
use Rattle.plan.specs.declared.plan.Plan.{Plan}
use Rattle.words.specs.Commands.{Names}
use Rattle.dk_cli.specs.Delivery.{Change}
use Rattle.dk_cli.specs.Derivations.{IsDerivationAt}
use Rattle.dk_cli.specs.Planning.{IsPlanOf}
use Rattle.dk_cli.specs.Stages.{Follows}
use Rattle.dk_cli.specs.declared.derivation.Derivation.{Derivation}
use Rattle.dk_cli.specs.declared.refusal.Refusal.{Refusal}

-- The report, with that limit on the weight.
abbrev pub IsExpanded : ℕ → Derivation → Result (List ℕ) Refusal → Type 0
IsExpanded limit d answer = Follows (IsPlanOf limit d) (λ plan end. end ≡ Ok (report_text d.trace.steps plan)) answer

-- Where the inputs tell their bytes, the sink has the report on the plan for the two files' derivation more.
abbrev pub WritesReport : Told → Names → ℕ → Change → Type 0
WritesReport None names limit out = Unit {0}
WritesReport (Some files) names limit out = (d : Derivation) × IsDerivationAt names files (Ok d)
    × ((plan : Plan) × IsPlan d.problem d.trace limit plan × Appends out.old out.new (report_text d.trace.steps plan))
