-- What `generate` writes: how a problem of the generated family and its trace go through the program, in one line.
use Rattle.std.specs.Prelude.{◌≡◌, ℕ, List, ◌++◌, length, Ok, codes, decimal}
use Rattle.std.specs.declared.result.Result.{Result}
use Rattle.std.specs.Io.KnownBytes.{Appends}
use Rattle.generator.specs.Files.{problem_text, trace_text}
use Rattle.plan.specs.Plans.{IsPlan}
use Rattle.plan.specs.declared.plan.Plan.{Plan}
use Rattle.dk_cli.specs.Checking.{IsCheckedIn, typed_text}
use Rattle.dk_cli.specs.Conversion.{IsWritten}
use Rattle.dk_cli.specs.Delivery.{Change}
use Rattle.dk_cli.specs.Derivations.{IsDerivationIn}
use Rattle.dk_cli.specs.Planning.{IsPlanOf}
use Rattle.dk_cli.specs.Proof.{IsProofText}
use Rattle.dk_cli.specs.Stages.{Follows}
use Rattle.dk_cli.specs.declared.derivation.Derivation.{Derivation}
use Rattle.dk_cli.specs.declared.refusal.Refusal.{Refusal}
use Rattle.dk_cli.specs.declared.syntax.Syntax.TheVariants.{Lambdapi}

-- The limit on the weight: that of `convert` where none is given.
abbrev pub made_limit : ℕ
made_limit = 1000000

-- generate NUMBER: .. hypotheses, .. steps, .. instances, .. eigenvariables, weight .., typed
abbrev pub counts_text : ℕ → ℕ → ℕ → ℕ → ℕ → ℕ → List ℕ
counts_text number hypotheses steps instances eigenvariables weight =
    codes "generate " ++ decimal number ++ codes ": " ++ decimal hypotheses ++ codes " hypotheses, " ++ decimal steps ++ codes " steps, "
    ++ decimal instances ++ codes " instances, " ++ decimal eigenvariables ++ codes " eigenvariables, weight " ++ decimal weight
    ++ codes ", typed\n"

-- The counts of a derivation and its plan.
abbrev pub summary_text : ℕ → Derivation → Plan → List ℕ
summary_text number d plan =
    counts_text number (length d.problem.hyps) (length d.trace.steps) (length plan.instances.rows) (length plan.order) plan.weight

-- What the text of a development gives: it is read back and accepted, and then the summary is told.
abbrev pub IsSummaryOf : ℕ → Derivation → Plan → List ℕ → Result (List ℕ) Refusal → Type 0
IsSummaryOf number d plan text answer = Follows (IsCheckedIn Lambdapi text) (λ said end. end ≡ Ok (summary_text number d plan)) answer

-- What a plan gives.
abbrev pub IsSummarized : ℕ → Derivation → Plan → Result (List ℕ) Refusal → Type 0
IsSummarized number d plan answer = Follows (IsWritten Lambdapi d plan) (IsSummaryOf number d plan) answer

-- What a derivation gives.
abbrev pub IsSummed : ℕ → Derivation → Result (List ℕ) Refusal → Type 0
IsSummed number d answer = Follows (IsPlanOf made_limit d) (IsSummarized number d) answer

-- What the family's member of that number gives.
abbrev pub IsGenerated : ℕ → Result (List ℕ) Refusal → Type 0
IsGenerated number answer = Follows (IsDerivationIn (problem_text number) (trace_text number)) (IsSummed number) answer

-- The sink has the summary of the family's member more. The text of a proof of its problem was made from its plan, and is accepted
-- by the type checker.
abbrev pub WritesSummary : ℕ → Change → Type 0
WritesSummary number out = (d : Derivation) × IsDerivationIn (problem_text number) (trace_text number) (Ok d)
    × ((plan : Plan) × IsPlan d.problem d.trace made_limit plan
    × ((text : List ℕ) × IsWritten Lambdapi d plan (Ok text) × IsProofText Lambdapi d.problem text × IsCheckedIn Lambdapi text (Ok typed_text)
    × Appends out.old out.new (summary_text number d plan)))
