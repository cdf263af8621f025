-- How a list of steps is cut into pieces. Only private contracts cite this.
use Rattle.std.specs.Prelude.{◌≡◌, ℕ, ◌+◌, ◌*◌, ◌/◌, List, length}
use Rattle.step_check.specs.Freshness.{HaveVerdicts}
use Rattle.step_check.specs.Steps.{Case}
use Rattle.step_check.specs.declared.verdict.Verdict.{Verdict}

-- how many of the steps stand before a piece, of so many pieces
abbrev pub start_of : ℕ → ℕ → ℕ → ℕ
start_of steps pieces piece = piece * steps / pieces

-- The verdicts, before freshness, on the steps of the pieces from low up to high.
pub record IsPiece (case : Case) (pieces low high : ℕ) (verdicts : List Verdict) : Type 0 where
  pub each : HaveVerdicts case (start_of (length case.rows) pieces low) verdicts
  pub long : start_of (length case.rows) pieces low + length verdicts ≡ start_of (length case.rows) pieces high
