-- The lines of the report on the steps of a trace.
use Rattle.std.specs.Prelude.{◌≡◌, ℕ, suc, List, [], ◌∷◌, ◌++◌, Some, slice_get, codes, decimal}
use Rattle.step_check.specs.declared.verdict.Verdict.{Verdict}
use Rattle.tptp_text.specs.Printed.{printed_item_name}
use Rattle.tstp_trace.specs.declared.step.Step.{Step}
use Rattle.extract.specs.Words.{verdict_text}

-- The step's number, its name, the word for its verdict, and a newline.
abbrev pub line_of : ℕ → Step → Verdict → List ℕ
line_of number step verdict = decimal number ++ codes " " ++ printed_item_name step.name ++ codes " " ++ verdict_text verdict ++ 10 ∷ []

-- The line of the step with that number, by the verdicts on all steps. Steps count from 1.
pub record IsLineOf (steps : List Step) (verdicts : List Verdict) (number : ℕ) (text : List ℕ) : Type 0 where
  pub place : ℕ
  pub step : Step
  pub verdict : Verdict
  pub numbered : number ≡ suc place
  pub stands : slice_get steps place ≡ Some step
  pub judged : slice_get verdicts place ≡ Some verdict
  pub is : text ≡ line_of number step verdict

-- The lines of steps in order, the first of which has that number.
abbrev pub lines_from : ℕ → List Step → List Verdict → List ℕ
lines_from number (step ∷ steps) (verdict ∷ verdicts) = line_of number step verdict ++ lines_from (suc number) steps verdicts
lines_from number steps verdicts = []

-- The lines of all steps.
abbrev pub lines_of : List Step → List Verdict → List ℕ
lines_of steps verdicts = lines_from 1 steps verdicts
